-- `known_key` meets its contract: key by key.
use borrow.Author.Tests.{eq-eqb, ne_eqb}
use Rattle.status_line.specs.Line.{known_key}
use Rattle.status_line.proofs.known_key.Goals as goal

pub returns-then-b-eq115 : goal.returns-then-b-eq115
unfolding known_key
returns-then-b-eq115 c = rw (eq-eqb c.args.b 115 c.if-b-eq115.true)

pub returns-then-b-eq116 : goal.returns-then-b-eq116
unfolding known_key
returns-then-b-eq116 c = rw (ne_eqb c.args.b 115 c.if-b-eq115.false, eq-eqb c.args.b 116 c.if-b-eq116.true)

pub returns-then-b-eq112 : goal.returns-then-b-eq112
unfolding known_key
returns-then-b-eq112 c = rw (ne_eqb c.args.b 115 c.if-b-eq115.false, ne_eqb c.args.b 116 c.if-b-eq116.false, eq-eqb c.args.b 112 c.if-b-eq112.true)

pub returns-then-b-eq114 : goal.returns-then-b-eq114
unfolding known_key
returns-then-b-eq114 c = rw (ne_eqb c.args.b 115 c.if-b-eq115.false, ne_eqb c.args.b 116 c.if-b-eq116.false, ne_eqb c.args.b 112 c.if-b-eq112.false, eq-eqb c.args.b 114 c.if-b-eq114.true)

pub returns-then-b-eq117 : goal.returns-then-b-eq117
unfolding known_key
returns-then-b-eq117 c = rw (ne_eqb c.args.b 115 c.if-b-eq115.false, ne_eqb c.args.b 116 c.if-b-eq116.false, ne_eqb c.args.b 112 c.if-b-eq112.false, ne_eqb c.args.b 114 c.if-b-eq114.false, eq-eqb c.args.b 117 c.if-b-eq117.true)

pub returns-then-b-eq102 : goal.returns-then-b-eq102
unfolding known_key
returns-then-b-eq102 c = rw (ne_eqb c.args.b 115 c.if-b-eq115.false, ne_eqb c.args.b 116 c.if-b-eq116.false, ne_eqb c.args.b 112 c.if-b-eq112.false, ne_eqb c.args.b 114 c.if-b-eq114.false, ne_eqb c.args.b 117 c.if-b-eq117.false, eq-eqb c.args.b 102 c.if-b-eq102.true)

pub returns-then-b-eq111 : goal.returns-then-b-eq111
unfolding known_key
returns-then-b-eq111 c = rw (ne_eqb c.args.b 115 c.if-b-eq115.false, ne_eqb c.args.b 116 c.if-b-eq116.false, ne_eqb c.args.b 112 c.if-b-eq112.false, ne_eqb c.args.b 114 c.if-b-eq114.false, ne_eqb c.args.b 117 c.if-b-eq117.false, ne_eqb c.args.b 102 c.if-b-eq102.false, eq-eqb c.args.b 111 c.if-b-eq111.true)

pub returns-then-b-eq99 : goal.returns-then-b-eq99
unfolding known_key
returns-then-b-eq99 c = rw (ne_eqb c.args.b 115 c.if-b-eq115.false, ne_eqb c.args.b 116 c.if-b-eq116.false, ne_eqb c.args.b 112 c.if-b-eq112.false, ne_eqb c.args.b 114 c.if-b-eq114.false, ne_eqb c.args.b 117 c.if-b-eq117.false, ne_eqb c.args.b 102 c.if-b-eq102.false, ne_eqb c.args.b 111 c.if-b-eq111.false, eq-eqb c.args.b 99 c.if-b-eq99.true)

pub returns-then-b-eq101 : goal.returns-then-b-eq101
unfolding known_key
returns-then-b-eq101 c = rw (ne_eqb c.args.b 115 c.if-b-eq115.false, ne_eqb c.args.b 116 c.if-b-eq116.false, ne_eqb c.args.b 112 c.if-b-eq112.false, ne_eqb c.args.b 114 c.if-b-eq114.false, ne_eqb c.args.b 117 c.if-b-eq117.false, ne_eqb c.args.b 102 c.if-b-eq102.false, ne_eqb c.args.b 111 c.if-b-eq111.false, ne_eqb c.args.b 99 c.if-b-eq99.false, eq-eqb c.args.b 101 c.if-b-eq101.true)

pub returns : goal.returns
unfolding known_key
returns c = rw (ne_eqb c.args.b 115 c.if-b-eq115.false, ne_eqb c.args.b 116 c.if-b-eq116.false, ne_eqb c.args.b 112 c.if-b-eq112.false, ne_eqb c.args.b 114 c.if-b-eq114.false, ne_eqb c.args.b 117 c.if-b-eq117.false, ne_eqb c.args.b 102 c.if-b-eq102.false, ne_eqb c.args.b 111 c.if-b-eq111.false, ne_eqb c.args.b 99 c.if-b-eq99.false, ne_eqb c.args.b 101 c.if-b-eq101.false)
