-- `ask_plan_roots::find_roots` meets its contract.
use Rattle.ask_plan_roots.proofs.Choosing.{found_some, found_stepless, found_none}
use borrow.Author.Rules.{rules}
use Rattle.ask_plan_roots.proofs.find_roots.Goals as goal

pub returns-then-k-gt0 : goal.returns-then-k-gt0
returns-then-k-gt0 c = record { space = record { long = (search rules) }; promise = found_some c.put_roots-k.ensures.promise c.if-k-gt0.true }

pub returns-then-g-eq0 : goal.returns-then-g-eq0
returns-then-g-eq0 c = record { space = record { long = (search rules) }; promise = found_stepless c.put_roots-k.ensures.promise c.if-g-eq0.true }

pub returns : goal.returns
returns c = record { space = record { long = (search rules) }; promise = found_none c.put_roots-k.ensures.promise c.if-k-gt0.false c.if-g-eq0.false }
