-- `scan_cursor::lines_from` meets its contract.
use Rattle.std.proofs.Common.{ap, Bor, List, ℕ}
use Rattle.scan_cursor.proofs.Finding.{read_begin, read_ask, read_turn, read_less, read_end}
use Rattle.scan_cursor.proofs.lines_from.Goals as goal

pub loop-f-init : goal.loop-f-init
loop-f-init c = read_begin c.requires (ap (λ (b : Bor (List ℕ)). b.now) c.start-r.ensures.0) c.start-r.ensures.1

pub loop-f-smaller : goal.loop-f-smaller
loop-f-smaller c = read_less c.loop-f.invariant c.loop-f-test.true c.next_line-s.ensures c.put_line-f.ensures

pub loop-f-preserved : goal.loop-f-preserved
loop-f-preserved c = read_turn c.loop-f.invariant c.loop-f-test.true c.next_line-s.ensures c.put_line-f.ensures (ap (λ (b : Bor (List ℕ)). b.now) c.moved-r.ensures.0) c.moved-r.ensures.1

pub put_line-f-requires : goal.put_line-f-requires
put_line-f-requires c = read_ask c.loop-f.invariant c.loop-f-test.true c.next_line-s.ensures c.requires.small

pub returns : goal.returns
returns c = read_end c.loop-f.invariant c.loop-f-test.false
