use Prim.Native.Nat.{◌-◌}
use Rattle.spec.specs.Card.{card_entries}
use Rattle.scan_card_lookup.proofs.Search.{Searching}
use Rattle.scan_card_lookup.proofs.time_of.Given as goal

abbrev pub invariant-loop-low : goal.invariant-loop-low
invariant-loop-low l = Searching (card_entries l.card) l.name l.low l.high

abbrev pub decreases-loop-low : goal.decreases-loop-low
decreases-loop-low l = l.high - l.low
