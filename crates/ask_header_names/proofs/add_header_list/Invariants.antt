use Prim.Native.Nat.{◌-◌}
use lib.ListN.{length}
use Rattle.ask_header_names.proofs.Listing.{Listing}
use Rattle.ask_header_names.proofs.add_header_list.Given as goal

abbrev pub invariant-loop-next : goal.invariant-loop-next
invariant-loop-next l = Listing l.text l.from l.initial.names l.initial.index l.initial.graph l.initial.word l.initial.d l.names l.index l.graph l.word l.i l.d

abbrev pub decreases-loop-next : goal.decreases-loop-next
decreases-loop-next l = length l.text - l.i
