-- `ask_header_names::add_header_list` meets its contract.
use native.Mathlib.Omega.{arith}
use borrow.Author.Rules.{rules}
use Rattle.scan_depfile.proofs.Laws.{name_listed, list_over, list_malformed}
use Rattle.ask_header_names.proofs.Listing as loop
use Rattle.ask_header_names.proofs.Listing.{list_begin, list_asks, list_on, list_end, list_bad}
use Rattle.ask_header_names.proofs.add_header_list.Goals as goal

pub loop-next-init : goal.loop-next-init
loop-next-init c = list_begin c.requires

pub next_prerequisite-requires : goal.next_prerequisite-requires
next_prerequisite-requires c = c.loop-next.invariant.within

pub add_header-requires : goal.add_header-requires
add_header-requires c = list_asks c.loop-next.invariant c.next_prerequisite.auto.word

pub loop-next-smaller : goal.loop-next-smaller
loop-next-smaller c = let l = name_listed _ _ _ _ _ c.next_prerequisite.ensures c.in-Name.is in omega (arith, l.forward, l.within)

pub loop-next-preserved : goal.loop-next-preserved
loop-next-preserved c = list_on c.loop-next.invariant c.next_prerequisite.auto.word (name_listed _ _ _ _ _ c.next_prerequisite.ensures c.in-Name.is) c.add_header.auto.names c.add_header.auto.index c.add_header.auto.graph (rw c.in_ok-d-in-Name.was at c.add_header.ensures.promise)

pub returns-in_err-d-in-Name : goal.returns-in_err-d-in-Name
returns-in_err-d-in-Name c = record { space = (record { long = (search rules) }, record { long = (search rules) }, record { long = (search rules) }, record { long = (search rules) }); promise = rw c.from_residual.ensures (loop.list_over c.loop-next.invariant c.next_prerequisite.auto.word (name_listed _ _ _ _ _ c.next_prerequisite.ensures c.in-Name.is) (rw c.in_err-d-in-Name.was at c.add_header.ensures.promise)) }

pub returns-in-End : goal.returns-in-End
returns-in-End c = record { space = (record { long = (search rules) }, record { long = (search rules) }, record { long = (search rules) }, record { long = (search rules) }); promise = list_end c.loop-next.invariant (list_over _ _ _ _ _ c.next_prerequisite.ensures c.in-End.is) }

pub returns-in-Malformed : goal.returns-in-Malformed
returns-in-Malformed c = record { space = (record { long = (search rules) }, record { long = (search rules) }, record { long = (search rules) }, record { long = (search rules) }); promise = list_bad c.loop-next.invariant (list_malformed _ _ _ _ _ c.next_prerequisite.ensures c.in-Malformed.is) }
