-- `ask_header_list::mention_listed` meets its contract.
use mathlib.Core.Path.{refl}
use native.Mathlib.Omega.{arith}
use Rattle.ask_header_list.proofs.Telling.{tells_unnamed, tells_absent, tells_malformed, tells_on, tells_over, tells_as, told_low, told_asks, told_more}
use Rattle.ask_header_list.proofs.mention_listed.Goals as goal

pub record_text-text-requires : goal.record_text-text-requires
record_text-text-requires c = record { laid_bundle = c.requires.laid; k_bound = told_low c.requires c.in-Lists.is }

pub add_header_list-requires : goal.add_header_list-requires
add_header_list-requires c = told_asks c.requires c.in-Lists.is c.record_text-text.ensures

pub overflow_sub-result : goal.overflow_sub-result
overflow_sub-result c = omega (arith, (told_more c.requires c.in_ok-d-in-Lists.was c.add_header_list.ensures.promise).0)

pub overflow_mul-result : goal.overflow_mul-result
overflow_mul-result c = record { fits = omega (arith, (told_more c.requires c.in_ok-d-in-Lists.was c.add_header_list.ensures.promise).1) }

pub returns-in-Unnamed : goal.returns-in-Unnamed
returns-in-Unnamed c = record { space = (record { long = refl }, record { long = refl }, record { long = refl }, record { long = refl }); promise = tells_as c.in-Unnamed.is tells_unnamed }

pub returns-in-Absent : goal.returns-in-Absent
returns-in-Absent c = record { space = (record { long = refl }, record { long = refl }, record { long = refl }, record { long = refl }); promise = tells_as c.in-Absent.is tells_absent }

pub returns-in-Malformed : goal.returns-in-Malformed
returns-in-Malformed c = record { space = (record { long = refl }, record { long = refl }, record { long = refl }, record { long = refl }); promise = tells_as c.in-Malformed.is tells_malformed }

pub returns-in_ok-d-in-Lists : goal.returns-in_ok-d-in-Lists
returns-in_ok-d-in-Lists c = record { space = (record { long = (c.add_header_list.auto.names) }, record { long = (c.add_header_list.auto.index) }, record { long = (c.add_header_list.auto.graph) }, record { long = (c.add_header_list.auto.word) }); promise = tells_as c.in-Lists.is (tells_on c.record_text-text.ensures c.in_ok-d-in-Lists.was c.add_header_list.ensures.promise) }

pub shape_of-names-in_err-d-in-Lists : goal.shape_of-names-in_err-d-in-Lists
shape_of-names-in_err-d-in-Lists c = c.add_header_list.auto.names

pub shape_of-index-in_err-d-in-Lists : goal.shape_of-index-in_err-d-in-Lists
shape_of-index-in_err-d-in-Lists c = c.add_header_list.auto.index

pub shape_of-second-in_err-d-in-Lists : goal.shape_of-second-in_err-d-in-Lists
shape_of-second-in_err-d-in-Lists c = c.add_header_list.auto.graph

pub shape_of-word-in_err-d-in-Lists : goal.shape_of-word-in_err-d-in-Lists
shape_of-word-in_err-d-in-Lists c = c.add_header_list.auto.word

pub returns-in_err-d-in-Lists : goal.returns-in_err-d-in-Lists
returns-in_err-d-in-Lists c = record { space = (record { long = (c.add_header_list.auto.names) }, record { long = (c.add_header_list.auto.index) }, record { long = (c.add_header_list.auto.graph) }, record { long = (c.add_header_list.auto.word) }); promise = rw c.from_residual.ensures (tells_as c.in-Lists.is (tells_over c.record_text-text.ensures c.in_err-d-in-Lists.was c.add_header_list.ensures.promise)) }
