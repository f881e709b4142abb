-- `ask_target_files::number_targets` meets its contract.
use mathlib.Core.Path.{refl, sym, ◌∙◌}
use native.Mathlib.Omega.{arith}
use Rattle.ask_target_files.proofs.Numbering.{form_bad, begin, ended, bad, turn, unknown, known, more}
use borrow.Author.Rules.{rules}
use Rattle.ask_target_files.proofs.number_targets.Goals as goal

pub returns-then-bad_form : goal.returns-then-bad_form
returns-then-bad_form c = record { space = record { long = refl }; promise = form_bad (sym c.bad_form.ensures ∙ c.if-bad_form.true) }

pub loop-end-init : goal.loop-end-init
loop-end-init c = begin c.requires (sym c.bad_form.ensures ∙ c.if-bad_form.false)

pub returns-in-End : goal.returns-in-End
returns-in-End c = record { space = record { long = (search rules) }; promise = ended c.loop-end.invariant c.name_at.ensures c.in-End.is }

pub returns-in-Bad : goal.returns-in-Bad
returns-in-Bad c = record { space = record { long = (search rules) }; promise = bad c.loop-end.invariant c.name_at.ensures c.in-Bad.is }

pub slice_bounds-find_name-count : goal.slice_bounds-find_name-count
slice_bounds-find_name-count c = let t = turn c.loop-end.invariant c.name_at.ensures c.in-Name.is in omega (arith, t.some, t.within)

pub slice_bounds-find_name-start : goal.slice_bounds-find_name-start
slice_bounds-find_name-start c = let t = turn c.loop-end.invariant c.name_at.ensures c.in-Name.is in omega (arith, t.some, t.within)

pub slice_bounds-find_name-end : goal.slice_bounds-find_name-end
slice_bounds-find_name-end c = let t = turn c.loop-end.invariant c.name_at.ensures c.in-Name.is in omega (arith, t.some, t.within)

pub returns-in_default : goal.returns-in_default
returns-in_default c = record { space = record { long = (search rules) }; promise = unknown c.loop-end.invariant c.name_at.ensures c.in-Name.is c.find_name.ensures c.in_default.is }

pub overflow_cast-out : goal.overflow_cast-out
overflow_cast-out c = let h = known c.loop-end.invariant c.name_at.ensures c.in-Name.is c.find_name.ensures c.in-Some.is in search rules

pub overflow_add-from : goal.overflow_add-from
overflow_add-from c = let t = turn c.loop-end.invariant c.name_at.ensures c.in-Name.is in search rules

pub loop-end-smaller : goal.loop-end-smaller
loop-end-smaller c = let t = turn c.loop-end.invariant c.name_at.ensures c.in-Name.is in omega (arith, t.some, t.within)

pub loop-end-preserved : goal.loop-end-preserved
loop-end-preserved c = more c.loop-end.invariant c.name_at.ensures c.in-Name.is c.find_name.ensures c.in-Some.is
