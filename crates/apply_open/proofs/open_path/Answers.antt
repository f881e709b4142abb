use borrow.Author.Rules.{rules}
use Rattle.apply_open.proofs.Paths.{opens_empty, opens_over, opens_many, opens_missing, opens_found, path_fits, path_kept, path_counted}
use Rattle.hold_reading.proofs.Lift.{none_bound}
use Rattle.spec.specs.Bundle.{bundle_names}
use mathlib.Core.Path.{sym, ◌∙◌}
use Rattle.apply_open.proofs.open_path.Goals as goal

pub expand-n-requires : goal.expand-n-requires
expand-n-requires c = c.requires.ready

pub returns-then-n-eq0 : goal.returns-then-n-eq0
returns-then-n-eq0 c = record { space = search rules; promise = let a = c.args in opens_empty (bundle_names a.b.now) a.start a.raw.now c.expand-n.ensures c.if-n-eq0.true }

pub open_over-requires : goal.open_over-requires
open_over-requires c = (none_bound c.requires.sound.known).few_written

pub returns-then-open_over : goal.returns-then-open_over
returns-then-open_over c = record { space = search rules; promise = let a = c.args in opens_over (bundle_names a.b.now) a.start a.raw.now c.expand-n.ensures c.if-n-eq0.false (sym c.open_over.ensures ∙ c.if-open_over.true) }

pub returns-then-c-ge-OPENED : goal.returns-then-c-ge-OPENED
returns-then-c-ge-OPENED c = record { space = search rules; promise = let a = c.args in opens_many (bundle_names a.b.now) a.start a.raw.now c.expand-n.ensures c.if-n-eq0.false (sym c.open_over.ensures ∙ c.if-open_over.false) c.if-c-ge-OPENED.true }

pub slice_bounds-find_named-end : goal.slice_bounds-find_named-end
slice_bounds-find_named-end c = path_kept c.args.raw.now c.requires c.expand-n.ensures (sym c.open_over.ensures ∙ c.if-open_over.false)

pub slice_bounds-find_named-end-2 : goal.slice_bounds-find_named-end-2
slice_bounds-find_named-end-2 c = sym (path_counted c.args.raw.now c.requires c.expand-n.ensures (sym c.open_over.ensures ∙ c.if-open_over.false))

pub find_named-requires : goal.find_named-requires
find_named-requires c = c.requires.laid

pub returns-in-Some : goal.returns-in-Some
returns-in-Some c = record { space = search rules; promise = let a = c.args in opens_found (bundle_names a.b.now) a.start a.raw.now c.expand-n.ensures c.if-n-eq0.false (sym c.open_over.ensures ∙ c.if-open_over.false) (path_fits a.raw.now c.requires c.expand-n.ensures (sym c.open_over.ensures ∙ c.if-open_over.false)) c.find_named.ensures c.in-Some.is c.if-c-ge-OPENED.false }

pub returns-in-None : goal.returns-in-None
returns-in-None c = record { space = search rules; promise = let a = c.args in opens_missing (bundle_names a.b.now) a.start a.raw.now c.expand-n.ensures c.if-n-eq0.false (sym c.open_over.ensures ∙ c.if-open_over.false) (path_fits a.raw.now c.requires c.expand-n.ensures (sym c.open_over.ensures ∙ c.if-open_over.false)) c.find_named.ensures c.in-None.is }
