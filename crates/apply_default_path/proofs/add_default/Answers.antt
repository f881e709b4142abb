-- `apply_default_path::add_default` meets its contract.
-- past the limits
use borrow.Author.Rules.{rules}
use mathlib.Core.Bool.{false}
use mathlib.Core.Path.{◌≡◌, sym, ◌∙◌}
use native.Mathlib.Omega.{arith}
use Rattle.apply_path_checks.proofs.Makers.{word_counted, files_held}
use Rattle.apply_files.specs.Path.{path_over}
use Rattle.apply_files.proofs.Limits.{path_within}
use Rattle.apply_default_path.proofs.Putting.{default_over, default_added}
use Rattle.apply_default_path.proofs.add_default.Goals as goal

pub path_over-requires : goal.path_over-requires
path_over-requires c = let h = c.requires.whole.holds in (h.graphed.mentions_low, h.bound.few_written)

pub returns-then-path_over : goal.returns-then-path_over
returns-then-path_over c = record { space = search rules; promise = default_over c.args.raw.now c.expand-n.ensures (sym c.path_over.ensures ∙ c.if-path_over.true) }

pub slice_bounds-put_default-end : goal.slice_bounds-put_default-end
slice_bounds-put_default-end c = let inside : path_over c.expand-n.result c.args.c ≡ false = sym c.path_over.ensures ∙ c.if-path_over.false in
    let w = path_within _ _ (inside) in omega (arith, w.short, c.requires.room)

pub slice_bounds-put_default-end-2 : goal.slice_bounds-put_default-end-2
slice_bounds-put_default-end-2 c =
    let inside : path_over c.expand-n.result c.args.c ≡ false = sym c.path_over.ensures ∙ c.if-path_over.false in
    let w = path_within _ _ (inside) in
    sym (word_counted c.args.raw.now c.expand-n.ensures c.requires.whole (omega (arith, w.short, c.requires.room)))

pub put_default-requires : goal.put_default-requires
put_default-requires c =
    let inside : path_over c.expand-n.result c.args.c ≡ false = sym c.path_over.ensures ∙ c.if-path_over.false in
    let w = path_within _ _ (inside) in
    record {
      files = files_held c.requires.whole;
      within = rw (word_counted c.args.raw.now c.expand-n.ensures c.requires.whole (omega (arith, w.short, c.requires.room))) (inside);
    }

pub returns : goal.returns
returns c = let inside : path_over c.expand-n.result c.args.c ≡ false = sym c.path_over.ensures ∙ c.if-path_over.false in
    record {
      space = search rules;
      promise = let w = path_within _ _ (inside) in
          default_added c.args.raw.now c.expand-n.ensures (omega (arith, w.short, c.requires.room)) (inside) c.put_default.ensures;
    }
