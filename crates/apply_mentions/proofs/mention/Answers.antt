-- `apply_mentions::mention` meets its contract.
-- past the limits
use borrow.Author.Rules.{rules}
use mathlib.Core.Bool.{false}
use mathlib.Core.Path.{◌≡◌, sym, ◌∙◌}
use native.Mathlib.Omega.{arith}
use Rattle.apply_files.specs.Path.{path_over}
use Rattle.apply_mentions.proofs.Mentioning.{mention_over, path_fits, path_counted, mention_fits, mention_marked}
use Rattle.apply_mentions.proofs.mention.Goals as goal

pub returns-then-path_over : goal.returns-then-path_over
returns-then-path_over c = record { space = search rules; promise = mention_over c.requires c.expand-n.ensures (sym c.path_over.ensures ∙ c.if-path_over.true) }

pub slice_bounds-add_path-end : goal.slice_bounds-add_path-end
slice_bounds-add_path-end c = let inside : path_over c.expand-n.result c.args.c ≡ false = sym c.path_over.ensures ∙ c.if-path_over.false in
    omega (arith, path_fits c.requires c.expand-n.ensures (inside))

pub slice_bounds-add_path-end-2 : goal.slice_bounds-add_path-end-2
slice_bounds-add_path-end-2 c = let inside : path_over c.expand-n.result c.args.c ≡ false = sym c.path_over.ensures ∙ c.if-path_over.false in
    sym (path_counted c.requires c.expand-n.ensures (inside))

pub add_path-requires : goal.add_path-requires
add_path-requires c = let inside : path_over c.expand-n.result c.args.c ≡ false = sym c.path_over.ensures ∙ c.if-path_over.false in
    mention_fits c.requires c.expand-n.ensures (inside)

pub returns : goal.returns
returns c = let inside : path_over c.expand-n.result c.args.c ≡ false = sym c.path_over.ensures ∙ c.if-path_over.false in
    record { space = search rules; promise = mention_marked c.requires c.expand-n.ensures (inside) c.add_path.ensures.promise }
