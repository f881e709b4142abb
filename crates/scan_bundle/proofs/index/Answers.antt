-- `scan_bundle::index` meets its contract: the header and the extents, then the names sorted.
use mathlib.Core.Path.{sym, ◌∙◌}
use native.Mathlib.Omega.{arith}
use Rattle.scan_card.proofs.Rules.{layout}
use Rattle.scan_bundle.proofs.Lying.{laid_layout, laid_few}
use Rattle.scan_bundle.proofs.Checking.{index_unlaid, index_twice, index_sound}
use Rattle.scan_bundle.proofs.index.Goals as goal

pub returns-then-not-is_laid : goal.returns-then-not-is_laid
returns-then-not-is_laid c = index_unlaid _ _ _ (sym c.is_laid.ensures ∙ c.if-not-is_laid.true)

pub word-n-requires : goal.word-n-requires
word-n-requires c = let l = layout (laid_layout _ _ _ (sym c.is_laid.ensures ∙ c.if-not-is_laid.false)) in omega arith

pub sort_names-requires : goal.sort_names-requires
sort_names-requires c =
    let h = sym c.is_laid.ensures ∙ c.if-not-is_laid.false in
    record {
      laid_bundle = record { least = c.args.least; most = c.args.most; laid = h };
      n_value = (c.word-n.ensures.is, omega (arith, laid_few _ _ _ h, c.word-n.ensures.is, c.requires), c.word-n.ensures.small);
    }

pub shape_of-order-then-not-sort_names : goal.shape_of-order-then-not-sort_names
shape_of-order-then-not-sort_names c = c.sort_names.ensures.space.long

pub returns-then-not-sort_names : goal.returns-then-not-sort_names
returns-then-not-sort_names c = index_twice _ _ _ (sym c.is_laid.ensures ∙ c.if-not-is_laid.false) c.word-n.ensures.is c.sort_names.ensures (c.if-not-sort_names.true)

pub shape_of-order : goal.shape_of-order
shape_of-order c = c.sort_names.ensures.space.long

pub returns : goal.returns
returns c = index_sound _ _ _ (sym c.is_laid.ensures ∙ c.if-not-is_laid.false) c.word-n.ensures.is c.sort_names.ensures c.requires (c.if-not-sort_names.false)
