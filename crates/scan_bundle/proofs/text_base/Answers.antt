-- `scan_bundle::text_base` meets its contract.
use native.Mathlib.Omega.{arith}
use Rattle.scan_bundle.proofs.Lying.{record_lies}
use Rattle.scan_bundle.proofs.Places.{based}
use Rattle.scan_bundle.proofs.text_base.Goals as goal

pub overflow_mul-k : goal.overflow_mul-k
overflow_mul-k c = let y = record_lies _ c.requires.laid_bundle _ c.requires.k_bound in omega (arith, y.within, y.room)

pub overflow_add-k : goal.overflow_add-k
overflow_add-k c = let y = record_lies _ c.requires.laid_bundle _ c.requires.k_bound in omega (arith, y.within, y.room)

pub word-requires : goal.word-requires
word-requires c = let y = record_lies _ c.requires.laid_bundle _ c.requires.k_bound in omega (arith, y.within, y.room)

pub word-requires-2 : goal.word-requires-2
word-requires-2 c = let y = record_lies _ c.requires.laid_bundle _ c.requires.k_bound in omega (arith, y.within, y.room)

pub overflow_sub-result : goal.overflow_sub-result
overflow_sub-result c = let x = based _ c.requires.laid_bundle _ c.requires.k_bound in omega (arith, x.forward, c.word.ensures.is, c.word-2.ensures.is)

pub overflow_add-result : goal.overflow_add-result
overflow_add-result c = let y = record_lies _ c.requires.laid_bundle _ c.requires.k_bound in omega (arith, y.within, y.room, c.word.ensures.small)

pub returns : goal.returns
returns c = rw (c.word.ensures.is, c.word-2.ensures.is) (based _ c.requires.laid_bundle _ c.requires.k_bound).is
