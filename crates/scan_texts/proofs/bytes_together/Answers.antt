-- `scan_texts::bytes_together` meets its contract.
use Rattle.scan_texts.proofs.Texts.{bundle_head, texts_before, texts_together}
use native.Mathlib.Omega.{arith}
use Rattle.scan_texts.proofs.bytes_together.Goals as goal

pub word-n-requires : goal.word-n-requires
word-n-requires c = omega (arith, bundle_head _ c.requires)

pub word-first-requires : goal.word-first-requires
word-first-requires c = omega (arith, bundle_head _ c.requires)

pub overflow_sub-result : goal.overflow_sub-result
overflow_sub-result c = texts_before c.args.b.now c.requires c.word-n.ensures.is c.word-first.ensures.is

pub returns : goal.returns
returns c = texts_together c.args.b.now c.requires c.word-n.ensures.is c.word-first.ensures.is
