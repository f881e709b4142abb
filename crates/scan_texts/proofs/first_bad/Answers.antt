-- `scan_texts::first_bad` meets its contract: the texts before the one at hand have no bad byte.
use Rattle.scan_texts.proofs.Texts.{laid, bundle_head, bad_begin, bad_end, bad_here, bad_on, bad_near}
use Rattle.scan_bundle.proofs.Lying.{length_texts}
use native.Mathlib.Omega.{arith}
use Rattle.scan_texts.proofs.first_bad.Goals as goal

pub word-n-requires : goal.word-n-requires
word-n-requires c = omega (arith, bundle_head _ c.requires.sound)

pub loop-k-init : goal.loop-k-init
loop-k-init c = bad_begin _

pub record_text-requires : goal.record_text-requires
record_text-requires c = record { laid_bundle = laid _ c.requires.sound; k_bound = omega (arith, c.word-n.ensures.is, c.loop-k-test.true) }

pub text_base-requires : goal.text_base-requires
text_base-requires c = record { laid_bundle = laid _ c.requires.sound; k_bound = omega (arith, c.word-n.ensures.is, c.loop-k-test.true) }

pub overflow_add-result : goal.overflow_add-result
overflow_add-result c = omega (arith, bad_near c.args.b.now c.requires _ (omega (arith, c.word-n.ensures.is, c.loop-k-test.true)) c.record_text.ensures _ c.bad_byte.ensures c.in-Some.is c.text_base.ensures)

pub returns-in-Some : goal.returns-in-Some
returns-in-Some c = bad_here c.loop-k.invariant (omega (arith, length_texts c.args.b.now, c.word-n.ensures.is, c.loop-k-test.true)) c.record_text.ensures _ c.bad_byte.ensures c.in-Some.is c.text_base.ensures

pub loop-k-preserved : goal.loop-k-preserved
loop-k-preserved c = bad_on c.loop-k.invariant (omega (arith, length_texts c.args.b.now, c.word-n.ensures.is, c.loop-k-test.true)) c.record_text.ensures _ c.bad_byte.ensures c.in_default.is

pub returns : goal.returns
returns c = bad_end c.loop-k.invariant (omega (arith, length_texts c.args.b.now, c.word-n.ensures.is, c.loop-k-test.false))
