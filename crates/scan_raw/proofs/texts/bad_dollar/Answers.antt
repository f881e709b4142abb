-- `scan_raw::texts::bad_dollar` meets its contract.
use mathlib.Core.Bool.{false}
use mathlib.Core.Path.{refl}
use native.Mathlib.Omega.{arith}
use borrow.Author.Tests.{ne_eqb}
use Rattle.scan_raw.specs.Texts.{ValueScanned}
use Rattle.scan_tokens.proofs.Places.{going_begin}
use Rattle.scan_dollars.proofs.Answers.{past_to, past_bad}
use Rattle.scan_raw.proofs.Cuts.{text_end, text_byte, text_past, text_bad, value_ends, value_bad}
use Rattle.scan_raw.proofs.texts.bad_dollar.Goals as goal

pub loop-i-init : goal.loop-i-init
loop-i-init c = going_begin (omega arith)

pub loop-i-smaller-then-raw-i-eq36 : goal.loop-i-smaller-then-raw-i-eq36
loop-i-smaller-then-raw-i-eq36 c = omega (arith, past_to _ _ _ c.past.ensures c.in-Some.is)

pub loop-i-preserved-then-raw-i-eq36 : goal.loop-i-preserved-then-raw-i-eq36
loop-i-preserved-then-raw-i-eq36 c = text_past (λ b. false) c.loop-i.invariant c.loop-i-test.true refl c.if-raw-i-eq36.true (past_to _ _ _ c.past.ensures c.in-Some.is)

pub returns-in_default : goal.returns-in_default
unfolding ValueScanned
returns-in_default c = value_bad _ _ c.loop-i-test.true (text_bad (λ b. false) c.loop-i.invariant c.loop-i-test.true refl c.if-raw-i-eq36.true (past_bad _ _ _ c.past.ensures c.in_default.is))

pub loop-i-preserved : goal.loop-i-preserved
loop-i-preserved c = text_byte (λ b. false) c.loop-i.invariant c.loop-i-test.true refl (ne_eqb _ _ c.if-raw-i-eq36.false)

pub returns : goal.returns
unfolding ValueScanned
returns c = value_ends _ c.loop-i.i (text_end (λ b. false) c.loop-i.invariant c.loop-i-test.false)
