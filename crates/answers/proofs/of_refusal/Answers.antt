-- `answers::of_refusal` meets its contract.
use Rattle.spec.specs.Answers.{refusal_says, number_of_refusal, place_of_refusal}
use mathlib.Core.Path.{sym, ap, ◌∙◌}
use Rattle.answers.proofs.of_refusal.Goals as goal

pub returns-in-ShortBuffer : goal.returns-in-ShortBuffer
unfolding refusal_says number_of_refusal place_of_refusal
returns-in-ShortBuffer c = c.told.ensures ∙ ap refusal_says (sym c.in-ShortBuffer.is)

pub returns-in-LongManifest : goal.returns-in-LongManifest
unfolding refusal_says number_of_refusal place_of_refusal
returns-in-LongManifest c = c.told-in-LongManifest.ensures ∙ ap refusal_says (sym c.in-LongManifest.is)

pub returns-in-BadByte : goal.returns-in-BadByte
unfolding refusal_says number_of_refusal place_of_refusal
returns-in-BadByte c = c.told-in-BadByte.ensures ∙ ap refusal_says (sym c.in-BadByte.is)

pub returns-in-BadLine : goal.returns-in-BadLine
unfolding refusal_says number_of_refusal place_of_refusal
returns-in-BadLine c = c.told-in-BadLine.ensures ∙ ap refusal_says (sym c.in-BadLine.is)

pub returns-in-BadDollar : goal.returns-in-BadDollar
unfolding refusal_says number_of_refusal place_of_refusal
returns-in-BadDollar c = c.told-in-BadDollar.ensures ∙ ap refusal_says (sym c.in-BadDollar.is)

pub returns-in-NotYet : goal.returns-in-NotYet
unfolding refusal_says number_of_refusal place_of_refusal
returns-in-NotYet c = c.told-in-NotYet.ensures ∙ ap refusal_says (sym c.in-NotYet.is)

pub returns-in-BadRule : goal.returns-in-BadRule
unfolding refusal_says number_of_refusal place_of_refusal
returns-in-BadRule c = c.told-in-BadRule.ensures ∙ ap refusal_says (sym c.in-BadRule.is)

pub returns-in-BadPath : goal.returns-in-BadPath
unfolding refusal_says number_of_refusal place_of_refusal
returns-in-BadPath c = c.told-in-BadPath.ensures ∙ ap refusal_says (sym c.in-BadPath.is)

pub returns-in-OverLimit : goal.returns-in-OverLimit
unfolding refusal_says number_of_refusal place_of_refusal
returns-in-OverLimit c = c.told-in-OverLimit.ensures ∙ ap refusal_says (sym c.in-OverLimit.is)

pub returns-in-BadVersion : goal.returns-in-BadVersion
unfolding refusal_says number_of_refusal place_of_refusal
returns-in-BadVersion c = c.told-in-BadVersion.ensures ∙ ap refusal_says (sym c.in-BadVersion.is)

pub returns-in-BadCard : goal.returns-in-BadCard
unfolding refusal_says number_of_refusal place_of_refusal
returns-in-BadCard c = c.told-in-BadCard.ensures ∙ ap refusal_says (sym c.in-BadCard.is)

pub returns-in-BadTarget : goal.returns-in-BadTarget
unfolding refusal_says number_of_refusal place_of_refusal
returns-in-BadTarget c = c.told-in-BadTarget.ensures ∙ ap refusal_says (sym c.in-BadTarget.is)

pub returns-in-NoRoot : goal.returns-in-NoRoot
unfolding refusal_says number_of_refusal place_of_refusal
returns-in-NoRoot c = c.told-in-NoRoot.ensures ∙ ap refusal_says (sym c.in-NoRoot.is)

pub returns-in-Circle : goal.returns-in-Circle
unfolding refusal_says number_of_refusal place_of_refusal
returns-in-Circle c = c.told-in-Circle.ensures ∙ ap refusal_says (sym c.in-Circle.is)

pub returns-in-MissingSource : goal.returns-in-MissingSource
unfolding refusal_says number_of_refusal place_of_refusal
returns-in-MissingSource c = c.told-in-MissingSource.ensures ∙ ap refusal_says (sym c.in-MissingSource.is)

pub returns-in-EndlessText : goal.returns-in-EndlessText
unfolding refusal_says number_of_refusal place_of_refusal
returns-in-EndlessText c = c.told-in-EndlessText.ensures ∙ ap refusal_says (sym c.in-EndlessText.is)

pub returns-in-LongText : goal.returns-in-LongText
unfolding refusal_says number_of_refusal place_of_refusal
returns-in-LongText c = c.told-in-LongText.ensures ∙ ap refusal_says (sym c.in-LongText.is)

pub returns-in-NoCommand : goal.returns-in-NoCommand
unfolding refusal_says number_of_refusal place_of_refusal
returns-in-NoCommand c = c.told-in-NoCommand.ensures ∙ ap refusal_says (sym c.in-NoCommand.is)

pub returns-in-BadBundle : goal.returns-in-BadBundle
unfolding refusal_says number_of_refusal place_of_refusal
returns-in-BadBundle c = c.told-in-BadBundle.ensures ∙ ap refusal_says (sym c.in-BadBundle.is)

pub returns-in-BadOpen : goal.returns-in-BadOpen
unfolding refusal_says number_of_refusal place_of_refusal
returns-in-BadOpen c = c.told-in-BadOpen.ensures ∙ ap refusal_says (sym c.in-BadOpen.is)

pub returns-in-BadHeaders : goal.returns-in-BadHeaders
unfolding refusal_says number_of_refusal place_of_refusal
returns-in-BadHeaders c = c.told-in-BadHeaders.ensures ∙ ap refusal_says (sym c.in-BadHeaders.is)
