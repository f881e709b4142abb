-- `slices::words::zero_words_in` meets its contract.
use Rattle.slices.proofs.Filling.{zeroes}
use Rattle.slices.proofs.words.zero_words_in.Goals as goal

pub returns : goal.returns
returns c = zeroes _ _ _ _ c.requires.0 c.requires.1 (c.fill.ensures.after (λ y h. h))
