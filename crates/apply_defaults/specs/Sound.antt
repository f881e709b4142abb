-- A default line without an 8: what the rules answer, and what it asks.
use Rattle.std.specs.Prelude.{ℕ, false, ◌||◌, List}
use Rattle.lists.specs.Tests.{if_b}
use Rattle.spec.specs.declared.Refusal.TheVariants.{OverLimit}
use Rattle.spec.specs.Reading.{Reading}
use Rattle.spec.specs.Statements.{Outcome, goes_on, refused, no_block, mentioned, over_paths, over_counts, with_defaults}
use Rattle.hold_reading.specs.declared.Counts.{Counts}
use Rattle.apply_path_checks.specs.declared.PathKind.TheVariants.{Default}
use Rattle.apply_path_checks.specs.Checks.{AnyWrong}
use Rattle.apply_defaults.specs.Asks.{DefaultAsks}
use Rattle.hold_reading.specs.Buffers.{Buffers}

unfoldable pub sound_defaults : ℕ → List (List ℕ) → Reading → Outcome
unfolding mentioned over_paths over_counts with_defaults
sound_defaults start ps rd =
    let after = mentioned ps rd in
    if_b (over_paths ps || over_counts after) (λ _. refused (OverLimit start)) λ _. goes_on (with_defaults ps after) no_block

pub record SoundAsks (t l : List ℕ) (bs : Buffers) (word : List ℕ) (c : Counts) (at : ℕ) : Type 0 where
  pub asks : DefaultAsks t l bs word c at
  pub right : AnyWrong Default l bs c at false
