-- The text ask whole.
use Rattle.std.specs.Prelude.{ℕ, List, ◌||◌, leb, ltb, length}
use Rattle.spec.specs.declared.Refusal.{Refusal}
use Rattle.spec.specs.declared.Refusal.TheVariants.{ShortBuffer, NoCommand}
use Rattle.spec.specs.declared.Key.{Key}
use Rattle.spec.specs.declared.Key.TheVariants.{Command as command_key, Description as description_key}
use Rattle.spec.specs.declared.Wanted.{Wanted}
use Rattle.spec.specs.declared.Wanted.TheVariants.{Command, Description}
use Rattle.lists.specs.Tests.{if_b}
use Rattle.lists.specs.Text.{bytes}
use Rattle.spec.specs.Basics.{or_else}
use Rattle.spec.specs.Limits.{max_text}
use Rattle.spec.specs.Reading.{Reading, is_phony}
use Rattle.spec.specs.Manifest.{Read, accepted, refused_with, read_manifest}
use Rattle.spec.specs.Graph.{step_at}
use Rattle.spec.specs.Text.{text_by, spelling_for, name_text, name_refusal}

pub data TextOutcome : Type 0 where
  text : List ℕ → TextOutcome
  no_text : Refusal → TextOutcome

-- "whether `command` or `description` is wanted"
unfoldable pub wanted_name : Wanted → List ℕ
wanted_name Command = bytes "command"
wanted_name Description = bytes "description"

-- the same by the key, for functions that go by the numbers of keys
unfoldable pub wanted_key : Wanted → Key
wanted_key Command = command_key
wanted_key Description = description_key

-- the text of a name of a command step, or what refuses it
unfoldable pub name_outcome : ℕ → List ℕ → Reading → TextOutcome
unfolding name_refusal text_by spelling_for
name_outcome s n rd = or_else (name_refusal rd s n) no_text (λ _. text (name_text rd s n))

-- "18, 16, 17 for a text"
unfoldable pub text_of_step : ℕ → List ℕ → Reading → TextOutcome
unfolding is_phony name_outcome
text_of_step s n rd =
    if_b (leb (length rd.steps) s || is_phony (step_at rd.steps s).rule) (λ _. no_text (NoCommand s)) λ _. name_outcome s n rd

unfoldable pub text_read : ℕ → List ℕ → Read → TextOutcome
unfolding text_of_step
text_read s n (refused_with r) = no_text r
text_read s n (accepted rd) = text_of_step s n rd

-- the outcome for this manifest, step number, name wanted and length of the lent buffer
unfoldable pub text_ask : List ℕ → ℕ → Wanted → ℕ → TextOutcome
unfolding text_read wanted_name read_manifest
text_ask manifest s wanted room =
    if_b (ltb room max_text) (λ _. no_text ShortBuffer) λ _. text_read s (wanted_name wanted) (read_manifest manifest)
