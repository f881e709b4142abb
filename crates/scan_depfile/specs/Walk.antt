-- What stands at the front of the marks of a text, and what follows it.
use Rattle.std.specs.Prelude.{ℕ, Bool, true, false, not, List, [], ◌∷◌, eqb}
use Rattle.std.proofs.Math.Option.{Option, none, some}
use Rattle.lists.specs.Tests.{if_b}
use Rattle.depfile.specs.Depfile.{colon_byte, Mark, byte, gap, line, lone, blank_lines}

-- the spaces between names
unfoldable pub behind_gaps : List Mark → List Mark
behind_gaps [] = []
behind_gaps (byte b ∷ s) = byte b ∷ s
behind_gaps (gap ∷ s) = behind_gaps s
behind_gaps (line ∷ s) = line ∷ s
behind_gaps (lone ∷ s) = lone ∷ s

-- Is a byte one of a name's: of a prerequisite's each is, of a target's each but the colon.
unfoldable pub in_name : Bool → ℕ → Bool
in_name true b = not (eqb b colon_byte)
in_name false b = true

-- the bytes of a name, of a target's or not
unfoldable pub name_here : Bool → List Mark → List ℕ
unfolding in_name
name_here t [] = []
name_here t (byte b ∷ s) = if_b (in_name t b) (λ _. b ∷ name_here t s) (λ _. [])
name_here t (gap ∷ s) = []
name_here t (line ∷ s) = []
name_here t (lone ∷ s) = []

unfoldable pub behind_name : Bool → List Mark → List Mark
unfolding in_name
behind_name t [] = []
behind_name t (byte b ∷ s) = if_b (in_name t b) (λ _. behind_name t s) (λ _. byte b ∷ s)
behind_name t (gap ∷ s) = gap ∷ s
behind_name t (line ∷ s) = line ∷ s
behind_name t (lone ∷ s) = lone ∷ s

-- the marks behind the first colon of a line, if it has one and no lone `$` before it
unfoldable pub behind_colon : List Mark → Option (List Mark)
behind_colon [] = none
behind_colon (byte b ∷ s) = if_b (eqb b colon_byte) (λ _. some s) (λ _. behind_colon s)
behind_colon (gap ∷ s) = behind_colon s
behind_colon (line ∷ s) = none
behind_colon (lone ∷ s) = none

-- the end of the rule: of its line, with blank lines behind it, or of the text
unfoldable pub rule_ends : List Mark → Bool
unfolding blank_lines
rule_ends [] = true
rule_ends (byte b ∷ s) = false
rule_ends (gap ∷ s) = false
rule_ends (line ∷ s) = blank_lines s
rule_ends (lone ∷ s) = false

-- A name written over a buffer from its start on, as far as there is room.
unfoldable pub written_over : List ℕ → List ℕ → List ℕ
written_over [] word = word
written_over (b ∷ n) [] = []
written_over (b ∷ n) (x ∷ word) = b ∷ written_over n word
