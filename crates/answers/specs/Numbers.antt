-- An answer's numbers as what it says.
use Rattle.std.specs.Prelude.{ℕ, zero, suc, Bool}
use Rattle.spec.specs.Answers.{Said, Place, plain, in_text}
use Rattle.answers.specs.declared.Numbers.{Numbers as Told}
use Rattle.answers.specs.declared.Placed.{Placed}

abbrev pub saying : ℕ → Bool → ℕ → Said
saying n t v = record { number = n; text = t; value = v }

abbrev pub said : Told → Said
said x = saying x.number x.text x.value

-- the place that a text's number and one more, or 0, and a value are
abbrev pub place_by : ℕ → ℕ → Place
place_by zero v = plain v
place_by (suc k) v = in_text k v

abbrev pub place_told : Placed → Place
place_told x = place_by x.text x.value
