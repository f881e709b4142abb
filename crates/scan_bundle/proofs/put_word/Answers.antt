-- `scan_bundle::put_word` meets its contract.
use Prim.Native.Nat.{ℕ, ◌/◌, ◌%◌}
use mathlib.Core.List.{[], ◌∷◌}
use mathlib.Core.Path.{◌≡◌, refl, ap, ◌∙◌}
use native.Mathlib.Omega.{arith}
use lib.ListN.{take}
use Rattle.std.proofs.lemmas.Slice.{put_mid-paste}
use Rattle.spec.specs.Card.{in_bytes}
use Rattle.scan_bundle.proofs.put_word.Goals as goal

-- the library divides at once by what the definition divides by one after another
lowest : (v : ℕ) → v % 256 ∷ (v / 256 % 256 ∷ (v / 65536 % 256 ∷ (v / 16777216 % 256 ∷ []))) ≡ in_bytes 4 v
lowest v =
    let a : v / 65536 ≡ v / 256 / 256 = omega arith in
    let b : v / 16777216 ≡ v / 256 / 256 / 256 = omega arith in
    rw (a, b)

pub returns : goal.returns
returns c =
    put_mid-paste _ _ _ _ (in_bytes 4 c.args.v) 4 (c.copy_from_slice.ensures.after ∙ ap (take 4) c.to_le_bytes.ensures ∙ lowest c.args.v) (omega arith) refl
