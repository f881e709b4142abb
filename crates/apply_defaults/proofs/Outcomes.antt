-- What the rules answer to a default line without an 8, path by path.
use Prim.Native.Nat.{ℕ, suc, ◌+◌}
use mathlib.Core.Bool.{true, false, ◌||◌}
use mathlib.Core.List.{List, [], ◌∷◌, map, append_assoc, append-nil}
use mathlib.Core.Path.{◌≡◌}
use native.Mathlib.Omega.{arith}
use borrow.Author.Tests.{le-ltb}
use lib.Dec.{ltb}
use lib.ListN.{length}
use Rattle.lists.specs.Tests.{or_left}
use Rattle.lists.specs.Members.{any}
use Rattle.spec.specs.declared.Refusal.TheVariants.{OverLimit}
use Rattle.spec.specs.Basics.{sum}
use Rattle.spec.specs.Limits.{max_files, max_bindings, max_mentions, max_path, max_written}
use Rattle.spec.specs.Reading.{Reading, number_of, numbers_of, mention, is_made}
use Rattle.spec.specs.Statements.{goes_on, refused, no_block, longer_than, mentioned, over_paths, over_counts, with_defaults}
use Rattle.spec.proofs.Numbers.{mention_old, mention_none, number_mention}
use Rattle.hold_bindings.specs.Log.{Logged}
use Rattle.hold_reading.specs.declared.Counts.{Counts}
use Rattle.hold_reading.specs.Held.{HoldsReading}
use Rattle.apply_path_checks.proofs.Makers.{made_among}
use Rattle.apply_files.specs.Lines.{over_line}
use Rattle.apply_files.specs.Path.{path_over}
use Rattle.apply_files.proofs.Limits.{counted_over}
use Rattle.apply_default_path.specs.Defaults.{defaulted}
use Rattle.apply_defaults.specs.Sound.{sound_defaults}
use Rattle.hold_reading.specs.Buffers.{Buffers}

refused_over : (start : ℕ) (ps : List (List ℕ)) (rd : Reading) → over_paths ps || over_counts (mentioned ps rd) ≡ true → sound_defaults start ps rd ≡ refused (OverLimit start)
unfolding sound_defaults
refused_over start ps rd e = rw e

-- ---- one path more

module _ {log : List Logged} {bs : Buffers} {c : Counts} {rd : Reading} (h : HoldsReading log bs c rd) (start : ℕ) (p : List ℕ) (qs : List (List ℕ)) where
  pub sound_over : path_over (length p) c ≡ true → sound_defaults start (p ∷ qs) rd ≡ refused (OverLimit start)
  unfolding over_line
  sound_over o = refused_over start (p ∷ qs) rd (counted_over c rd h.graphed.mentions_counted h.bound.written_counted p o qs)

  module _ (m : is_made p rd ≡ true) where
    again : mention rd.files (p ∷ qs) ≡ mention rd.files qs
    again = mention_old rd.files p qs (made_among h p m)

    counts_on : over_counts (mentioned (p ∷ qs) rd) ≡ over_counts (mentioned qs (defaulted (number_of p rd.files) (length p) rd))
    unfolding over_counts mentioned defaulted sum
    counts_on =
        let a : rd.mentions + suc (length qs) ≡ rd.mentions + 1 + length qs = omega arith in
        let b : rd.written + (length p + sum (map (λ (q : List ℕ). length q) qs)) ≡ rd.written + length p + sum (map (λ (q : List ℕ). length q) qs) = omega arith in
        rw (again, a, b)

    defaults_on : with_defaults (p ∷ qs) (mentioned (p ∷ qs) rd) ≡ with_defaults qs (mentioned qs (defaulted (number_of p rd.files) (length p) rd))
    unfolding with_defaults mentioned defaulted sum numbers_of
    defaults_on =
        let a : rd.mentions + suc (length qs) ≡ rd.mentions + 1 + length qs = omega arith in
        let b : rd.written + (length p + sum (map (λ (q : List ℕ). length q) qs)) ≡ rd.written + length p + sum (map (λ (q : List ℕ). length q) qs) = omega arith in
        let d : number_of p (mention rd.files (p ∷ qs)) ∷ numbers_of (mention rd.files (p ∷ qs)) qs ≡ number_of p rd.files ∷ numbers_of (mention rd.files qs) qs =
        rw (again, number_mention p rd.files qs (made_among h p m)) in
        rw (d, again, a, b, append_assoc rd.defaults (number_of p rd.files ∷ []) (numbers_of (mention rd.files qs) qs))

    pub sound_on : path_over (length p) c ≡ false → sound_defaults start (p ∷ qs) rd ≡ sound_defaults start qs (defaulted (number_of p rd.files) (length p) rd)
    unfolding sound_defaults path_over over_paths longer_than any
    sound_on o = rw (or_left (ltb max_path (length p)) _ o, counts_on, defaults_on)

-- ---- no more path

pub sound_end : {log : List Logged} {bs : Buffers} {c : Counts} {rd : Reading} → HoldsReading log bs c rd → (start : ℕ)
    → sound_defaults start [] rd ≡ goes_on rd no_block
unfolding sound_defaults over_paths any over_counts mentioned with_defaults numbers_of sum
sound_end {c = c} {rd = rd} h start =
    let a : rd.mentions + 0 ≡ rd.mentions = omega arith in
    let b : rd.written + 0 ≡ rd.written = omega arith in
    rw (
      mention_none rd.files,
      a,
      b,
      append-nil rd.defaults,
      le-ltb max_files (length rd.files) (omega (arith, h.named.counted, h.named.few)),
      le-ltb max_bindings rd.bindings (omega (arith, h.bound.bindings_counted, h.bound.few_bindings)),
      le-ltb max_mentions rd.mentions (omega (arith, h.graphed.mentions_counted, h.graphed.mentions_low)),
      le-ltb max_written rd.written (omega (arith, h.bound.written_counted, h.bound.few_written)),
    )
