-- The run that an expansion begins with at a place of the raw text.
use Prim.Native.Nat.{ℕ, suc, ◌+◌, ◌-◌, ◌≤◌, ◌<◌}
use mathlib.Core.Bool.{false}
use mathlib.Core.List.{List, [], ◌∷◌}
use mathlib.Core.Option.{none}
use mathlib.Core.Path.{◌≡◌, refl, sym, ◌∙◌, ap}
use native.Mathlib.Nat.{le_refl}
use native.Mathlib.Omega.{arith}
use lib.ListN.{length, drop, get_or, length-drop}
use Rattle.lists.specs.Tests.{differ}
use Rattle.lists.specs.Parts.{part, part_none}
use Rattle.lists.specs.Runs.{is_not, after_run, Reads, part_run}
use Rattle.spec.specs.Bytes.{dollar}
use Rattle.spec.specs.Dollars.{literal, joins, wrong, element, bad_dollar}
use Rattle.scan_dollars.specs.Element.{rest_of, FoundElement, DollarName}
use Rattle.scan_raw.proofs.Pieces.{sound_not_bad}
use Rattle.expand_parts.specs.declared.Run.{Run}
use Rattle.expand_parts.specs.Runs.{expanded_by, bytes_of, RunPlaced, left_of, BeginsRun, Variable, ExpandReady}
use Rattle.expand_parts.proofs.Pieces.{expand_run, expand_literal, expand_join, expand_name}
use Rattle.expand_parts.proofs.Raw.{sound_run, literal_here, plain_forward, dollar_here, sound_here, sound_next}

-- a run of the raw text itself
abbrev pub own : ℕ → ℕ → ℕ → Run
own f e n = record { bound = false; from = f; to = e; next = n }

pub own_placed : (raw texts : List ℕ) (f e n : ℕ) → f ≤ e → e ≤ length raw → n ≤ length raw → bad_dollar (drop n raw) ≡ none → RunPlaced raw texts (own f e n)
own_placed raw texts f e n h k l s =
    record { ordered = h; in_raw = λ b. k; in_texts = λ b. differ b refl; within = l; sound = s }

module _ (raw texts bind : List ℕ) (count i : ℕ) (h : i < length raw) (s : bad_dollar (drop i raw) ≡ none) where
  pub plain_begins : {e : ℕ} → (get_or raw i 0 ≡ dollar → ⊥) → Reads (after_run (is_not dollar)) raw i e → BeginsRun raw texts bind count i (own i e e)
  unfolding left_of bytes_of expanded_by
  plain_begins {e} d r =
      let f = plain_forward raw i h s e d r in
      record {
        placed = own_placed raw texts i e e r.forward r.within r.within (rw r.rest (sound_run (drop i raw) s));
        forward = f;
        bounded = omega arith;
        gives = λ log k. expand_run _ (drop i raw) ∙ rw (part_run (is_not dollar) r, r.rest);
      }

  -- ---- what a `$` begins

  module _ (d : get_or raw i 0 ≡ dollar) where
    pub literal_begins : {b n : ℕ} → FoundElement raw (i + 1) n (element (drop (i + 1) raw)) (literal b (drop n raw)) → BeginsRun raw texts bind count i (own (i + 1) (i + 2) n)
    unfolding left_of bytes_of expanded_by rest_of
    literal_begins {b} {n} f =
        let l : drop (i + 1) raw ≡ b ∷ drop n raw = literal_here (drop (i + 1) raw) f.is in
        let m : length raw - (i + 1) ≡ suc (length (drop n raw)) = sym (length-drop (i + 1) raw) ∙ ap length l in
        let k : i + 2 ≤ length raw = omega arith in
        let z : i + 2 - (i + 1) ≡ 1 = omega arith in
        let p : part raw (i + 1) (i + 2) ≡ b ∷ [] = rw (z, l) in
        record {
          placed = own_placed raw texts (i + 1) (i + 2) n (omega arith) k f.within (sound_next raw i h s d n f.is refl);
          forward = omega (arith, f.forward);
          bounded = omega (arith, f.forward);
          gives = λ log q. ap (expanded_by log) (dollar_here raw i h s d) ∙ expand_literal _ (drop (i + 1) raw) f.is ∙ sym (rw p);
        }

    pub join_begins : {n : ℕ} → FoundElement raw (i + 1) n (element (drop (i + 1) raw)) (joins (drop n raw)) → BeginsRun raw texts bind count i (own n n n)
    unfolding left_of bytes_of expanded_by rest_of
    join_begins {n} f =
        record {
          placed = own_placed raw texts n n n (le_refl n) f.within f.within (sound_next raw i h s d n f.is refl);
          forward = omega (arith, f.forward);
          bounded = omega arith;
          gives = λ log q. ap (expanded_by log) (dollar_here raw i h s d) ∙ expand_join _ (drop (i + 1) raw) f.is ∙ sym (rw (part_none raw n n (le_refl n)));
        }

    pub name_begins : {a e n : ℕ} {r : Run} → DollarName raw (i + 1) a e n (element (drop (i + 1) raw)) → Variable (part raw a e) raw texts bind count n r → BeginsRun raw texts bind count i r
    unfolding left_of expanded_by rest_of
    name_begins {a} {e} {n} {r} f v =
        record {
          placed =
              record {
                ordered = v.ordered;
                in_raw = λ b. let m = v.in_raw b in omega (arith, f.found.within);
                in_texts = v.in_texts;
                within = rw v.next f.found.within;
                sound = rw v.next (sound_next raw i h s d n f.found.is refl);
              };
          forward = omega (arith, f.found.forward, v.next);
          bounded = omega (arith, f.found.forward, v.next, v.bounded);
          gives = λ log q. ap (expanded_by log) (dollar_here raw i h s d) ∙ expand_name _ (drop (i + 1) raw) f.found.is ∙ rw (v.next, v.value log q);
        }

    pub none_begins : {r : Run} → element (drop (i + 1) raw) ≡ wrong → BeginsRun raw texts bind count i r
    unfolding rest_of
    none_begins e = absurd (sound_not_bad (drop (i + 1) raw) (sound_here raw i h s d) (ap rest_of e))

-- After the run an expansion can go on.
pub ready_on : {t raw texts bind : List ℕ} {count i : ℕ} {r : Run} → ExpandReady t raw texts bind count i → BeginsRun raw texts bind count i r → ExpandReady t raw texts bind count r.next
ready_on a b =
    record { table = a.table; short = a.short; within = b.placed.within; sound = b.placed.sound; held = a.held }
