-- What a draft remembers stays, and what is remembered more.
use Rattle.std.specs.Prelude.{Option, Some, None}
use Prim.Native.Nat.{ℕ, zero, suc, ◌-◌, ◌≤◌, ◌<◌}
use mathlib.Core.List.{List, [], ◌∷◌, ◌++◌}
use mathlib.Core.Bool.{true, false}
use mathlib.Core.Logic.{◌⊎◌, inl, inr, ⊎_elim}
use mathlib.Core.Path.{◌≡◌, refl, sym, ◌∙◌, ap}
use native.Mathlib.Nat.{le_refl}
use native.Mathlib.Omega.{arith}
use borrow.Author.Tests.{lt-ltb, le-ltb, ltb-true, eqb-true, eqb-false}
use lib.Dec.{ltb, eqb}
use lib.ListN.{length, take, drop, get_or, set, get_or-replicate}
use lib.Seq.{get_or-set_other, length-take-le, take-take, take-append-le, take_all, drop_at}
use Rattle.lists.specs.Tests.{split}
use Rattle.lists.specs.Parts.{part, drop_take}
use Rattle.spec.specs.Limits.{max_text}
use Rattle.spec.specs.Text.{rule_keys, key_number}
use Rattle.hold_keys.proofs.Numbers.{one_key}
use Rattle.text_buffer.specs.Puts.{OpenText, BytesBehind, PutsText}
use Rattle.text_buffer.proofs.Parts.{puts_none, puts_over, puts_then, open_on}
use Rattle.text_memo.specs.declared.Span.{Span}
use Rattle.text_memo.specs.declared.Draft.{Draft}
use Rattle.text_memo.specs.Draft.{span, nothing, span_for, Remembered, Remembers, Drafted, Moved, WritesDraft}

-- ---- no span, and one more

pub nothing_spans : (n : List ℕ) → span_for nothing n ≡ None
unfolding span_for
nothing_spans n =
    split (ltb (key_number n) rule_keys)
    (λ (e : ltb (key_number n) rule_keys ≡ true). rw e (get_or-replicate rule_keys (key_number n) None None (ltb-true (key_number n) rule_keys e)))
    (λ (e : ltb (key_number n) rule_keys ≡ false). rw e)

pub nothing_remembers : (text : List ℕ → List ℕ) (buffer : List ℕ) → max_text ≤ length buffer → Remembers text buffer nothing
nothing_remembers text buffer h =
    record {
      free = record { room = h; low = omega arith };
      kept = λ n x b.
          let z : ◌≡◌ {A = Option Span} None (Some x) = sym (nothing_spans n) ∙ b in
          absurd (let y : ◌≡◌ {A = ℕ} 0 1 = cc in omega arith);
    }

module _ (d : Draft) (n : List ℕ) {k : ℕ} (e : k ≡ key_number n) where
  pub span_key : k < rule_keys → get_or d.spans k None ≡ span_for d n
  unfolding span_for
  span_key h = rw (← e, lt-ltb k rule_keys h)

  pub span_none : rule_keys ≤ k → None ≡ span_for d n
  unfolding span_for
  span_none h = rw (← e, le-ltb k rule_keys h)

-- a list that was set somewhere
set_there : (l : List (Option Span)) (i : ℕ) (a d : Option Span) → (get_or (set l i a) i d ≡ a) ⊎ (get_or (set l i a) i d ≡ get_or l i d)
set_there [] i a d = inr refl
set_there (x ∷ l) zero a d = inl refl
set_there (x ∷ l) (suc i) a d = set_there l i a d

module _ (d : Draft) (name : List ℕ) (from : ℕ) where
  pub remember_nothing : Remembered d name from d
  remember_nothing = record { at = refl; spans = λ n. inr refl }

  module _ {k : ℕ} (e : k ≡ key_number name) (h : k < rule_keys) where
    -- the draft that remembers it
    abbrev with_span : Draft
    with_span = record { at = d.at; spans = set d.spans k (Some (span from d.at)) }

    with_key_law : (n : List ℕ) → ltb (key_number n) rule_keys ≡ true → ((n ≡ name) × (span_for with_span n ≡ Some (span from d.at))) ⊎ (span_for with_span n ≡ span_for d n)
    unfolding span_for
    with_key_law n b =
        split (eqb (key_number n) k)
        (λ (q : eqb (key_number n) k ≡ true).
        let z : key_number n ≡ k = eqb-true (key_number n) k q in
        ⊎_elim
        (λ (x : get_or (set d.spans k (Some (span from d.at))) k None ≡ Some (span from d.at)).
        inl (one_key n name (ltb-true (key_number n) rule_keys b) (z ∙ e), rw (b, z) x))
        (λ (x : get_or (set d.spans k (Some (span from d.at))) k None ≡ get_or d.spans k None). inr (rw (b, z) x))
        (set_there d.spans k (Some (span from d.at)) None))
        (λ (q : eqb (key_number n) k ≡ false).
        inr (rw b (get_or-set_other d.spans k (key_number n) (Some (span from d.at)) None (eqb-false (key_number n) k q))))

    no_key : (n : List ℕ) → ltb (key_number n) rule_keys ≡ false → span_for with_span n ≡ span_for d n
    unfolding span_for
    no_key n b = rw b

    pub remember_key : Remembered d name from with_span
    remember_key =
        record {
          at = refl;
          spans = λ n.
              split (ltb (key_number n) rule_keys) (with_key_law n) (λ (b : ltb (key_number n) rule_keys ≡ false). inr (no_key n b));
        }

-- ---- what is written stays

pub part_front : (l : List ℕ) (f e n : ℕ) → e ≤ n → part (take n l) f e ≡ part l f e
part_front l f e n h = ap (take (e - f)) (drop_take f n l) ∙ take-take (e - f) (n - f) (drop f l) (omega arith)

front_kept : {before s after : List ℕ} {place r : ℕ} → OpenText before place → BytesBehind before place s after r → take place after ≡ take place before
front_kept {before} {s} {after} {place} {r} o f =
    let n : length (take place before) ≡ place = length-take-le place before (omega (arith, o.low, o.room)) in
    sym (take-take place r after (omega (arith, f.count)))
    ∙ ap (take place) f.bytes
    ∙ take-append-le place (take place before) s (omega arith)
    ∙ take_all place (take place before) (omega arith)

part_kept : {before s after : List ℕ} {place r : ℕ} → OpenText before place → BytesBehind before place s after r → (f e : ℕ) → e ≤ place → part after f e ≡ part before f e
part_kept {before} {s} {after} {place} o p f e h =
    sym (part_front after f e place h) ∙ ap (λ (l : List ℕ). part l f e) (front_kept o p) ∙ part_front before f e place h

-- what stands from the old end up to the new one
pub part_new : {before s after : List ℕ} {place r : ℕ} → OpenText before place → BytesBehind before place s after r → part after place r ≡ s
part_new {before} {s} {after} {place} {r} o p =
    let n : length (take place before) ≡ place = length-take-le place before (omega (arith, o.low, o.room)) in
    sym (drop_take place r after) ∙ ap (drop place) p.bytes ∙ drop_at (take place before) s place n

module _ {text : List ℕ → List ℕ} {before : List ℕ} {d : Draft} (k : Remembers text before d) where
  -- a draft whose spans did not change
  pub drafted : {s after : List ℕ} {r : Draft} → PutsText before d.at s after r.at → ((n : List ℕ) → span_for r n ≡ span_for d n) → Drafted text before d s after r
  drafted {s} {after} {r} p e =
      record {
        puts = p;
        remembers = λ h.
            record {
              free = open_on p h k.free;
              kept = λ n x b.
                  let o = k.kept n x (rw (e n) at b) in
                  let f = p.fits h in
                  record { ordered = o.ordered; written = omega (arith, o.written, f.count); is = part_kept k.free f x.from x.to o.written ∙ o.is };
            };
      }

  pub drafted_none : Drafted text before d [] before d
  drafted_none = drafted (puts_none k.free) (λ n. refl)

  -- one part after another
  pub drafted_then : {s u middle after : List ℕ} {m r : Draft} → Drafted text before d s middle m → m.at ≤ max_text → Drafted text middle m u after r → Drafted text before d (s ++ u) after r
  drafted_then a h b = record { puts = puts_then a.puts h b.puts; remembers = b.remembers }

  pub drafted_over : {s middle : List ℕ} {m : Draft} → Drafted text before d s middle m → max_text < m.at → (u : List ℕ) → Drafted text before d (s ++ u) middle m
  drafted_over a h u = record { puts = puts_over a.puts h u; remembers = a.remembers }

  -- a text that was written whole is remembered
  pub drafted_name : {after : List ℕ} {m r : Draft} (name : List ℕ) → Drafted text before d (text name) after m → Remembered m name d.at r → Drafted text before d (text name) after r
  drafted_name {after} {m} {r} name a e =
      record {
        puts = rw e.at a.puts;
        remembers = λ h.
            let q : m.at ≤ max_text = rw e.at at h in
            let w = a.remembers q in
            let f = a.puts.fits q in
            record {
              free = rw e.at w.free;
              kept = λ n x b.
                  ⊎_elim
                  (λ (y : (n ≡ name) × (span_for r n ≡ Some (span d.at m.at))).
                  let q : ◌≡◌ {A = Option Span} (Some x) (Some (span d.at m.at)) = sym b ∙ y.1 in
                  let z : x ≡ span d.at m.at = cc in
                  rw z (record { ordered = omega (arith, f.count); written = rw e.at (le_refl m.at); is = rw y.0 (part_new k.free f) }))
                  (λ (y : span_for r n ≡ span_for m n).
                  let o = w.kept n x (sym y ∙ b) in
                  record { ordered = o.ordered; written = rw e.at o.written; is = o.is })
                  (e.spans n);
            };
      }

-- ---- a place further

pub moved_to_law : (d : Draft) (at : ℕ) → Moved d at (record { at = at; spans = d.spans })
unfolding span_for
moved_to_law d at = record { to = refl; same = λ n. refl }

pub moved_writes : {before s after : List ℕ} {d r : Draft} {n : ℕ} → PutsText before d.at s after n → Moved d n r → WritesDraft before d s after r
moved_writes p m = record { drafts = λ text k. drafted k (rw m.to p) m.same }
