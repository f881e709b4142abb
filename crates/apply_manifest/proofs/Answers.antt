-- The whole bundle: 19, 2, 3, and what the lines of the top file answer.
use Rattle.std.specs.Prelude.{Option, Some, None, Result, Ok, Err}
use Prim.Native.Nat.{ℕ, ◌-◌, ◌≤◌, ◌<◌}
use mathlib.Core.Bool.{true, false}
use mathlib.Core.List.{List, [], map}
use mathlib.Core.Path.{subst, ◌≡◌, sym, ◌∙◌, ap}
use native.Mathlib.Omega.{arith}
use borrow.Author.Tests.{lt-ltb, le-ltb}
use lib.ListN.{length, set}
use Rattle.lists.specs.Fill.{zeroed}
use Rattle.spec.specs.declared.Refusal.{Refusal}
use Rattle.spec.specs.declared.Refusal.TheVariants.{LongManifest, BadByte, BadBundle}
use Rattle.spec.specs.Basics.{sum}
use Rattle.spec.specs.Limits.{max_manifest, max_bundle, max_open}
use Rattle.spec.specs.Bundle.{sound_bundle, bundle_texts}
use Rattle.spec.specs.Reading.{nothing_read}
use Rattle.spec.specs.Statements.{no_block}
use Rattle.spec.specs.Manifest.{read_lines, text_lines, bad_byte_in, refused_with, read_of, read_manifest}
use Rattle.scan_raw.specs.Texts.{place_of}
use Rattle.hold_names.specs.Table.{heads_from, max_numbers}
use Rattle.hold_names.proofs.Lies.{holds_none}
use Rattle.hold_bindings.specs.Held.{scopes_at, current_at, parents_at}
use Rattle.hold_bindings.proofs.Entries.{held_none}
use Rattle.hold_reading.specs.declared.Counts.{Counts}
use Rattle.hold_reading.specs.declared.Open.{Open}
use Rattle.hold_reading.specs.declared.Open.TheVariants.{Nothing}
use Rattle.hold_reading.specs.Held.{joined, nothing, HoldsReading}
use Rattle.hold_reading.specs.Buffers.{Buffers, buffers}
use Rattle.hold_reading.proofs.Agreement.{no_counts, start_held, agreed_on, agreed_refused}
use Rattle.apply_statements.specs.Asks.{LineMeets}
use Rattle.scan_texts.specs.Checks.{ShortBundle}
use Rattle.scan_texts.proofs.Texts.{some_text}
use Rattle.apply_texts.specs.Texts.{file_opener, TextReadAsk}
use Rattle.apply_texts.proofs.Files.{lines_closed}
use Rattle.apply_manifest.specs.Manifests.{Roomy, LinesAsk, LinesRead, Held, IsRead}
use Rattle.hold_reading.specs.declared.State.{State}
use Rattle.hold_reading.specs.Went.{went}

-- ---- 19, 2 and 3

pub not_sound : (s : List ℕ) → sound_bundle 1 max_bundle s ≡ false → read_manifest s ≡ refused_with BadBundle
unfolding read_manifest
not_sound s h = rw h

module _ (s : List ℕ) (h : sound_bundle 1 max_bundle s ≡ true) {n : ℕ} (l : n ≡ sum (map (λ (t : List ℕ). length t) (bundle_texts s))) where
  pub too_long : max_manifest < n → read_manifest s ≡ refused_with LongManifest
  unfolding read_manifest
  too_long k = rw (h, lt-ltb max_manifest (sum (map (λ (t : List ℕ). length t) (bundle_texts s))) (omega (arith, l)))

  module _ (k : n ≤ max_manifest) where
    pub short : ShortBundle s
    short = record { sound = h; short = omega (arith, l) }

    module _ (f : Option ℕ) (e : place_of f ≡ bad_byte_in 0 (bundle_texts s)) where
      pub bad_bytes : {p : ℕ} → f ≡ Some p → read_manifest s ≡ refused_with (BadByte p)
      unfolding read_manifest place_of
      bad_bytes q = rw (h, le-ltb max_manifest (sum (map (λ (t : List ℕ). length t) (bundle_texts s))) short.short, sym e, q)

      module _ (q : f ≡ None) where
        lines_decide : read_manifest s ≡ read_of (read_lines (file_opener s (max_open - 1)) (text_lines (bundle_texts s) 0) nothing_read no_block)
        unfolding read_manifest place_of
        lines_decide = rw (h, le-ltb max_manifest (sum (map (λ (t : List ℕ). length t) (bundle_texts s))) short.short, sym e, q)

        pub lines_refused : {bs : Buffers} {r : Refusal} → LinesRead s bs (Err r) → read_manifest s ≡ refused_with r
        unfolding read_of
        lines_refused a = lines_decide ∙ rw (agreed_refused a.agrees)

        pub lines_accepted : {bs : Buffers} {c : Counts} {o : Open} → LinesRead s bs (went c o) → Held s bs c
        unfolding read_of joined
        lines_accepted a =
            let g = agreed_on a.agrees in
            let n : g.block ≡ no_block = lines_closed (file_opener s (max_open - 1)) (text_lines (bundle_texts s) 0) nothing_read no_block g.outcome in
            record { log = g.log; reading = g.reading; is = lines_decide ∙ ap read_of g.outcome; holds = rw n at g.holds }

pub lines_ask : {t s : List ℕ} {bs : Buffers} {word : List ℕ} → Roomy t bs word → ShortBundle s → LinesAsk t s bs word
lines_ask a b = record { bundle = b; roomy = a }

-- ---- the top file

-- the names are cleared, and the bindings begun
module _ {t s : List ℕ} {bs : Buffers} {word cleared begun : List ℕ} (a : LinesAsk t s bs word) (e : cleared ≡ zeroed bs.index heads_from max_numbers)
    (f : begun ≡ set (set (set bs.bind scopes_at 1) current_at 0) parents_at 0) where
  abbrev empty : Buffers
  empty = buffers bs.names cleared bs.texts begun bs.graph

  nothing_held : HoldsReading [] empty no_counts (joined nothing_read no_block)
  unfolding sum
  nothing_held =
      let r = a.roomy in
      rw (e, f)
      (start_held (buffers bs.names (zeroed bs.index heads_from max_numbers) bs.texts (set (set (set bs.bind scopes_at 1) current_at 0) parents_at 0) bs.graph)
      (holds_none bs.names bs.index r.names_small r.numbers_room)
      (held_none bs.texts bs.bind r.texts_room r.bind_room)
      (omega (arith, r.room.scratch)))

  pub top_asks : TextReadAsk t s 0 empty word no_counts
  top_asks =
      record {
        table = a.roomy.table;
        bundle = a.bundle;
        below = some_text s a.bundle.sound;
        room = a.roomy.room;
        between = record { log = []; reading = nothing_read; block = no_block; holds = nothing_held; opens = nothing };
      }

  pub top_read : {bs' : Buffers} {r : Result State Refusal} → LineMeets empty no_counts Nothing (read_lines (file_opener s (max_open - 1)) (text_lines (bundle_texts s) 0)) bs' r → LinesRead s bs' r
  top_read m = record { agrees = m.agrees [] nothing_read no_block nothing_held nothing }

-- ---- by the answer

module _ (m : List ℕ) (bs : Buffers) {x : Result Counts Refusal} (a : IsRead m bs x) where
  pub read_accepted : {c : Counts} → x ≡ Ok c → Held m bs c
  unfolding IsRead
  read_accepted e = subst (IsRead m bs) e a

  pub read_refused : {r : Refusal} → x ≡ Err r → read_manifest m ≡ refused_with r
  unfolding IsRead
  read_refused e = subst (IsRead m bs) e a
