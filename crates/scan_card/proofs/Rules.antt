-- The rules of the header and of one record as facts, and back.
use Prim.Native.Nat.{ℕ, ◌+◌, ◌*◌, ◌≤◌}
use mathlib.Core.Bool.{Bool, true, false, ◌&&◌}
use mathlib.Core.List.{List}
use mathlib.Core.Path.{◌≡◌, refl}
use borrow.Author.Tests.{le-leb, eq-eqb, leb-true, eqb-true}
use lib.Dec.{eqb, leb}
use lib.ListN.{length}
use Rattle.lists.specs.Tests.{and_left, and_right}
use Rattle.spec.specs.Limits.{max_records, max_card, max_path, max_time}
use Rattle.spec.specs.Card.{CardRecord, number_at, sound_layout, sound_header, sound_record}

-- A test that cannot be true is false.
pub refuted : (b : Bool) → (b ≡ true → ⊥) → false ≡ b
refuted true h = absurd (h refl)
refuted false h = refl

pub record Layout (s : List ℕ) : Type 0 where
  pub long : 16 ≤ length s
  pub records : number_at 4 4 s ≡ 16
  pub names : number_at 8 4 s ≡ 16 + 16 * number_at 0 4 s
  pub total : number_at 12 4 s ≡ length s
  pub room : number_at 8 4 s ≤ length s

pub layout : {s : List ℕ} → sound_layout s ≡ true → Layout s
unfolding sound_layout
layout {s} h =
    let a = leb 16 (length s) in
    let b = eqb (number_at 4 4 s) 16 in
    let c = eqb (number_at 8 4 s) (16 + 16 * number_at 0 4 s) in
    let d = eqb (number_at 12 4 s) (length s) in
    let e = leb (number_at 8 4 s) (length s) in
    let hd = and_left (a && b && c && d) e h in
    let hc = and_left (a && b && c) d hd in
    let hb = and_left (a && b) c hc in
    record {
      long = leb-true 16 (length s) (and_left a b hb);
      records = eqb-true (number_at 4 4 s) 16 (and_right a b hb);
      names = eqb-true (number_at 8 4 s) (16 + 16 * number_at 0 4 s) (and_right (a && b) c hc);
      total = eqb-true (number_at 12 4 s) (length s) (and_right (a && b && c) d hd);
      room = leb-true (number_at 8 4 s) (length s) (and_right (a && b && c && d) e h);
    }

pub sound_layout_law : {s : List ℕ} → Layout s → true ≡ sound_layout s
unfolding sound_layout
sound_layout_law h =
    rw (le-leb _ _ h.long, eq-eqb _ _ h.records, eq-eqb _ _ h.names, eq-eqb _ _ h.total, le-leb _ _ h.room)

pub record Header (s : List ℕ) : Type 0 where
  pub long : 16 ≤ length s
  pub short : length s ≤ max_card
  pub few : number_at 0 4 s ≤ max_records
  pub names : number_at 8 4 s ≡ 16 + 16 * number_at 0 4 s
  pub room : number_at 8 4 s ≤ length s

pub header : {s : List ℕ} → sound_header s ≡ true → Header s
unfolding sound_header
header {s} h =
    let a = sound_layout s in
    let b = leb (length s) max_card in
    let c = leb (number_at 0 4 s) max_records in
    let hb = and_left (a && b) c h in
    let l : Layout s = layout (and_left a b hb) in
    record {
      long = l.long;
      short = leb-true (length s) max_card (and_right a b hb);
      few = leb-true (number_at 0 4 s) max_records (and_right (a && b) c h);
      names = l.names;
      room = l.room;
    }

pub header_layout : (s : List ℕ) → sound_header s ≡ true → sound_layout s ≡ true
unfolding sound_header
header_layout s h = and_left (sound_layout s) (leb (length s) max_card) (and_left (sound_layout s && leb (length s) max_card) (leb (number_at 0 4 s) max_records) h)

pub sound_header_law : (s : List ℕ) → sound_layout s ≡ true → length s ≤ max_card → number_at 0 4 s ≤ max_records → true ≡ sound_header s
unfolding sound_header
sound_header_law s l f g = rw (l, le-leb _ _ f, le-leb _ _ g)

pub record Fair (at : ℕ) (r : CardRecord) : Type 0 where
  pub starts : r.offset ≡ at
  pub some : 1 ≤ r.size
  pub short : r.size ≤ max_path
  pub timed : 1 ≤ r.time
  pub fits : r.time ≤ max_time

pub fair : {at : ℕ} {r : CardRecord} → sound_record at r ≡ true → Fair at r
unfolding sound_record
fair {at} {r} h =
    let a = eqb r.offset at in
    let b = leb 1 r.size in
    let c = leb r.size max_path in
    let d = leb 1 r.time in
    let e = leb r.time max_time in
    let hd = and_left (a && b && c && d) e h in
    let hc = and_left (a && b && c) d hd in
    let hb = and_left (a && b) c hc in
    record {
      starts = eqb-true r.offset at (and_left a b hb);
      some = leb-true 1 r.size (and_right a b hb);
      short = leb-true r.size max_path (and_right (a && b) c hc);
      timed = leb-true 1 r.time (and_right (a && b && c) d hd);
      fits = leb-true r.time max_time (and_right (a && b && c && d) e h);
    }

pub sound_record_law : {at : ℕ} {r : CardRecord} → Fair at r → true ≡ sound_record at r
unfolding sound_record
sound_record_law h =
    rw (eq-eqb _ _ h.starts, le-leb _ _ h.some, le-leb _ _ h.short, le-leb _ _ h.timed, le-leb _ _ h.fits)
