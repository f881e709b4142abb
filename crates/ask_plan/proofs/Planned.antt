-- What the plan ask answers by what the check of the header lists and the reader answer.
use Rattle.std.specs.Prelude.{Option, Some, None, is_some, Result, Err}
use Prim.Native.Nat.{ℕ, ◌≤◌}
use mathlib.Core.Bool.{Bool, true, false}
use mathlib.Core.List.{List}
use mathlib.Core.Path.{◌≡◌, refl, sym, ◌∙◌}
use native.Mathlib.Omega.{arith}
use borrow.Author.Tests.{le-ltb, ne_eqb}
use lib.Dec.{ltb}
use lib.ListN.{length}
use Rattle.lists.specs.Fill.{zeroed}
use Rattle.spec.specs.declared.Refusal.{Refusal}
use Rattle.spec.specs.declared.Refusal.TheVariants.{BadBundle, BadHeaders}
use Rattle.spec.specs.Limits.{least_list, max_bundle, max_headers, max_written}
use Rattle.spec.specs.Bundle.{sound_bundle}
use Rattle.spec.specs.Manifest.{refused_with, read_manifest}
use Rattle.spec.specs.Headers.{sound_headers}
use Rattle.spec.specs.Answers.{number_of_refusal, plan_says}
use Rattle.spec.specs.PlanAsk.{inputs_of, bad_headers, plan_manifest, plan_ask}
use Rattle.spec.specs.Promises.{left_by, PlanMeets, PlanPromise}
use Rattle.spec.proofs.Demands.{no_bad_headers}
use Rattle.spec.proofs.Manifests.{past_1, of_reading}
use Rattle.spec.proofs.Promises.{cleared}
use Rattle.scan_bundle.specs.Bundles.{Indexes}
use Rattle.scan_bundle.proofs.Laws.{opened, malformed_is}
use Rattle.scan_classes.specs.Table.{classes}
use Rattle.hold_reading.specs.declared.Counts.{Counts}
use Rattle.hold_reading.specs.Buffers.{Buffers}
use Rattle.apply_manifest.specs.Manifests.{Held}
use Rattle.apply_manifest.proofs.Answers.{not_sound}
use Rattle.ask_plan_reading.specs.Asked.{ReadAsked, PlansRead}
use Rattle.ask_plan.specs.Lists.{LentLists}

module _ (manifest card targets headers list : List ℕ) where
  long : least_list ≤ length list → ltb (length list) least_list ≡ false
  long room = le-ltb (length list) least_list room

  -- 19 and 2 to 10, past 20 at 0
  read_refuses : {r : Refusal} {exit : List ℕ} → least_list ≤ length list → bad_headers (inputs_of manifest card targets headers) ≡ false → read_manifest manifest ≡ refused_with r
      → exit ≡ zeroed list 0 (length list) → PlanPromise (inputs_of manifest card targets headers) list (Err r) exit
  unfolding plan_ask plan_manifest PlanMeets plan_says left_by
  read_refuses {r} room b e z =
      let p = past_1 (of_reading manifest e) in
      let n = ne_eqb (number_of_refusal r) 1 (λ (q : number_of_refusal r ≡ 1). omega (arith, q, p)) in
      rw (long room, b, e, n) (record { says = refl; leaves = z ∙ cleared list })

  module _ (a : LentLists headers list) where
    pub unread : {r : Refusal} {exit : List ℕ} → read_manifest manifest ≡ refused_with r → exit ≡ zeroed list 0 (length list)
        → PlanPromise (inputs_of manifest card targets headers) list (Err r) exit
    unread e z = read_refuses a.room (no_bad_headers (inputs_of manifest card targets headers) a.sound) e z

    -- 11 to 17, 20 at a step, and the list
    pub planned : {bs : Buffers} {c : Counts} {r : Result ℕ Refusal} {exit : List ℕ} → Held manifest bs c → PlansRead headers card targets bs c list r exit
        → PlanPromise (inputs_of manifest card targets headers) list r exit
    unfolding plan_ask plan_manifest
    planned h p =
        rw (long a.room, no_bad_headers (inputs_of manifest card targets headers) a.sound, h.is)
        (p.plans manifest h.log h.reading h.is h.holds)

  -- the header lists are no sound bundle
  module _ (room : least_list ≤ length list) (x : sound_headers headers ≡ false) {exit : List ℕ} (z : exit ≡ zeroed list 0 (length list)) where
    -- 20 at 0
    pub bad_lists : sound_bundle 1 max_bundle manifest ≡ true → PlanPromise (inputs_of manifest card targets headers) list (Err (BadHeaders 0)) exit
    unfolding plan_ask bad_headers PlanMeets plan_says left_by number_of_refusal
    bad_lists s = rw (long room, s, x) (record { says = refl; leaves = z ∙ cleared list })

    -- 19
    pub bad_both : sound_bundle 1 max_bundle manifest ≡ false → PlanPromise (inputs_of manifest card targets headers) list (Err BadBundle) exit
    unfolding bad_headers
    bad_both s = read_refuses room (rw s) (not_sound manifest s) z

pub askable : {manifest t headers : List ℕ} {bs : Buffers} {c : Counts} {list : List ℕ} → LentLists headers list → t ≡ classes → length bs.names ≡ max_written → Held manifest bs c
    → ReadAsked t headers bs c list
askable {manifest} a e n h =
    record {
      table = e;
      lists_sound = a.sound;
      names_long = omega (arith, n);
      manifest = manifest;
      log = h.log;
      reading = h.reading;
      is = h.is;
      holds = h.holds;
      room = a.room;
    }

-- ---- by the check of the header lists

module _ {headers order order' : List ℕ} {x : Option ℕ} (i : Indexes headers 0 max_headers order order' x) where
  lists_sound : {n : ℕ} → x ≡ Some n → true ≡ sound_headers headers
  unfolding sound_headers
  lists_sound e = sym (opened i e).sound

  lists_malformed : x ≡ None → false ≡ sound_headers headers
  unfolding sound_headers
  lists_malformed e = sym (malformed_is i e)

pub sound_by : {headers order order' : List ℕ} (x : Option ℕ) → Indexes headers 0 max_headers order order' x → {b : Bool} → b ≡ is_some x → b ≡ sound_headers headers
sound_by (Some n) i e = e ∙ lists_sound i refl
sound_by None i e = e ∙ lists_malformed i refl
