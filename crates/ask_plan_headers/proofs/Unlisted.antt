-- Where nothing is called `depfile`, the header lists add nothing.
use Rattle.std.specs.Prelude.{Result}
use Prim.Native.Nat.{ℕ}
use mathlib.Core.Bool.{Bool, false}
use mathlib.Core.List.{List}
use mathlib.Core.Path.{◌≡◌, sym, ◌∙◌}
use Rattle.spec.specs.Headers.{on_headed}
use Rattle.spec.specs.PlanAsk.{plan_headers}
use Rattle.spec.proofs.NoLists.{unlisted_reading}
use Rattle.hold_bindings.specs.Log.{Logged}
use Rattle.hold_bindings.specs.Held.{HoldsBindings, SoundBindings}
use Rattle.hold_reading.specs.declared.Counts.{Counts}
use Rattle.hold_reading.specs.Buffers.{Buffers}
use Rattle.hold_parts.proofs.Parts.{tabled}
use Rattle.ask_depfile_bound.specs.Bound.{depfile_bound}
use Rattle.ask_depfile_bound.proofs.Bound.{nothing_bound}
use Rattle.ask_plan_unlisted.specs.Unlisted.{UnlistedAsked, PlansUnlisted}
use Rattle.ask_plan_headers.specs.Headers.{HeadersPlanAsked, PlansHeaders}
use Rattle.spec.specs.declared.Refusal.{Refusal}

module _ {t headers card : List ℕ} {bs : Buffers} {c : Counts} {roots list : List ℕ} (a : HeadersPlanAsked t headers card bs c roots list) where
  pub ask_bound : SoundBindings bs.texts bs.bind c.entries
  ask_bound = record { log = a.log; held = a.holds.bound.held }

  pub ask_unlisted : UnlistedAsked card bs.names bs.index bs.graph c roots list
  ask_unlisted = record {
    card_sound = a.card_sound;
    reading = a.reading;
    named = a.holds.named;
    tabled = tabled a.holds;
    roots_low = a.roots_low;
    room = a.room;
  }

pub planned_unlisted : {headers card : List ℕ} {bs : Buffers} {c : Counts} {roots list : List ℕ} {b : Bool} {answer : Result ℕ Refusal} {exit : List ℕ}
    → ((log : List Logged) → HoldsBindings log bs.texts bs.bind c.entries → b ≡ depfile_bound log) → b ≡ false
    → PlansUnlisted card bs.names bs.index bs.graph c roots list answer exit → PlansHeaders headers card bs c roots list answer exit
unfolding plan_headers on_headed
planned_unlisted said e p = record {
  plans = λ i log rd hi ci r h q.
      let (ls, n, w) = unlisted_reading i.headers rd (nothing_bound h.bound (sym (said log h.bound.held) ∙ e)) in
      rw w (p.plans i rd ls ci h.named (tabled h) n q);
}
