-- What a line's answer is where the reading goes on.
use Rattle.std.specs.Prelude.{Result, Ok}
use Rattle.spec.specs.declared.Refusal.{Refusal}
use Rattle.hold_reading.specs.declared.Counts.{Counts}
use Rattle.hold_reading.specs.declared.Open.{Open}
use Rattle.hold_reading.specs.declared.State.{State}

-- with these counts, and this block open
abbrev pub went : Counts → Open → Result State Refusal
went c o =
    Ok record {
      counts = c;
      «open» = o;
    }
