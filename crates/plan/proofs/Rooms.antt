-- The working space has room for the bundle, for a list, for texts and for their lines.
use Prim.Native.Nat.{ℕ, ◌≤◌}
use native.Mathlib.Omega.{arith}
use mathlib.Core.List.{List}
use mathlib.Core.Path.{◌≡◌}
use lib.ListN.{length}
use Rattle.report.specs.Begins.{AnswerRooms}
use Rattle.report_bundle.specs.Lends.{alone_room}

pub roomy : {list bytes ends out : List ℕ} → length list ≡ 512 → length bytes ≡ 262144 → length ends ≡ 512 → length out ≡ 285184 → AnswerRooms list bytes ends out
roomy l b e o =
    record {
      rooms = record { list_room = l; line_room_law = omega arith; texts = record { bytes_room = omega arith; ends_room = omega arith } };
      lines = record { texts = record { bytes_room = omega arith; ends_room = omega arith }; lines = omega arith };
    }

pub room_alone : {n : ℕ} → n ≡ 49196 → alone_room ≤ n
room_alone b = omega arith
