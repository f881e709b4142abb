-- `apply_bindings::push_binding` meets its contract.
use mathlib.Core.Path.{refl}
use Rattle.apply_bindings.proofs.Entries.{ready_room, fits_room}
use Rattle.apply_bindings.proofs.push_binding.Goals as goal

pub push-requires : goal.push-requires
push-requires c = ready_room c.requires

pub returns : goal.returns
returns c =
    record {
      counted = refl;
      held = λ log rd b. c.push.ensures log (fits_room b c.requires.fits);
    }
