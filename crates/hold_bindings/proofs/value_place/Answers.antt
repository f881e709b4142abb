-- `hold_bindings::value_place` meets its contract.
use native.Mathlib.Omega.{arith}
use Rattle.hold_bindings.proofs.Entries.{row_of_law, row_at}
use Rattle.hold_bindings.proofs.value_place.Goals as goal

pub returns : goal.returns
returns c =
    let w = row_of_law c.requires in
    record {
      ordered = omega (arith, w.valued, c.at-from.ensures, c.at-to.ensures);
      ends = omega (arith, w.ends, c.at-to.ensures);
      texts_long = w.texts_long;
      value = λ log count h b. rw (c.at-from.ensures, c.at-to.ensures) (row_at log c.args.k h b).value;
    }
