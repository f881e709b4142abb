-- Lines that the definitions compute.
use Rattle.std.specs.Prelude.{Some, None}
use mathlib.Core.Bool.{false}
use mathlib.Core.List.{[], ◌∷◌}
use mathlib.Core.Path.{◌≡◌, refl}
use Rattle.lists.specs.Text.{bytes}
use Rattle.status_record.specs.Events.{starts, finishes, prints, status_after}
use Rattle.status_line.specs.Line.{wrong_from, line_from}

-- reading 22: 7 finished at 35 ms is `199.9`
pub seven_at_35 : line_from (status_after 7 4 (starts 0 ∷ starts 0 ∷ starts 0 ∷ starts 0 ∷ starts 0 ∷ starts 0 ∷ starts 0 ∷ finishes 35 ∷ finishes 35 ∷ finishes 35 ∷ finishes 35 ∷ finishes 35 ∷ finishes 35 ∷ finishes 35 ∷ [])).status false (bytes "%f %o %c %e") ≡ bytes "7 199.9 ? 0.035"
unfolding status_after line_from
seven_at_35 = refl

-- all placeholders
pub all_ten : line_from (status_after 8 2 (starts 0 ∷ starts 100 ∷ finishes 500 ∷ prints 1000 ∷ [])).status false (bytes "%s %t %p %r %u %f %o %c %e %%") ≡ bytes "2 8 25 1 6 1 1.0 ? 1.000 %"
unfolding status_after line_from
all_ten = refl

-- reading 24: a `%` that ends the format is 21 at it
pub percent_at_the_end : wrong_from 0 false (bytes "ab%") ≡ Some 2
unfolding wrong_from
percent_at_the_end = refl

pub no_percent_wrong : wrong_from 0 false (bytes "%%%s") ≡ None
unfolding wrong_from
no_percent_wrong = refl
