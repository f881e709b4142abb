-- "The elapsed time and both rates are kept as floats in the status record, one rounding per operation." Each operation here is one of `lib.Ieee`'s, which rounds once.
use Rattle.std.specs.Prelude.{ℕ, pos, Float, Option, Some, None}
use Rattle.std.specs.Float.{binary64}
use Rattle.std.specs.Float.Ieee.{of_int, div, mul, lt, to_unsigned}
use Rattle.lists.specs.Tests.{if_b}

-- a whole number as a float; up to 2 ^ 53 it is that number
abbrev pub whole_float : ℕ → Float
whole_float n = of_int binary64 (pos n)

-- "Times are milliseconds": as seconds, divided by 1000.0
unfoldable pub seconds_of : Float → Float
unfolding div of_int
seconds_of ms = div binary64 ms (whole_float 1000)

-- "A rate is a float or unknown: unknown .. when no time has passed. `%o` is finished steps over elapsed seconds"
unfoldable pub rate_of : ℕ → Float → Option Float
unfolding div of_int lt
rate_of n s = if_b (lt (whole_float 0) s) (λ _. Some (div binary64 (whole_float n) s)) (λ _. None)

-- "printed in tenths, ten times it cut downwards". No number of tenths has more than 25 binary digits: that bounds what is looked for, and `overall_near` says that it cuts nothing off.
unfoldable pub tenths_of : Float → ℕ
unfolding mul of_int to_unsigned
tenths_of r = to_unsigned 25 (mul binary64 r (whole_float 10))
