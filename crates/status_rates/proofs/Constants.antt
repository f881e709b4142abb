-- The floats that the code names, as whole numbers.
use mathlib.Core.Path.{◌≡◌, refl}
use lib.Ieee.{binary64, of_bits, of_int}
use Rattle.status_rates.specs.Rates.{whole_float}

pub nought : of_bits binary64 0 ≡ whole_float 0
unfolding of_bits of_int
nought = refl

pub ten : of_bits binary64 0x4024_0000_0000_0000 ≡ whole_float 10
unfolding of_bits of_int
ten = refl

pub thousand : of_bits binary64 0x408f_4000_0000_0000 ≡ whole_float 1000
unfolding of_bits of_int
thousand = refl
