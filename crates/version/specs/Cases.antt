-- Worked cases of the definitions.
use Rattle.std.specs.Prelude.{true, false, ◌≡◌, refl, Some, None}
use Rattle.lists.specs.Text.{bytes}
use Rattle.version.specs.Version.{version, version_digit, in_range, number_from, number, patch_from, minor_from, major_from, read_version, above, too_new, refused_version}

-- What is read.
reads :
    (read_version (bytes "1.5") ≡ Some (version 1 5 0))
    × (read_version (bytes "7") ≡ Some (version 7 0 0))
    × (read_version (bytes "000000001.05.10") ≡ Some (version 1 5 10))
    × (read_version (bytes "65535") ≡ Some (version 65535 0 0))
    × (read_version (bytes "65536") ≡ None)
    × (read_version (bytes "1.2.3.4") ≡ None)
    × (read_version (bytes "") ≡ None)
    × (read_version (bytes "1.") ≡ None)
    × (read_version (bytes ".5") ≡ None)
    × (read_version (bytes "1..5") ≡ None)
    × (read_version (bytes "1.5 ") ≡ None)
unfolding version_digit in_range number_from number patch_from minor_from major_from read_version
reads = (refl, refl, refl, refl, refl, refl, refl, refl, refl, refl, refl)

-- What is refused.
refusals :
    (refused_version (bytes "1.5") ≡ false)
    × (refused_version (bytes "1.5.1") ≡ true)
    × (refused_version (bytes "1.4.9") ≡ false)
    × (refused_version (bytes "2") ≡ true)
    × (refused_version (bytes "1.x") ≡ true)
unfolding version_digit in_range number_from number patch_from minor_from major_from read_version above too_new refused_version
refusals = (refl, refl, refl, refl, refl)
