-- What the program lends for a manifest: "The program lends `build.ninja` alone."
use Rattle.std.specs.Prelude.{ℕ, suc, ◌+◌, List, ◌++◌, ◌≡◌, take, drop}
use Rattle.io.specs.Counts.{IsPrefixLen}
use Rattle.spec.specs.Limits.{max_manifest}
use Rattle.spec.specs.Bundle.{alone}

-- one byte more than the limit
abbrev pub most_read : ℕ
most_read = suc max_manifest

-- room for it behind 32 bytes of header and record and the 11 of the name
abbrev pub alone_room : ℕ
alone_room = 43 + most_read

-- the bundle's bytes, and behind them what was there
pub record LendsAlone (manifest lent exit : List ℕ) (r : ℕ) : Type 0 where
  pub counts : IsPrefixLen r exit
  pub bundle : take r exit ≡ alone (take most_read manifest)
  pub behind : exit ≡ alone (take most_read manifest) ++ drop r lent
