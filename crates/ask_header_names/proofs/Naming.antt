-- One name that a depfile lists: what the word buffer has of it, and what its answer says.
use Rattle.std.specs.Prelude.{Option, None}
use Prim.Native.Nat.{ℕ, ◌≤◌}
use mathlib.Core.Bool.{true, false}
use mathlib.Core.List.{List, [], ◌∷◌}
use mathlib.Core.Path.{◌≡◌, subst}
use native.Mathlib.Omega.{arith}
use lib.ListN.{length, take}
use lib.Seq.{length-take-le}
use Rattle.hold_reading.specs.declared.Counts.{Counts}
use Rattle.hold_reading.specs.Buffers.{buffers}
use Rattle.apply_files.specs.Lines.{AddedPaths, over}
use Rattle.apply_files.specs.Path.{path_over, PathFits, AddsPath}
use Rattle.apply_files.proofs.Limits.{path_over_law, path_within}
use Rattle.ask_header_names.specs.Names.{HeaderAsks, AddsHeader}

module _ {word names index graph : List ℕ} {c : Counts} (a : HeaderAsks word names index graph c) (n : ℕ) where
  pub header_over : {names' index' graph' : List ℕ} → path_over n c ≡ true → AddsHeader word n names index graph c names' index' graph' None
  header_over h = record { adds = λ name e w texts bind l x. over (path_over_law x name (subst (λ (k : ℕ). path_over k c ≡ true) e h)) }

  module _ (h : path_over n c ≡ false) where
    pub name_fits : n ≤ length word
    name_fits = omega (arith, (path_within n c h).short, a.word_long)

    pub name_counted : length (take n word) ≡ n
    name_counted = length-take-le n word name_fits

    pub header_fits : PathFits (take n word) names index graph c
    header_fits =
        record {
          texts = a.texts;
          bind = a.bind;
          names_long = a.names_long;
          within = rw name_counted h;
          line = a.line;
          writing = a.writing;
        }

    pub header_added : {names' index' graph' : List ℕ} {r : Option Counts} → AddsPath (take n word) names index graph c names' index' graph' r
        → AddsHeader word n names index graph c names' index' graph' r
    header_added {names'} {index'} {graph'} {r} m =
        record {
          adds = λ name e w texts bind l x.
              subst (λ (p : List ℕ). AddedPaths (buffers names' index' texts bind graph') l (p ∷ []) r) (w name_fits) (m.adds texts bind l x);
        }
