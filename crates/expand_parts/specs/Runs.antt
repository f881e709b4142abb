-- An expansion as runs of bytes, each copied from the raw text or from the value of a variable.
use Rattle.std.specs.Prelude.{ℕ, ◌+◌, ◌*◌, ◌-◌, ◌≤◌, ◌<◌, true, false, List, ◌++◌, ◌≡◌, length, drop}
use Rattle.std.proofs.Math.Option.{none}
use Rattle.lists.specs.Tests.{if_b}
use Rattle.lists.specs.Parts.{part}
use Rattle.spec.specs.Limits.{max_manifest}
use Rattle.spec.specs.Dollars.{bad_dollar, expand}
use Rattle.spec.specs.Reading.{var_from, file_var}
use Rattle.scan_classes.specs.Table.{classes}
use Rattle.hold_bindings.specs.Log.{Logged, variables_of}
use Rattle.hold_bindings.specs.Held.{max_texts, HoldsBindings, SoundBindings}
use Rattle.expand_parts.specs.declared.Run.{Run}

-- what a raw text expands to with the file's variables of a log
unfoldable pub expanded_by : List Logged → List ℕ → List ℕ
unfolding expand var_from variables_of
expanded_by log raw = expand (file_var (variables_of log)) raw

unfoldable pub bytes_of : List ℕ → List ℕ → Run → List ℕ
bytes_of raw texts r = if_b r.bound (λ _. part texts r.from r.to) (λ _. part raw r.from r.to)

-- The run lies in its slice, and what follows it in the raw text is sound.
pub record RunPlaced (raw texts : List ℕ) (r : Run) : Type 0 where
  pub ordered : r.from ≤ r.to
  pub in_raw : r.bound ≡ false → r.to ≤ length raw
  pub in_texts : r.bound ≡ true → r.to ≤ length texts
  pub within : r.next ≤ length raw
  pub sound : bad_dollar (drop r.next raw) ≡ none

-- what is left of an expansion from a run on
unfoldable pub left_of : List Logged → List ℕ → List ℕ → Run → List ℕ
unfolding expanded_by bytes_of
left_of log raw texts r = bytes_of raw texts r ++ expanded_by log (drop r.next raw)

-- The run that begins at place i. It has at most as many bytes as all texts for each byte of the raw text that it stands for.
pub record BeginsRun (raw texts bind : List ℕ) (count i : ℕ) (r : Run) : Type 0 where
  pub placed : RunPlaced raw texts r
  pub forward : i < r.next
  pub bounded : r.to - r.from ≤ max_texts * (r.next - i)
  pub gives : (log : List Logged) → HoldsBindings log texts bind count → expanded_by log (drop i raw) ≡ left_of log raw texts r

-- A run for the value of a name.
pub record Variable (name raw texts bind : List ℕ) (count place : ℕ) (r : Run) : Type 0 where
  pub next : r.next ≡ place
  pub ordered : r.from ≤ r.to
  pub in_raw : r.bound ≡ false → r.to ≤ place
  pub in_texts : r.bound ≡ true → r.to ≤ length texts
  pub bounded : r.to - r.from ≤ max_texts
  pub value : (log : List Logged) → HoldsBindings log texts bind count → bytes_of raw texts r ≡ file_var (variables_of log) name

-- What an expansion from place i on asks.
pub record ExpandReady (t raw texts bind : List ℕ) (count i : ℕ) : Type 0 where
  pub table : t ≡ classes
  pub short : length raw ≤ max_manifest
  pub within : i ≤ length raw
  pub sound : bad_dollar (drop i raw) ≡ none
  pub held : SoundBindings texts bind count

-- What going on from a run asks.
pub record Going (t raw texts bind : List ℕ) (count : ℕ) (r : Run) : Type 0 where
  pub table : t ≡ classes
  pub short : length raw ≤ max_manifest
  pub placed : RunPlaced raw texts r
  pub held : SoundBindings texts bind count

-- how many bytes there can be from a run on
abbrev pub most : List ℕ → Run → ℕ
most raw r = max_texts * (length raw - r.next) + (r.to - r.from)

-- The same is left from x on as from r on, and x has a byte or nothing follows it.
pub record Filled (raw texts bind : List ℕ) (count : ℕ) (r x : Run) : Type 0 where
  pub placed : RunPlaced raw texts x
  pub most : most raw x ≤ most raw r
  pub last : x.to ≤ x.from → length raw ≤ x.next
  pub left : (log : List Logged) → HoldsBindings log texts bind count → left_of log raw texts r ≡ left_of log raw texts x
