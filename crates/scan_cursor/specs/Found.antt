-- Lines that are found ahead of their reading, as numbers.
use Rattle.std.specs.Prelude.{ℕ, ◌+◌, ◌^◌, ◌≤◌, ◌<◌, true, false, List, [], ◌∷◌, ◌++◌, ◌≡◌, leb, length, take, drop, set}
use Rattle.lists.specs.Tests.{if_b}
use Rattle.spec.specs.Lines.{Line}
use Rattle.scan_classes.specs.Table.{classes}
use Rattle.scan_lines.specs.Endings.{lines_at}
use Rattle.scan_cursor.specs.Spans.{line_in, is_passed}
use Rattle.scan_cursor.specs.declared.LineBounds.{LineBounds}
use Rattle.scan_cursor.specs.declared.Found.{Found}

-- the lines that these numbers tell: by turns where one starts and where it ends
unfoldable pub lines_in : List ℕ → List ℕ → List Line
lines_in m [] = []
lines_in m (i ∷ []) = []
lines_in m (i ∷ e ∷ ns) = line_in m i e ∷ lines_in m ns

-- the numbers come in pairs, and each pair is a part of the manifest
unfoldable pub Bounds : List ℕ → List ℕ → Type 0
Bounds m [] = Unit {0}
Bounds m (i ∷ []) = ⊥
Bounds m (i ∷ e ∷ ns) = (i ≤ e) × (e ≤ length m) × Bounds m ns

-- all lines but comments with their newline: "a comment .. closes no block"
unfoldable pub uncommented : List Line → List Line
uncommented [] = []
uncommented (l ∷ ls) = if_b (is_passed l) (λ _. uncommented ls) (λ _. l ∷ uncommented ls)

-- ---- one line

pub record LinePutAsk (out : List ℕ) (n : ℕ) (s : LineBounds) : Type 0 where
  pub room : n + 2 ≤ length out
  pub start_small : s.start < 2 ^ 32
  pub end_small : s.end < 2 ^ 32
  pub past : s.comment ≡ true → s.start < s.next

-- a line's start and its end as numbers n and n + 1
abbrev pub put_at : List ℕ → ℕ → LineBounds → List ℕ
put_at out n s = set (set out n s.start) (n + 1) s.end

-- What becomes of a line behind the first n numbers: there is none at the manifest's end, a comment is passed over, any other is put down.
pub data LinePut (out : List ℕ) (n : ℕ) (s : LineBounds) : List ℕ → Found → Type 0 where
  none : s.next ≤ s.start → LinePut out n s out (record { filled = n; next = s.start; more = false })
  passed : s.start < s.next → s.comment ≡ true → LinePut out n s out (record { filled = n; next = s.next; more = true })
  put : s.start < s.next → s.comment ≡ false
      → LinePut out n s (put_at out n s) (record { filled = n + 2; next = s.next; more = leb (n + 4) (length (put_at out n s)) })

-- ---- lines from a place on

pub record FoundAsk (t m : List ℕ) (i : ℕ) (out : List ℕ) : Type 0 where
  pub table : t ≡ classes
  pub small : length m < 2 ^ 32
  pub within : i ≤ length m
  pub room : 2 ≤ length out

-- The first numbers tell the lines from place i up to the next place, but for comments.
pub record LinesFound (m : List ℕ) (i : ℕ) (out out' : List ℕ) (f : Found) : Type 0 where
  pub on : i < length m → i < f.next
  pub within : f.next ≤ length m
  pub long : length out' ≡ length out
  pub fits : f.filled ≤ length out'
  pub bounds : Bounds m (take f.filled out')
  pub lines : uncommented (lines_at i (drop i m)) ≡ lines_in m (take f.filled out') ++ uncommented (lines_at f.next (drop f.next m))
