-- What the answers about a make-style text say.
use Rattle.std.specs.Prelude.{ℕ, suc, ◌≤◌, ◌<◌, Bool, true, false, List, [], ◌∷◌, ◌≡◌, length, take, drop, Option as StdOption, Some, None}
use Rattle.std.proofs.Math.Option.{Option, none, some, map}
use Rattle.depfile.specs.Depfile.{Mark, byte, gap, line, lone, marks_of, prerequisites_from, depfile_rule, listed_for}
use Rattle.scan_depfile.specs.Walk.{in_name, name_here, behind_name, behind_colon, written_over}
use Rattle.scan_depfile.specs.declared.FoundMark.{FoundMark}
use Rattle.scan_depfile.specs.declared.FoundMark.TheVariants.{Byte, Gap, Line, Lone}
use Rattle.scan_depfile.specs.declared.NameEnd.{NameEnd}
use Rattle.scan_depfile.specs.declared.DepfileName.{DepfileName}
use Rattle.scan_depfile.specs.declared.DepfileName.TheVariants.{Name, End, Malformed}

-- ------------------------------------------------------------------ marks

-- the mark at place i ends at place `next`
pub record NextMark (s : List ℕ) (i : ℕ) (m : Mark) (next : ℕ) : Type 0 where
  pub forward : i < next
  pub within : next ≤ length s
  pub marks : marks_of (drop i s) ≡ m ∷ marks_of (drop next s)

unfoldable pub MarkAt : List ℕ → ℕ → FoundMark → Type 0
MarkAt s i (Byte b next) = NextMark s i (byte b) next
MarkAt s i (Gap next) = NextMark s i gap next
MarkAt s i (Line next) = NextMark s i line next
MarkAt s i Lone = NextMark s i lone (suc i)

-- the byte of a name at place i, if one is there
pub record InName (t : Bool) (s : List ℕ) (i b next : ℕ) : Type 0 where
  pub mark : NextMark s i (byte b) next
  pub is_in : in_name t b ≡ true

unfoldable pub NameByteAt : Bool → List ℕ → ℕ → StdOption (ℕ × ℕ) → Type 0
NameByteAt t s i (Some (b, next)) = InName t s i b next
NameByteAt t s i None = name_here t (marks_of (drop i s)) ≡ []

-- A reader goes from place i to place r, where the marks that are left are f of those that were.
pub record ReadsMarks (f : List Mark → List Mark) (s : List ℕ) (i r : ℕ) : Type 0 where
  pub forward : i ≤ r
  pub within : r ≤ length s
  pub rest : marks_of (drop r s) ≡ f (marks_of (drop i s))

-- the name at place i is passed, counted, and written over the buffer
pub record PassesName (s : List ℕ) (i : ℕ) (before after : List ℕ) (r : NameEnd) : Type 0 where
  pub reads : ReadsMarks (behind_name false) s i r.next
  pub counts : r.length ≡ length (name_here false (marks_of (drop i s)))
  pub word : after ≡ written_over (name_here false (marks_of (drop i s))) before

-- the marks behind the colon of the line in which place i stands
pub record ColonBefore (s : List ℕ) (i r : ℕ) : Type 0 where
  pub within : r ≤ length s
  pub behind : behind_colon (marks_of (drop i s)) ≡ some (marks_of (drop r s))

unfoldable pub ColonAt : List ℕ → ℕ → StdOption ℕ → Type 0
ColonAt s i (Some r) = ColonBefore s i r
ColonAt s i None = behind_colon (marks_of (drop i s)) ≡ none

-- the target at place i is this one
pub record TargetHere (s : List ℕ) (i : ℕ) (out : List ℕ) (r : ℕ) : Type 0 where
  pub target : name_here true (marks_of (drop i s)) ≡ out
  pub reads : ReadsMarks (behind_name true) s i r

unfoldable pub TargetIs : List ℕ → ℕ → List ℕ → StdOption ℕ → Type 0
TargetIs s i out (Some r) = TargetHere s i out r
TargetIs s i out None = name_here true (marks_of (drop i s)) ≡ out → ⊥

-- ------------------------------------------------------------------ for callers

-- the names that are listed from a place behind the colon on
abbrev pub listed_at : List ℕ → ℕ → Option (List (List ℕ))
listed_at s i = prerequisites_from [] (marks_of (drop i s))

-- what is listed for a step with the first output `out` stands from place r on
pub record ListedFrom (s out : List ℕ) (r : ℕ) : Type 0 where
  pub within : r ≤ length s
  pub names : listed_for out (depfile_rule s) ≡ listed_at s r

unfoldable pub StartsList : List ℕ → List ℕ → StdOption ℕ → Type 0
StartsList s out (Some r) = ListedFrom s out r
StartsList s out None = listed_for out (depfile_rule s) ≡ none

-- From place i on the next name is listed, of so many bytes, and then those from place `next` on. As much of it as there is room for is in the buffer: all of it,
-- if it is no longer than the buffer.
pub record NameListed (s : List ℕ) (i next count : ℕ) (before after : List ℕ) : Type 0 where
  pub name : List ℕ
  pub counts : count ≡ length name
  pub longer : 0 < count
  pub forward : i < next
  pub within : next ≤ length s
  pub names : listed_at s i ≡ map (λ l. name ∷ l) (listed_at s next)
  pub word : after ≡ written_over name before
  pub whole : count ≤ length before → take count after ≡ name

-- no more names are listed, or the text is malformed
pub record ListOver (s : List ℕ) (i : ℕ) (l : Option (List (List ℕ))) (before after : List ℕ) : Type 0 where
  pub names : listed_at s i ≡ l
  pub word : after ≡ before

unfoldable pub NextPrerequisite : List ℕ → ℕ → List ℕ → List ℕ → DepfileName → Type 0
NextPrerequisite s i before after (Name next count) = NameListed s i next count before after
NextPrerequisite s i before after End = ListOver s i (some []) before after
NextPrerequisite s i before after Malformed = ListOver s i none before after
