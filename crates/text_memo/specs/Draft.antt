-- What a draft remembers of the texts of names.
use Rattle.std.specs.Prelude.{ℕ, ◌≤◌, List, ◌⊎◌, ◌≡◌, ltb, get_or, replicate, Option, Some, None}
use Rattle.lists.specs.Tests.{if_b}
use Rattle.lists.specs.Parts.{part}
use Rattle.spec.specs.Limits.{max_text}
use Rattle.spec.specs.Text.{rule_keys, key_number}
use Rattle.text_buffer.specs.Puts.{OpenText, PutsText}
use Rattle.text_memo.specs.declared.Span.{Span}
use Rattle.text_memo.specs.declared.Draft.{Draft}

abbrev pub span : ℕ → ℕ → Span
span f e = record { from = f; to = e }

abbrev pub nothing : Draft
nothing = record { at = 0; spans = replicate rule_keys None }

-- the span of a key by its number; any other name has none
unfoldable pub span_for : Draft → List ℕ → Option Span
unfolding key_number
span_for d n = if_b (ltb (key_number n) rule_keys) (λ _. get_or d.spans (key_number n) None) (λ _. None)

-- Only the span of this name may have changed, to that from a place up to the end.
pub record Remembered (d : Draft) (name : List ℕ) (from : ℕ) (r : Draft) : Type 0 where
  pub at : r.at ≡ d.at
  pub spans : (n : List ℕ) → ((n ≡ name) × (span_for r n ≡ Some (span from d.at))) ⊎ (span_for r n ≡ span_for d n)

-- The part lies in what is written.
pub record WrittenPart (buffer : List ℕ) (from to place : ℕ) : Type 0 where
  pub ordered : from ≤ to
  pub written : to ≤ place
  pub free : OpenText buffer place

-- The spans of a draft hold the texts of their names.
pub record SpanKept (text : List ℕ → List ℕ) (buffer : List ℕ) (d : Draft) (n : List ℕ) (x : Span) : Type 0 where
  pub ordered : x.from ≤ x.to
  pub written : x.to ≤ d.at
  pub is : part buffer x.from x.to ≡ text n

pub record Remembers (text : List ℕ → List ℕ) (buffer : List ℕ) (d : Draft) : Type 0 where
  pub free : OpenText buffer d.at
  pub kept : (n : List ℕ) (x : Span) → span_for d n ≡ Some x → SpanKept text buffer d n x

-- s is written behind a draft, and the draft then remembers.
pub record Drafted (text : List ℕ → List ℕ) (before : List ℕ) (d : Draft) (s after : List ℕ) (r : Draft) : Type 0 where
  pub puts : PutsText before d.at s after r.at
  pub remembers : r.at ≤ max_text → Remembers text after r

-- another place and the same spans
pub record Moved (d : Draft) (at : ℕ) (r : Draft) : Type 0 where
  pub to : r.at ≡ at
  pub same : (n : List ℕ) → span_for r n ≡ span_for d n

-- s is written behind the draft, whatever it remembers.
pub record WritesDraft (before : List ℕ) (d : Draft) (s after : List ℕ) (r : Draft) : Type 0 where
  pub drafts : (text : List ℕ → List ℕ) → Remembers text before d → Drafted text before d s after r
