-- Which records of a bundle are opened, in the order in which they are: the reading of `Manifest.read_lines` and `Manifest.opener` once more, noting the
-- record at every opening. And what it is that two bundles are read alike.
use Rattle.std.specs.Prelude.{ℕ, zero, suc, ◌-◌, List, [], ◌∷◌, ◌++◌, map, Bool, true, false, ◌≡◌, ltb, length}
use Rattle.std.proofs.Math.Option.{none}
use Rattle.spec.specs.declared.Refusal.{Refusal}
use Rattle.spec.specs.Basics.{sum}
use Rattle.spec.specs.Limits.{max_manifest, max_bundle, max_open}
use Rattle.spec.specs.Answers.{refusal_says, number_of_refusal, placed}
use Rattle.spec.specs.Lines.{Line}
use Rattle.spec.specs.Dollars.{expand}
use Rattle.spec.specs.Bundle.{sound_bundle, bundle_names, bundle_texts}
use Rattle.spec.specs.declared.Wanted.{Wanted}
use Rattle.spec.specs.PlanAsk.{inputs_of, PlanOutcome, listed, circular, no_plan, plan_ask}
use Rattle.spec.specs.TextAsk.{TextOutcome, text, no_text, text_ask}
use Rattle.spec.specs.Reading.{Step, Reading, nothing_read, var_from, file_var, number_of}
use Rattle.spec.specs.Statements.{Block, no_block, Outcome, goes_on, opens, refused}
use Rattle.spec.specs.Manifest.{Opener, opening, read_line, open_path, opener, text_lines, bad_byte_in, Read, accepted, refused_with, read_manifest}

-- what is noted of a line that opens a file: its record, and those that are opened from there
abbrev pub Noting : Type 0
Noting = ℕ → Bool → List ℕ → Reading → List ℕ

unfoldable pub noted_at : Noting → Outcome → List ℕ
noted_at note (goes_on rd b) = []
noted_at note (opens start sub raw rd) = note start sub raw rd
noted_at note (refused r) = []

-- the next part's, where the reading goes on
unfoldable pub noted_then : Outcome → (Reading → Block → List ℕ) → List ℕ
noted_then (goes_on rd b) f = f rd b
noted_then (opens start sub raw rd) f = []
noted_then (refused r) f = []

-- the records that these lines open, as `read_lines` reads them
unfoldable pub noted_in : Opener → Noting → List Line → Reading → Block → List ℕ
unfolding noted_at noted_then opening read_line
noted_in via note [] rd b = []
noted_in via note (l ∷ ls) rd b = noted_at note (read_line l rd b) ++ noted_then (opening via (read_line l rd b)) (noted_in via note ls)

-- the records that are opened by a line that opens a file, where so many more may be open: the one of its path, if `open_path` lets it be read, then those
-- that its lines open
unfoldable pub noting : List (List ℕ) → List (List ℕ) → ℕ → Noting
unfolding noted_then noted_in open_path opener expand var_from number_of text_lines
noting names texts zero start sub raw rd = []
noting names texts (suc more) start sub raw rd =
    let p = expand (file_var rd.vars) raw in
    let k = number_of p names in
    noted_then (open_path names (λ j after. goes_on after no_block) start sub p rd)
    (λ after b. k ∷ noted_in (opener names texts more) (noting names texts more) (text_lines texts k) after no_block)

-- the records of a bundle that are opened, the top file first
unfoldable pub opened_records : List ℕ → List ℕ
unfolding noted_in opener noting text_lines bundle_names bundle_texts
opened_records s =
    let names = bundle_names s in
    let texts = bundle_texts s in
    0 ∷ noted_in (opener names texts (max_open - 1)) (noting names texts (max_open - 1)) (text_lines texts 0) nothing_read no_block

-- ------------------------------------------------------------------ bundles that are read alike

-- a bundle that is neither refused with 19 at place 0 nor with 2 or 3, which go over all its records
pub record PassesBytes (s : List ℕ) : Type 0 where
  pub sound : sound_bundle 1 max_bundle s ≡ true
  pub short : ltb max_manifest (sum (map (λ (t : List ℕ). length t) (bundle_texts s))) ≡ false
  pub clean : bad_byte_in 0 (bundle_texts s) ≡ none

-- The same number at the same place, which is a record's number and an offset in its text: one number over all texts (`Answers.spot`) moves where a text
-- before it is longer.
pub record SameRefusal (texts texts' : List (List ℕ)) (r r' : Refusal) : Type 0 where
  pub number : number_of_refusal r ≡ number_of_refusal r'
  pub place : placed texts (refusal_says r) ≡ placed texts' (refusal_says r')

-- both are accepted and the same has been read, or both are refused
pub data SameRead (texts texts' : List (List ℕ)) : Read → Read → Type 0 where
  both_accepted : {rd : Reading} → SameRead texts texts' (accepted rd) (accepted rd)
  both_refused : {r r' : Refusal} → SameRefusal texts texts' r r' → SameRead texts texts' (refused_with r) (refused_with r')

abbrev pub ReadAlike : List ℕ → List ℕ → Type 0
ReadAlike s s' = SameRead (bundle_texts s) (bundle_texts s') (read_manifest s) (read_manifest s')

-- the same of what the asks come out with
pub data SamePlan (texts texts' : List (List ℕ)) : PlanOutcome → PlanOutcome → Type 0 where
  both_listed : {l : List ℕ} → SamePlan texts texts' (listed l) (listed l)
  both_circular : {steps : List Step} {roots : List ℕ} → SamePlan texts texts' (circular steps roots) (circular steps roots)
  no_plan_law : {r r' : Refusal} → SameRefusal texts texts' r r' → SamePlan texts texts' (no_plan r) (no_plan r')

pub data SameText (texts texts' : List (List ℕ)) : TextOutcome → TextOutcome → Type 0 where
  both_texts : {t : List ℕ} → SameText texts texts' (text t) (text t)
  both_no_text : {r r' : Refusal} → SameRefusal texts texts' r r' → SameText texts texts' (no_text r) (no_text r')

-- Whatever is asked of the two bundles, the answers are the same.
pub record AnsweredAlike (s s' : List ℕ) : Type 0 where
  pub plans : (card targets headers : List ℕ) (room : ℕ)
      → SamePlan (bundle_texts s) (bundle_texts s') (plan_ask (inputs_of s card targets headers) room) (plan_ask (inputs_of s' card targets headers) room)
  pub texts : (step : ℕ) (wanted : Wanted) (room : ℕ) → SameText (bundle_texts s) (bundle_texts s') (text_ask s step wanted room) (text_ask s' step wanted room)
