-- A sample of plans with header lists, each computed: what document 02 [4] says of stale steps, of refusals and of their order. Shown as in `Cases`.
use Prim.Native.Nat.{ℕ}
use Prim.Native.String.{String}
use mathlib.Core.List.{List, [], ◌∷◌}
use mathlib.Core.Path.{◌≡◌, refl}
use Rattle.lists.specs.Text.{bytes}
use Rattle.spec.specs.Bundle.{BundleRecord, bundled, alone}
use Rattle.spec.specs.Card.{Entry}
use Rattle.spec.specs.PlanAsk.{inputs_of, plan_ask}
use Rattle.spec.specs.Marked.{on, card_of}
use Rattle.spec.proofs.Cases.{shown_plan}

-- a text by its name
abbrev left : String → String → BundleRecord
left n t = record { name = bytes n; bytes = bytes t }

abbrev planned : String → List BundleRecord → List Entry → String → List ℕ
planned manifest headers card targets = shown_plan (plan_ask (inputs_of (alone (bytes manifest)) (card_of card) (bytes targets) (bundled headers)) 512)

abbrev one : String
one = "rule cc\n  command = cc $in\n  depfile = $out.d\nbuild a.o: cc a.c\n"

older_header : planned one (left "a.o.d" "a.o: a.c a.h\n" ∷ []) (on "a.c" 5 ∷ on "a.h" 7 ∷ on "a.o" 7 ∷ []) "" ≡ 0 ∷ []
unfolding shown_plan plan_ask alone
older_header = refl

newer_header : planned one (left "a.o.d" "a.o: \\\n a.c \\\n a.h" ∷ []) (on "a.c" 5 ∷ on "a.h" 9 ∷ on "a.o" 7 ∷ []) "" ≡ 0 ∷ 0 ∷ []
unfolding shown_plan plan_ask alone
newer_header = refl

missing_depfile_law : planned one [] (on "a.c" 5 ∷ on "a.o" 7 ∷ []) "" ≡ 0 ∷ 0 ∷ []
unfolding shown_plan plan_ask alone
missing_depfile_law = refl

-- stale, and no 15
missing_header : planned one (left "a.o.d" "a.o: a.c a.h\n" ∷ []) (on "a.c" 5 ∷ on "a.o" 7 ∷ []) "" ≡ 0 ∷ 0 ∷ []
unfolding shown_plan plan_ask alone
missing_header = refl

-- a.c is a written input too
missing_source_law : planned one (left "a.o.d" "a.o: a.c a.h\n" ∷ []) (on "a.o" 7 ∷ []) "" ≡ 15 ∷ 1 ∷ []
unfolding shown_plan plan_ask alone
missing_source_law = refl

no_depfile_named : planned "rule cc\n  command = cc $in\n  depfile = $none\nbuild a.o: cc a.c\n" [] (on "a.c" 5 ∷ on "a.o" 7 ∷ []) "" ≡ 0 ∷ []
unfolding shown_plan plan_ask alone
no_depfile_named = refl

-- a file variable `depfile` is every command step's, and no phony step's
phony_not_checked : planned "depfile = d\nbuild p: phony a\n" [] (on "a" 5 ∷ on "p" 7 ∷ []) "" ≡ 0 ∷ []
unfolding shown_plan plan_ask alone
phony_not_checked = refl

name_unquoted : planned "rule cc\n  command = cc $in\n  depfile = $out.d\nbuild left$ hand: cc a.c\n" (left "left hand.d" "left\\ hand: a.c\n" ∷ []) (on "a.c" 5 ∷ on "left hand" 7 ∷ []) "" ≡ 0 ∷ []
unfolding shown_plan plan_ask alone
name_unquoted = refl

malformed_list : planned one (left "a.o.d" "a.o: $x\n" ∷ []) (on "a.c" 5 ∷ on "a.o" 7 ∷ []) "" ≡ 20 ∷ 0 ∷ []
unfolding shown_plan plan_ask alone
malformed_list = refl

other_target : planned one (left "a.o.d" "b.o a.o: a.c\n" ∷ []) (on "a.c" 5 ∷ on "a.o" 7 ∷ []) "" ≡ 20 ∷ 0 ∷ []
unfolding shown_plan plan_ask alone
other_target = refl

long_header : planned one (left "a.o.d" "a.o: aaaaaaaaaaaaaaaaaaaaaaaaaaaaaaaaaaaaaaaaaaaaaaaaaaaaaaaaaaaaaaaaaaaaaaaaaaaaaaaaaaaaaaaaaaaaaaaaaaaaaaaaaaaaaaaaaaaaaaaaaaaaaaaaaaaaaaaaaaaaaaaaaaaaaaaaaaaaaaaaaaaaaaaaaaaaaaaaaaaaaaaaaaaaaaaaaaaaaaaaaaaaaaaaaaaaaaaaaaaaaaaaaaaaaaaaaaaaaaaaaaaaaaaaaaaaaaaa\n" ∷ []) (on "a.c" 5 ∷ on "a.o" 7 ∷ []) "" ≡ 20 ∷ 0 ∷ []
unfolding shown_plan plan_ask alone
long_header = refl

endless_name : planned "rule cc\n  command = $depfile\n  depfile = $command\nbuild a.o: cc a.c\n" [] (on "a.c" 5 ∷ on "a.o" 7 ∷ []) "" ≡ 16 ∷ 0 ∷ []
unfolding shown_plan plan_ask alone
endless_name = refl

-- the maker of a listed file comes first, and 13 and the default roots do not know of it
listed_maker : planned "rule cc\n  command = cc $in\n  depfile = $out.d\nrule gen\n  command = gen\nbuild a.o: cc a.c\nbuild a.h: gen\n" (left "a.o.d" "a.o: a.c a.h\n" ∷ []) (on "a.c" 5 ∷ on "a.o" 7 ∷ []) "" ≡ 0 ∷ 1 ∷ 0 ∷ []
unfolding shown_plan plan_ask alone
listed_maker = refl

circle_by_list : planned one (left "a.o.d" "a.o: a.c a.o\n" ∷ []) (on "a.c" 5 ∷ on "a.o" 7 ∷ []) "" ≡ 14 ∷ []
unfolding shown_plan plan_ask alone
circle_by_list = refl

-- "Every non-phony step is checked", before 14
unneeded_checked : planned "rule cc\n  command = cc $in\n  depfile = $out.d\nrule r\n  command = r\nbuild a: r a\nbuild b: cc\n" (left "b.d" "b:$" ∷ []) [] "a\n" ≡ 20 ∷ 1 ∷ []
unfolding shown_plan plan_ask alone
unneeded_checked = refl

after_13 : planned "rule cc\n  command = cc $in\n  depfile = $out.d\nbuild a: cc a\n" (left "a.d" "a:$" ∷ []) [] "" ≡ 13 ∷ 0 ∷ []
unfolding shown_plan plan_ask alone
after_13 = refl

-- a bundle of no bytes is malformed: before 2 to 10, after a 19 of the manifest's
bundle_of_no_bytes : shown_plan (plan_ask (inputs_of (alone (bytes "x\n")) (card_of []) [] []) 512) ≡ 20 ∷ 0 ∷ []
unfolding shown_plan plan_ask alone
bundle_of_no_bytes = refl

both_malformed : shown_plan (plan_ask (inputs_of [] (card_of []) [] []) 512) ≡ 19 ∷ 0 ∷ []
unfolding shown_plan plan_ask alone
both_malformed = refl
