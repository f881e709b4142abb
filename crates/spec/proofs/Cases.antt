-- A sample of the cases of `cases/`, by their names there, that touches every definition: each ask is computed. A plan shows as 0 and its list, a
-- text as 0 and its bytes, a circle as 14, any other refusal as its number and place.
use Prim.Native.Nat.{ℕ}
use mathlib.Core.List.{List, [], ◌∷◌, ◌++◌}
use mathlib.Core.Path.{◌≡◌, refl}
use Rattle.lists.specs.Text.{bytes}
use Rattle.spec.specs.declared.Wanted.TheVariants.{Description}
use Rattle.spec.specs.Answers.{number_of_refusal, place_of_refusal}
use Rattle.spec.specs.Bundle.{alone, no_lists}
use Rattle.spec.specs.PlanAsk.{PlanOutcome, inputs_of, plan_ask, listed, circular, no_plan}
use Rattle.spec.specs.TextAsk.{TextOutcome, text_ask, text, no_text}
use Rattle.spec.specs.Marked.{on, plan, command}

unfoldable pub shown_plan : PlanOutcome → List ℕ
unfolding number_of_refusal place_of_refusal
shown_plan (listed l) = 0 ∷ l
shown_plan (circular steps targets) = 14 ∷ []
shown_plan (no_plan r) = number_of_refusal r ∷ place_of_refusal r ∷ []

unfoldable pub shown_text : TextOutcome → List ℕ
unfolding number_of_refusal place_of_refusal
shown_text (text t) = 0 ∷ t
shown_text (no_text r) = number_of_refusal r ∷ place_of_refusal r ∷ []

limit_list_buffer_511 : shown_plan (plan_ask (inputs_of (alone (bytes "")) (0 ∷ 0 ∷ 0 ∷ 0 ∷ 16 ∷ 0 ∷ 0 ∷ 0 ∷ 16 ∷ 0 ∷ 0 ∷ 0 ∷ 16 ∷ 0 ∷ 0 ∷ 0 ∷ []) (bytes "") no_lists) 511) ≡ 1 ∷ 0 ∷ []
unfolding shown_plan plan_ask alone
limit_list_buffer_511 = refl

forbidden_two : shown_plan (plan (bytes "a = " ++ ((13 ∷ []) ++ ((9 ∷ []) ++ ((0 ∷ []) ++ (bytes "\n"))))) [] "") ≡ 3 ∷ 4 ∷ []
unfolding shown_plan plan_ask alone
forbidden_two = refl

limit_path_255_expanded : shown_plan (plan (bytes "v = aaaaaaaaaaaaaaaaaaaaaaaaaaaaaaaaaaaaaaaaaaaaaaaaaaaaaaaaaaaaaaaaaaaaaaaaaaaaaaaaaaaaaaaaaaaaaaaaaaaaaaaaaaaaaaaaaaaaaaaaaaaaaaaaaaaaaaaaaaaaaaaaaaaaaaaaaaaaaaaaaaaaaaaaaaaaaaaaaaaaaaaaaaaaaaaaaaaaaaaa\nbuild ${v}bbbbbbbbbbbbbbbbbbbbbbbbbbbbbbbbbbbbbbbbbbbbbbbbbbbbbbb: phony\n") [] "") ≡ 0 ∷ []
unfolding shown_plan plan_ask alone
limit_path_255_expanded = refl

limit_path_256_expanded : shown_plan (plan (bytes "v = aaaaaaaaaaaaaaaaaaaaaaaaaaaaaaaaaaaaaaaaaaaaaaaaaaaaaaaaaaaaaaaaaaaaaaaaaaaaaaaaaaaaaaaaaaaaaaaaaaaaaaaaaaaaaaaaaaaaaaaaaaaaaaaaaaaaaaaaaaaaaaaaaaaaaaaaaaaaaaaaaaaaaaaaaaaaaaaaaaaaaaaaaaaaaaaaaaaaaaaa\nbuild ${v}bbbbbbbbbbbbbbbbbbbbbbbbbbbbbbbbbbbbbbbbbbbbbbbbbbbbbbbb: phony\n") [] "") ≡ 9 ∷ 205 ∷ []
unfolding shown_plan plan_ask alone
limit_path_256_expanded = refl

join_between_all_tokens : shown_text (command (bytes "v$\n =$\n 1\nrule$\n r\n  command$\n=$\n$v $in\nbuild$\n a$\n :$\n r$\n b $\n |$\n c $\n ||$\n d\ndefault$\n a\n") 0) ≡ 0 ∷ 49 ∷ 32 ∷ 98 ∷ []
unfolding shown_text text_ask alone
join_between_all_tokens = refl

join_in_path : shown_text (command (bytes "rule r\n  command = $out\nbuild a$\n  b: r\n") 0) ≡ 0 ∷ 97 ∷ 98 ∷ []
unfolding shown_text text_ask alone
join_in_path = refl

quotes_left_hand : shown_text (command (bytes "rule r\n  command = x $in $out\nbuild o$ 1: r left$ hand a+b/c.d_e-F9\n") 0) ≡ 0 ∷ bytes "x 'left hand' a+b/c.d_e-F9 'o 1'"
unfolding shown_text text_ask alone
quotes_left_hand = refl

quotes_in_newline : shown_text (command (bytes "rule r\n  command = $in_newline\nbuild o: r it's b ~c\n") 0) ≡ 0 ∷ bytes "'it'\\''s'\nb\n'~c'"
unfolding shown_text text_ask alone
quotes_in_newline = refl

dollars_from_the_left_odd : shown_text (command (bytes "rule r\n  command = x$$$\n  y\nbuild a: r\n") 0) ≡ 0 ∷ 120 ∷ 36 ∷ 121 ∷ []
unfolding shown_text text_ask alone
dollars_from_the_left_odd = refl

dollar_braces_take_name_bytes : shown_text (command (bytes "a.b = 1\na = 2\nrule r\n  command = ${a.b} $a.b\nbuild o: r\n") 0) ≡ 0 ∷ 49 ∷ 32 ∷ 50 ∷ 46 ∷ 98 ∷ []
unfolding shown_text text_ask alone
dollar_braces_take_name_bytes = refl

bad_dollar_braces_open : shown_plan (plan (bytes "a = ${a\n") [] "") ≡ 5 ∷ 4 ∷ []
unfolding shown_plan plan_ask alone
bad_dollar_braces_open = refl

ends_in_join_after_5 : shown_plan (plan (bytes "a = $.$\n") [] "") ≡ 5 ∷ 4 ∷ []
unfolding shown_plan plan_ask alone
ends_in_join_after_5 = refl

ends_in_join_before_7 : shown_plan (plan (bytes "build a: nope$\n") [] "") ≡ 4 ∷ 0 ∷ []
unfolding shown_plan plan_ask alone
ends_in_join_before_7 = refl

comment_closes_no_block : shown_text (command (bytes "rule r\n# unindented\n  # indented\n  command = $v\nbuild a: r\n# again\n  v = 1\n") 0) ≡ 0 ∷ 49 ∷ []
unfolding shown_text text_ask alone
comment_closes_no_block = refl

rule_no_command_before_4 : shown_plan (plan (bytes "a = 1\nrule r\nfoo\n") [] "") ≡ 7 ∷ 6 ∷ []
unfolding shown_plan plan_ask alone
rule_no_command_before_4 = refl

keyword_as_rule_of_build_pool : shown_plan (plan (bytes "build a: pool\n") [] "") ≡ 6 ∷ 0 ∷ []
unfolding shown_plan plan_ask alone
keyword_as_rule_of_build_pool = refl

not_yet_without_equals : shown_plan (plan (bytes "deps x\n") [] "") ≡ 6 ∷ 0 ∷ []
unfolding shown_plan plan_ask alone
not_yet_without_equals = refl

form_build_three_bars : shown_plan (plan (bytes "build a: phony b ||| c\n") [] "") ≡ 4 ∷ 0 ∷ []
unfolding shown_plan plan_ask alone
form_build_three_bars = refl

form_default_colon : shown_plan (plan (bytes "build a: phony\ndefault a:\n") [] "") ≡ 4 ∷ 15 ∷ []
unfolding shown_plan plan_ask alone
form_default_colon = refl

rule_key_twice_description : shown_plan (plan (bytes "rule r\n  description = x\n  description = y\n") [] "") ≡ 7 ∷ 25 ∷ []
unfolding shown_plan plan_ask alone
rule_key_twice_description = refl

build_output_twice_in_step : shown_plan (plan (bytes "build a b a: phony\n") [] "") ≡ 8 ∷ 0 ∷ []
unfolding shown_plan plan_ask alone
build_output_twice_in_step = refl

order_8_before_9_empty_path_last : shown_plan (plan (bytes "#\nbuild aaaaaaaaaaaaaaaaaaaaaaaaaaaaaaaaaaaaaaaaaaaaaaaaaaaaaaaaaaaaaaaaaaaaaaaaaaaaaaaaaaaaaaaaaaaaaaaaaaaaaaaaaaaaaaaaaaaaaaaaaaaaaaaaaaaaaaaaaaaaaaaaaaaaaaaaaaaaaaaaaaaaaaaaaaaaaaaaaaaaaaaaaaaaaaaaaaaaaaaaaaaaaaaaaaaaaaaaaaaaaaaaaaaaaaaaaaaaaaaaaaaaaaaaaaaaaaaa: phony | b || $e\n") [] "") ≡ 8 ∷ 2 ∷ []
unfolding shown_plan plan_ask alone
order_8_before_9_empty_path_last = refl

default_of_a_later_output : shown_plan (plan (bytes "build a: phony b\ndefault b\nbuild b: phony\n") [] "") ≡ 8 ∷ 17 ∷ []
unfolding shown_plan plan_ask alone
default_of_a_later_output = refl

files_numbered_outputs_first : shown_plan (plan (bytes "rule r\n  command = x\nbuild a b: r c d | e f || g h\n") (on "c" 5 ∷ on "d" 5 ∷ on "e" 5 ∷ on "g" 5 ∷ on "h" 5 ∷ []) "") ≡ 15 ∷ 5 ∷ []
unfolding shown_plan plan_ask alone
files_numbered_outputs_first = refl

block_last_one_wins : shown_text (command (bytes "rule r\n  command = $v\nbuild a: r\n  v = 1\n  w = 2\n  v = 3\n") 0) ≡ 0 ∷ 51 ∷ []
unfolding shown_text text_ask alone
block_last_one_wins = refl

version_leading_zeros : shown_plan (plan (bytes "ninja_required_version = 0001.05.000000000000\n") [] "") ≡ 0 ∷ []
unfolding shown_plan plan_ask alone
version_leading_zeros = refl

version_1_5_1 : shown_plan (plan (bytes "ninja_required_version = 1.5.1\n") [] "") ≡ 10 ∷ 0 ∷ []
unfolding shown_plan plan_ask alone
version_1_5_1 = refl

card_names_prefix : shown_plan (plan (bytes "") (on "a" 5 ∷ on "ab" 5 ∷ on "abc" 5 ∷ on "b" 5 ∷ []) "") ≡ 0 ∷ []
unfolding shown_plan plan_ask alone
card_names_prefix = refl

card_name_offset_gap : shown_plan (plan_ask (inputs_of (alone (bytes "")) (2 ∷ 0 ∷ 0 ∷ 0 ∷ 16 ∷ 0 ∷ 0 ∷ 0 ∷ 48 ∷ 0 ∷ 0 ∷ 0 ∷ 51 ∷ 0 ∷ 0 ∷ 0 ∷ 0 ∷ 0 ∷ 0 ∷ 0 ∷ 1 ∷ 0 ∷ 0 ∷ 0 ∷ 5 ∷ 0 ∷ 0 ∷ 0 ∷ 0 ∷ 0 ∷ 0 ∷ 0 ∷ 2 ∷ 0 ∷ 0 ∷ 0 ∷ 1 ∷ 0 ∷ 0 ∷ 0 ∷ 5 ∷ 0 ∷ 0 ∷ 0 ∷ 0 ∷ 0 ∷ 0 ∷ 0 ∷ 97 ∷ 120 ∷ 98 ∷ []) (bytes "") no_lists) 512) ≡ 11 ∷ 0 ∷ []
unfolding shown_plan plan_ask alone
card_name_offset_gap = refl

card_time_too_great : shown_plan (plan (bytes "") (on "a" 9223372036854775808 ∷ []) "") ≡ 11 ∷ 0 ∷ []
unfolding shown_plan plan_ask alone
card_time_too_great = refl

target_unknown_first_of_two : shown_plan (plan (bytes "build a: phony\n") [] "a\na\nb\n\nc\n") ≡ 12 ∷ 4 ∷ []
unfolding shown_plan plan_ask alone
target_unknown_first_of_two = refl

no_root_two : shown_plan (plan (bytes "build a: phony b\nbuild b: phony a\n") [] "") ≡ 13 ∷ 0 ∷ []
unfolding shown_plan plan_ask alone
no_root_two = refl

roots_outputs_that_are_no_input : shown_plan (plan (bytes "rule r\n  command = x\nbuild a: r\nbuild b: r c\nbuild c: r\nbuild d: phony\n") [] "") ≡ 0 ∷ 0 ∷ 2 ∷ 1 ∷ []
unfolding shown_plan plan_ask alone
roots_outputs_that_are_no_input = refl

circle_nobody_needs : shown_plan (plan (bytes "rule r\n  command = x\nbuild a: r a\nbuild b: r\n") [] "b\n") ≡ 0 ∷ 1 ∷ []
unfolding shown_plan plan_ask alone
circle_nobody_needs = refl

circle_of_three : shown_plan (plan (bytes "rule r\n  command = x\nbuild a: r b\nbuild b: r c\nbuild c: r a\n") [] "a\n") ≡ 14 ∷ []
unfolding shown_plan plan_ask alone
circle_of_three = refl

missing_lowest_against_step_order : shown_plan (plan (bytes "rule r\n  command = x\nbuild x: r y\nbuild a: r z\nbuild b: phony\n") [] "a\nx\n") ≡ 15 ∷ 1 ∷ []
unfolding shown_plan plan_ask alone
missing_lowest_against_step_order = refl

second_output_older : shown_plan (plan (bytes "rule r\n  command = x\nbuild a b: r c\n") (on "a" 7 ∷ on "b" 5 ∷ on "c" 6 ∷ []) "") ≡ 0 ∷ 0 ∷ []
unfolding shown_plan plan_ask alone
second_output_older = refl

stale_not_by_order_only_maker : shown_plan (plan (bytes "rule r\n  command = x\nbuild a: r || b\nbuild b: r c\n") (on "a" 9 ∷ on "b" 5 ∷ on "c" 6 ∷ []) "") ≡ 0 ∷ 1 ∷ []
unfolding shown_plan plan_ask alone
stale_not_by_order_only_maker = refl

phony_time_through_chain : shown_plan (plan (bytes "rule r\n  command = x\nbuild a: r p\nbuild p: phony q\nbuild q: phony s\n") (on "a" 5 ∷ on "s" 6 ∷ []) "") ≡ 0 ∷ 0 ∷ []
unfolding shown_plan plan_ask alone
phony_time_through_chain = refl

phony_no_inputs_missing : shown_plan (plan (bytes "rule r\n  command = x\nbuild a: r p\nbuild p: phony\n") (on "a" 9 ∷ []) "") ≡ 0 ∷ 0 ∷ []
unfolding shown_plan plan_ask alone
phony_no_inputs_missing = refl

order_through_fresh_and_phony : shown_plan (plan (bytes "rule r\n  command = x\nbuild a: r || b\nbuild b: r || p\nbuild p: phony || c\nbuild c: r || d\nbuild d: r\n") (on "b" 5 ∷ on "c" 5 ∷ []) "") ≡ 0 ∷ 4 ∷ 0 ∷ []
unfolding shown_plan plan_ask alone
order_through_fresh_and_phony = refl

order_lowest_first : shown_plan (plan (bytes "rule r\n  command = x\nbuild a: r\nbuild b: r\nbuild c: r\n") [] "c\nb\na\n") ≡ 0 ∷ 0 ∷ 1 ∷ 2 ∷ []
unfolding shown_plan plan_ask alone
order_lowest_first = refl

text_lookup_in_first : shown_text (command (bytes "in = 1\nout = 2\nin_newline = 3\nrule r\n  command = $in $out $in_newline\nbuild a: r b\n  in = 4\n  out = 5\n  in_newline = 6\n") 0) ≡ 0 ∷ 98 ∷ 32 ∷ 97 ∷ 32 ∷ 98 ∷ []
unfolding shown_text text_ask alone
text_lookup_in_first = refl

text_description_unset : shown_text (text_ask (alone (bytes "rule r\n  command = x\nbuild a: r\n")) 0 Description 8192) ≡ 0 ∷ []
unfolding shown_text text_ask alone
text_description_unset = refl

text_16_two_keys : shown_text (command (bytes "rule r\n  command = $description\n  description = $command\nbuild a: r\n") 0) ≡ 16 ∷ 0 ∷ []
unfolding shown_text text_ask alone
text_16_two_keys = refl

text_16_broken_by_block : shown_text (command (bytes "rule r\n  command = c $description\n  description = d $command\nbuild a: r\n  description = block\nbuild b: r\n  command = block\nbuild c: r\n") 0) ≡ 0 ∷ 99 ∷ 32 ∷ 98 ∷ 108 ∷ 111 ∷ 99 ∷ 107 ∷ []
unfolding shown_text text_ask alone
text_16_broken_by_block = refl

text_18_phony : shown_text (command (bytes "rule r\n  command = x\nbuild a: phony\nbuild b: r\nbuild c: phony b\n  command = x\n  description = y\n") 0) ≡ 18 ∷ 0 ∷ []
unfolding shown_text text_ask alone
text_18_phony = refl

text_three_rule_texts_deep : shown_text (command (bytes "rule r\n  command = $description\n  description = $generator\n  generator = <$in>\nbuild a: r b\n") 0) ≡ 0 ∷ 60 ∷ 98 ∷ 62 ∷ []
unfolding shown_text text_ask alone
text_three_rule_texts_deep = refl
