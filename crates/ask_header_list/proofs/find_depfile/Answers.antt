-- `ask_header_list::find_depfile` meets its contract.
use mathlib.Core.Path.{sym, ◌∙◌}
use Rattle.std.proofs.lemmas.Bool.{eqb-true, eqb-false}
use Rattle.ask_header_list.proofs.Finding.{find_low, find_unnamed, find_absent, find_text}
use Rattle.ask_header_list.proofs.find_depfile.Goals as goal

pub returns-then-is_empty : goal.returns-then-is_empty
returns-then-is_empty c = find_unnamed (eqb-true _ _ (sym c.is_empty.ensures ∙ c.if-is_empty.true))

pub record_text-requires : goal.record_text-requires
record_text-requires c = record { laid_bundle = c.requires.indexed.laid; k_bound = find_low _ _ c.find_record.ensures c.in-Some.is }

pub returns-in-Some : goal.returns-in-Some
returns-in-Some c = find_text (eqb-false _ _ (sym c.is_empty.ensures ∙ c.if-is_empty.false)) c.find_record.ensures c.in-Some.is c.record_text.ensures c.file_name.ensures c.list_start.ensures

pub returns-in-None : goal.returns-in-None
returns-in-None c = find_absent (eqb-false _ _ (sym c.is_empty.ensures ∙ c.if-is_empty.false)) c.find_record.ensures c.in-None.is
