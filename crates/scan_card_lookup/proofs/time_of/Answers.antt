-- `scan_card_lookup::time_of` meets its contract: the entries before `low` come before the name, those from `high` on after it.
use mathlib.Core.Path.{sym, ◌∙◌}
use native.Mathlib.Omega.{arith}
use Rattle.lists.specs.Order.{order_less, order_greater, order_equal}
use Rattle.scan_card.proofs.Places.{card_header, card_rising, length_card, listed}
use Rattle.scan_card.proofs.Rules.{header}
use Rattle.scan_card_lookup.proofs.Search.{search_begin, search_end, search_found, search_lower, search_higher}
use Rattle.scan_card.specs.Fields.{card_entry_at}
use Rattle.scan_card_lookup.proofs.time_of.Goals as goal

pub word-high-requires : goal.word-high-requires
word-high-requires c = let h = header (card_header _ c.requires) in omega arith

pub loop-low-init : goal.loop-low-init
loop-low-init c = let h = header (card_header _ c.requires) in search_begin _ _ _ (c.word-high.ensures.is ∙ sym (length_card _)) (omega arith)

pub order_at-requires : goal.order_at-requires
order_at-requires c = listed c.requires _ (omega (arith, length_card c.args.card.now))

pub loop-low-preserved-in-Less : goal.loop-low-preserved-in-Less
unfolding card_entry_at
loop-low-preserved-in-Less c = search_lower c.loop-low.invariant (card_rising _ c.requires) _ (omega arith) (order_less _ _ (sym c.order_at.ensures ∙ c.in-Less.is))

pub loop-low-preserved : goal.loop-low-preserved
unfolding card_entry_at
loop-low-preserved c = search_higher c.loop-low.invariant (card_rising _ c.requires) _ (omega arith) (order_greater _ _ (sym c.order_at.ensures ∙ c.in-Greater.is))

pub time_at-requires : goal.time_at-requires
time_at-requires c = listed c.requires _ (omega (arith, length_card c.args.card.now))

pub returns-in-Equal : goal.returns-in-Equal
unfolding card_entry_at
returns-in-Equal c = c.time_at.ensures ∙ search_found c.loop-low.invariant (card_rising _ c.requires) _ (omega arith) (order_equal _ _ (sym c.order_at.ensures ∙ c.in-Equal.is))

pub returns : goal.returns
returns c = search_end c.loop-low.invariant c.loop-low-test.false
