-- `test_manifest::kestrenyo_read` meets its contract.
use mathlib.Core.Path.{refl}
use Rattle.test_manifest.proofs.Judging.{too_small, has_read, lent}
use Rattle.test_manifest.proofs.kestrenyo_read.Goals as goal

pub is_roomy-requires : goal.is_roomy-requires
is_roomy-requires c = tt

pub uncounted-requires : goal.uncounted-requires
uncounted-requires c = tt

pub shape_of-names-then-not-is_roomy : goal.shape_of-names-then-not-is_roomy
shape_of-names-then-not-is_roomy c = refl

pub shape_of-index-then-not-is_roomy : goal.shape_of-index-then-not-is_roomy
shape_of-index-then-not-is_roomy c = refl

pub shape_of-texts-then-not-is_roomy : goal.shape_of-texts-then-not-is_roomy
shape_of-texts-then-not-is_roomy c = refl

pub shape_of-bind-then-not-is_roomy : goal.shape_of-bind-then-not-is_roomy
shape_of-bind-then-not-is_roomy c = refl

pub shape_of-graph-then-not-is_roomy : goal.shape_of-graph-then-not-is_roomy
shape_of-graph-then-not-is_roomy c = refl

pub shape_of-word-then-not-is_roomy : goal.shape_of-word-then-not-is_roomy
shape_of-word-then-not-is_roomy c = refl

pub returns-then-not-is_roomy : goal.returns-then-not-is_roomy
returns-then-not-is_roomy c = too_small c.is_roomy.ensures (c.if-not-is_roomy.true) c.uncounted.ensures

pub table-t-requires : goal.table-t-requires
table-t-requires c = tt

pub read_or_clear-requires : goal.read_or_clear-requires
read_or_clear-requires c = lent c.table-t.ensures (c.is_roomy.ensures.enough (c.if-not-is_roomy.false))

pub in_numbers-requires : goal.in_numbers-requires
in_numbers-requires c = tt

pub shape_of-names : goal.shape_of-names
shape_of-names c = c.read_or_clear.auto.names

pub shape_of-index : goal.shape_of-index
shape_of-index c = c.read_or_clear.auto.index

pub shape_of-texts : goal.shape_of-texts
shape_of-texts c = c.read_or_clear.auto.texts

pub shape_of-bind : goal.shape_of-bind
shape_of-bind c = c.read_or_clear.auto.bind

pub shape_of-graph : goal.shape_of-graph
shape_of-graph c = c.read_or_clear.auto.graph

pub shape_of-word : goal.shape_of-word
shape_of-word c = c.read_or_clear.auto.word

pub returns : goal.returns
returns c = has_read c.is_roomy.ensures _ (c.if-not-is_roomy.false) c.read_or_clear.ensures c.in_numbers.ensures
