-- `test_manifest::read_or_clear` meets its contract.
use mathlib.Core.Path.{sym, ◌∙◌}
use Rattle.test_manifest.proofs.Clearing.{kept_all, cleared_all}
use Rattle.test_manifest.proofs.read_or_clear.Goals as goal

pub zero_bytes_from-requires : goal.zero_bytes_from-requires
zero_bytes_from-requires c = tt

pub clear_all-requires : goal.clear_all-requires
clear_all-requires c = tt

pub shape_of-names-then-is_ok : goal.shape_of-names-then-is_ok
shape_of-names-then-is_ok c = c.read_manifest-a.auto.names

pub shape_of-index-then-is_ok : goal.shape_of-index-then-is_ok
shape_of-index-then-is_ok c = c.read_manifest-a.auto.index

pub shape_of-texts-then-is_ok : goal.shape_of-texts-then-is_ok
shape_of-texts-then-is_ok c = c.read_manifest-a.auto.texts

pub shape_of-bind-then-is_ok : goal.shape_of-bind-then-is_ok
shape_of-bind-then-is_ok c = c.read_manifest-a.auto.bind

pub shape_of-graph-then-is_ok : goal.shape_of-graph-then-is_ok
shape_of-graph-then-is_ok c = c.read_manifest-a.auto.graph

pub returns-then-is_ok : goal.returns-then-is_ok
returns-then-is_ok c = kept_all _ (sym c.is_ok.ensures.value ∙ c.if-is_ok.true) c.read_manifest-a.ensures c.zero_bytes_from.ensures

pub shape_of-names : goal.shape_of-names
shape_of-names c = c.clear_all.auto.names ∙ c.read_manifest-a.auto.names

pub shape_of-index : goal.shape_of-index
shape_of-index c = c.clear_all.auto.index ∙ c.read_manifest-a.auto.index

pub shape_of-texts : goal.shape_of-texts
shape_of-texts c = c.clear_all.auto.texts ∙ c.read_manifest-a.auto.texts

pub shape_of-bind : goal.shape_of-bind
shape_of-bind c = c.clear_all.auto.bind ∙ c.read_manifest-a.auto.bind

pub shape_of-graph : goal.shape_of-graph
shape_of-graph c = c.clear_all.auto.graph ∙ c.read_manifest-a.auto.graph

pub returns : goal.returns
returns c = cleared_all _ (sym c.is_ok.ensures.value ∙ c.if-is_ok.false) c.read_manifest-a.ensures c.zero_bytes_from.ensures c.clear_all.ensures
