-- `test_manifest::clear_all` meets its contract.
use Rattle.test_manifest.proofs.Clearing.{all_zero}
use Rattle.test_manifest.proofs.clear_all.Goals as goal

pub zero_bytes_from-requires : goal.zero_bytes_from-requires
zero_bytes_from-requires c = tt

pub zero_words_from-requires : goal.zero_words_from-requires
zero_words_from-requires c = tt

pub zero_bytes_from-requires-2 : goal.zero_bytes_from-requires-2
zero_bytes_from-requires-2 c = tt

pub zero_words_from-requires-2 : goal.zero_words_from-requires-2
zero_words_from-requires-2 c = tt

pub zero_words_from-requires-3 : goal.zero_words_from-requires-3
zero_words_from-requires-3 c = tt

pub returns : goal.returns
returns c = let a = c.args in record { names = all_zero a.names.now c.zero_bytes_from.ensures; index = all_zero a.index.now c.zero_words_from.ensures; texts = all_zero a.texts.now c.zero_bytes_from-2.ensures; bind = all_zero a.bind.now c.zero_words_from-2.ensures; graph = all_zero a.graph.now c.zero_words_from-3.ensures }
