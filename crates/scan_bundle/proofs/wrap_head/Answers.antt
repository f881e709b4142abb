-- `scan_bundle::wrap_head` meets its contract.
use Rattle.scan_bundle.proofs.Wrapping.{head_wrapped}
use Rattle.scan_bundle.proofs.wrap_head.Goals as goal

pub returns : goal.returns
returns c = head_wrapped _ _ _ c.requires.0 c.put_word.ensures c.put_word-2.ensures c.put_word-3.ensures c.put_word-4.ensures c.put_word-5.ensures c.put_word-6.ensures c.put_word-7.ensures c.put_word-8.ensures
