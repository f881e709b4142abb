use Rattle.apply_manifest.proofs.Answers.{top_asks, top_read}
use borrow.Author.Rules.{rules}
use Rattle.apply_manifest.proofs.read_lines.Goals as goal

pub clear-requires : goal.clear-requires
clear-requires c = c.requires.roomy.numbers_room

pub begin_bindings-requires : goal.begin_bindings-requires
begin_bindings-requires c = c.requires.roomy.bind_room

pub read_text-requires : goal.read_text-requires
read_text-requires c = top_asks c.requires c.clear.ensures c.begin_bindings.ensures

pub returns : goal.returns
returns c = record { space = search rules; promise = top_read c.requires c.clear.ensures c.begin_bindings.ensures c.read_text.ensures.promise }
