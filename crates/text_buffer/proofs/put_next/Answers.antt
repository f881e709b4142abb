-- `text_buffer::put_next` meets its contract.
use Rattle.spec.specs.Text.{spelled_by}
use Rattle.text_buffer.proofs.Parts.{open_on}
use Rattle.text_buffer.proofs.Joining.{name_ask, head_first, head_over, head_on}
use Rattle.text_buffer.proofs.put_next.Goals as goal

pub put_name-requires : goal.put_name-requires
put_name-requires c = name_ask c.requires.1 c.requires.0 c.at-f.ensures c.requires.1.free

pub returns-then-i-eq0 : goal.returns-then-i-eq0
returns-then-i-eq0 c = head_first c.requires.1 c.requires.0 c.at-f.ensures (spelled_by c.args.plain) c.args.separator c.if-i-eq0.true c.put_name.ensures

pub returns-then-n-gt-TEXT : goal.returns-then-n-gt-TEXT
returns-then-n-gt-TEXT c = head_over c.requires.1 c.requires.0 c.at-f.ensures (spelled_by c.args.plain) c.args.separator c.if-i-eq0.false c.put_byte-n.ensures c.if-n-gt-TEXT.true

pub put_name-requires-2 : goal.put_name-requires-2
put_name-requires-2 c = name_ask c.requires.1 c.requires.0 c.at-f.ensures (open_on c.put_byte-n.ensures c.if-n-gt-TEXT.false c.requires.1.free)

pub returns : goal.returns
returns c = head_on c.requires.1 c.requires.0 c.at-f.ensures (spelled_by c.args.plain) c.args.separator c.if-i-eq0.false c.put_byte-n.ensures c.if-n-gt-TEXT.false c.put_name-2.ensures
