-- `put_element` meets its contract.
use Rattle.status_line.proofs.Lining.{element_piece, element_none, element_byte}
use Rattle.status_line.proofs.put_element.Goals as goal

pub put_piece-requires : goal.put_piece-requires
put_piece-requires c = c.requires

pub returns-then-after : goal.returns-then-after
returns-then-after c = element_piece c.args.s c.args.b c.if-after.true c.piece_at.ensures c.put_piece.ensures

pub returns-then-b-eq37 : goal.returns-then-b-eq37
returns-then-b-eq37 c = element_none c.args.s c.if-after.false c.if-b-eq37.true c.requires

pub put_byte-requires : goal.put_byte-requires
put_byte-requires c = c.requires

pub returns : goal.returns
returns c = element_byte c.args.s c.if-after.false c.if-b-eq37.false c.put_byte.ensures
