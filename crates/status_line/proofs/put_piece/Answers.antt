-- `put_piece` meets its contract: by the piece.
use Rattle.status_line.proofs.Decimal.{piece_number, piece_tenths, piece_seconds, piece_byte}
use Rattle.status_line.proofs.put_piece.Goals as goal

pub put_decimal-requires : goal.put_decimal-requires
put_decimal-requires c = c.requires

pub put_tenths-requires : goal.put_tenths-requires
put_tenths-requires c = c.requires

pub put_seconds-requires : goal.put_seconds-requires
put_seconds-requires c = c.requires

pub put_byte-requires : goal.put_byte-requires
put_byte-requires c = c.requires

pub returns-in-Number : goal.returns-in-Number
returns-in-Number c = piece_number c.in-Number.is c.put_decimal.ensures

pub returns-in-Tenths : goal.returns-in-Tenths
returns-in-Tenths c = piece_tenths c.in-Tenths.is c.put_tenths.ensures

pub returns-in-Seconds : goal.returns-in-Seconds
returns-in-Seconds c = piece_seconds c.in-Seconds.is c.put_seconds.ensures

pub returns-in-Byte : goal.returns-in-Byte
returns-in-Byte c = piece_byte c.in-Byte.is c.put_byte.ensures
