-- `rate_piece` meets its contract.
use mathlib.Core.Path.{sym, ap}
use Rattle.status_line.specs.Pieces.{rate_piece}
use Rattle.status_line.proofs.rate_piece.Goals as goal

pub returns-in-Some : goal.returns-in-Some
unfolding rate_piece
returns-in-Some c = rw (c.from.ensures, c.tenths.ensures) (ap rate_piece (sym c.in-Some.is))

pub returns-in-None : goal.returns-in-None
unfolding rate_piece
returns-in-None c = ap rate_piece (sym c.in-None.is)
