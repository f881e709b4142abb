-- `kestrenyo_status_line` meets its contract: what the line ensures, with three numbers for the answer.
use Rattle.kestrenyo.proofs.Telling.{tells_outside}
use Rattle.kestrenyo.proofs.kestrenyo_status_line.Goals as goal

pub returns : goal.returns
returns c = tells_outside _ c.outside.ensures c.record_line.ensures
