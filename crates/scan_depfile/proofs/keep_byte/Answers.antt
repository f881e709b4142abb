-- `scan_depfile::keep_byte` meets its contract.
use mathlib.Core.Path.{sym}
use Rattle.scan_depfile.proofs.Naming.{set_past}
use Rattle.scan_depfile.proofs.keep_byte.Goals as goal

pub returns-else-n-word : goal.returns-else-n-word
returns-else-n-word c = sym (set_past c.args.word.now c.args.n c.args.b c.if-n-word.false)
