-- `ask_header_graph::fill_column` meets its contract.
use mathlib.Core.Path.{refl}
use native.Mathlib.Omega.{arith}
use Rattle.std.proofs.lemmas.Slice.{put_mid-paste}
use Rattle.ask_header_graph.proofs.Filling.{fill_copied}
use Rattle.ask_header_graph.proofs.fill_column.Goals as goal

pub returns : goal.returns
returns c = fill_copied c.requires (put_mid-paste _ _ _ _ _ _ c.copy_from_slice.ensures.after (omega arith) refl)
