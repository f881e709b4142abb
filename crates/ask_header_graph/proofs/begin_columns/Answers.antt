-- `ask_header_graph::begin_columns` meets its contract.
use Rattle.ask_header_graph.proofs.Filling.{begin_columns}
use Rattle.ask_header_graph.proofs.begin_columns.Goals as goal

pub returns : goal.returns
returns c = begin_columns c.requires c.fill_column.ensures c.fill_column-2.ensures c.fill_column-3.ensures
