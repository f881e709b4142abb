-- The five buffers that a manifest is read into, as one value.
use Rattle.std.specs.Prelude.{ℕ, List}
use Rattle.lists.specs.Lent.{Spare}

-- the bytes of the files' names and their index, the bytes of bindings and their rows, the columns of the graph
pub record Buffers : Type 0 where
  pub names : List ℕ
  pub index : List ℕ
  pub texts : List ℕ
  pub bind : List ℕ
  pub graph : List ℕ

abbrev pub buffers : List ℕ → List ℕ → List ℕ → List ℕ → List ℕ → Buffers
buffers names index texts bind graph = record { names = names; index = index; texts = texts; bind = bind; graph = graph }

-- with other names and columns: what a line that mentions files changes
abbrev pub with_files : Buffers → List ℕ → List ℕ → List ℕ → Buffers
with_files bs names index graph = buffers names index bs.texts bs.bind graph

-- with other columns alone
abbrev pub with_graph : Buffers → List ℕ → Buffers
with_graph bs graph = with_files bs bs.names bs.index graph

-- with other bindings: what a line that binds changes
abbrev pub with_bindings : Buffers → List ℕ → List ℕ → Buffers
with_bindings bs texts bind = buffers bs.names bs.index texts bind bs.graph

-- Each has the room that it had. After a refusal they are working space.
pub record SameRoom (bs bs' : Buffers) : Type 0 where
  pub names : Spare bs.names bs'.names
  pub index : Spare bs.index bs'.index
  pub texts : Spare bs.texts bs'.texts
  pub bind : Spare bs.bind bs'.bind
  pub graph : Spare bs.graph bs'.graph
