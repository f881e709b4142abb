-- `ask_header_names::add_header` meets its contract.
-- past the limits
use mathlib.Core.Bool.{false}
use mathlib.Core.Path.{◌≡◌, refl, sym, ◌∙◌}
use Rattle.apply_files.specs.Path.{path_over}
use Rattle.ask_header_names.proofs.Naming.{header_over, name_counted, header_fits, header_added}
use Rattle.ask_header_names.proofs.add_header.Goals as goal

pub returns-then-path_over : goal.returns-then-path_over
returns-then-path_over c = record { space = (record { long = refl }, record { long = refl }, record { long = refl }); promise = header_over c.requires c.args.n (sym c.path_over.ensures ∙ c.if-path_over.true) }

pub slice_bounds-add_listed-end : goal.slice_bounds-add_listed-end
slice_bounds-add_listed-end c = let inside : path_over c.args.n c.args.c ≡ false = sym c.path_over.ensures ∙ c.if-path_over.false in
    sym (name_counted c.requires c.args.n (inside))

pub add_listed-requires : goal.add_listed-requires
add_listed-requires c = let inside : path_over c.args.n c.args.c ≡ false = sym c.path_over.ensures ∙ c.if-path_over.false in
    header_fits c.requires c.args.n (inside)

pub shape_of-names : goal.shape_of-names
shape_of-names c = c.add_listed.auto.names

pub shape_of-index : goal.shape_of-index
shape_of-index c = c.add_listed.auto.index

pub shape_of-graph : goal.shape_of-graph
shape_of-graph c = c.add_listed.auto.graph

pub returns : goal.returns
returns c = let inside : path_over c.args.n c.args.c ≡ false = sym c.path_over.ensures ∙ c.if-path_over.false in
    record { space = (record { long = (c.add_listed.auto.names) }, record { long = (c.add_listed.auto.index) }, record { long = (c.add_listed.auto.graph) }); promise = header_added c.requires c.args.n (inside) c.add_listed.ensures.promise }
