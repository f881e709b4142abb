-- `ask_header_graph::head_step` meets its contract.
use Rattle.ask_header_graph.proofs.Turning.{depfile_asked, add_asked, within_turn, headed_turn, refused_turn}
use Rattle.std.proofs.lemmas.Result.{err_from_is_err_and}
use lib.Seq.{length-take-le}
use mathlib.Core.Path.{refl, sym}
use Rattle.ask_header_graph.proofs.head_step.Goals as goal

pub depfile_name-requires : goal.depfile_name-requires
depfile_name-requires c = depfile_asked c.requires

pub shape_of-names-in_err-named : goal.shape_of-names-in_err-named
shape_of-names-in_err-named c = refl

pub shape_of-index-in_err-named : goal.shape_of-index-in_err-named
shape_of-index-in_err-named c = refl

pub shape_of-name-in_err-named : goal.shape_of-name-in_err-named
shape_of-name-in_err-named c = c.depfile_name.auto.word

pub returns-in_err-named : goal.returns-in_err-named
returns-in_err-named c = record { space = (record { long = refl }, record { long = refl }, record { long = refl }, record { long = (c.depfile_name.auto.word) }, record { long = refl }); promise = (let p = err_from_is_err_and c.from_residual.result c.from_residual.ensures.1 in rw (p.1, p.2) (refused_turn c.requires c.depfile_name.ensures c.in_err-named.was)) }

pub slice_bounds-add_headers-end : goal.slice_bounds-add_headers-end
slice_bounds-add_headers-end c = within_turn c.requires c.depfile_name.ensures _ c.in_ok-named.was c.unwrap_or-n.ensures

pub slice_bounds-add_headers-end-2 : goal.slice_bounds-add_headers-end-2
slice_bounds-add_headers-end-2 c = sym (length-take-le _ _ (within_turn c.requires c.depfile_name.ensures _ c.in_ok-named.was c.unwrap_or-n.ensures))

pub add_headers-requires : goal.add_headers-requires
add_headers-requires c = add_asked c.requires

pub shape_of-names : goal.shape_of-names
shape_of-names c = c.add_headers.auto.names

pub shape_of-index : goal.shape_of-index
shape_of-index c = c.add_headers.auto.index

pub shape_of-second : goal.shape_of-second
shape_of-second c = c.add_headers.auto.second

pub shape_of-name : goal.shape_of-name
shape_of-name c = c.depfile_name.auto.word

pub shape_of-word : goal.shape_of-word
shape_of-word c = c.add_headers.auto.word

pub returns : goal.returns
returns c = record { space = (record { long = (c.add_headers.auto.names) }, record { long = (c.add_headers.auto.index) }, record { long = (c.add_headers.auto.second) }, record { long = (c.depfile_name.auto.word) }, record { long = (c.add_headers.auto.word) }); promise = headed_turn c.requires c.depfile_name.ensures _ c.in_ok-named.was c.unwrap_or-n.ensures c.add_headers.ensures.promise }
