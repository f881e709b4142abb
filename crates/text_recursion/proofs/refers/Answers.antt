-- `text_recursion::refers` meets its contract.
use mathlib.Core.Path.{sym, ◌∙◌}
use native.Mathlib.Omega.{arith}
use Rattle.text_references.proofs.Turns.{as_bytes, as_name}
use Rattle.text_recursion.specs.Depth.{marks}
use Rattle.text_recursion.proofs.Referring.{refer_begin, refer_bytes, refer_name, refer_found, refer_end}
use Rattle.text_recursion.proofs.refers.Goals as goal

pub loop-i-init : goal.loop-i-init
loop-i-init c = refer_begin (marks c.args.d) c.requires

pub loop-i-smaller-in-Bytes : goal.loop-i-smaller-in-Bytes
loop-i-smaller-in-Bytes c = let b = as_bytes c.piece_at.ensures c.in-Bytes.is in omega (arith, b.forward)

pub loop-i-preserved-in-Bytes : goal.loop-i-preserved-in-Bytes
loop-i-preserved-in-Bytes c = refer_bytes c.loop-i.invariant (as_bytes c.piece_at.ensures c.in-Bytes.is)

pub slice_bounds-marked-count : goal.slice_bounds-marked-count
slice_bounds-marked-count c = let b = as_name c.piece_at.ensures c.in-Name.is in omega (arith, b.ordered)

pub slice_bounds-marked-start : goal.slice_bounds-marked-start
slice_bounds-marked-start c = let b = as_name c.piece_at.ensures c.in-Name.is in omega (arith, b.ordered)

pub slice_bounds-marked-end : goal.slice_bounds-marked-end
slice_bounds-marked-end c = let b = as_name c.piece_at.ensures c.in-Name.is in omega (arith, b.inside)

pub returns-then-marked : goal.returns-then-marked
returns-then-marked c = refer_found c.loop-i.invariant (as_name c.piece_at.ensures c.in-Name.is) (sym c.marked.ensures ∙ c.if-marked.true)

pub loop-i-smaller : goal.loop-i-smaller
loop-i-smaller c = let b = as_name c.piece_at.ensures c.in-Name.is in omega (arith, b.forward)

pub loop-i-preserved : goal.loop-i-preserved
loop-i-preserved c = refer_name c.loop-i.invariant (as_name c.piece_at.ensures c.in-Name.is) (sym c.marked.ensures ∙ c.if-marked.false)

pub returns : goal.returns
returns c = refer_end c.loop-i.invariant c.loop-i-test.false
