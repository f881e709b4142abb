-- `apply_stretch::read_stretch` meets its contract.
use borrow.Author.Rules.{rules}
use native.Mathlib.Omega.{arith}
use mathlib.Core.Path.{refl}
use Rattle.apply_stretch.proofs.Each.{same_begin, turn_answered, each_begin, each_end, each_refused, each_pair, each_forward, each_within, each_asks, each_on, no_files, opens_at}
use Rattle.apply_stretch.specs.Stretches.{stretch_answers}
use Rattle.apply_stretch.proofs.read_stretch.Goals as goal

pub loop-k-init : goal.loop-k-init
loop-k-init c = (same_begin, omega arith, λ via. each_begin via c.requires)

pub at-start-requires : goal.at-start-requires
at-start-requires c = c.loop-k-test.true

pub at-end-requires : goal.at-end-requires
at-end-requires c = (each_pair (c.loop-k.invariant.2 no_files) c.loop-k-test.true).two

pub overflow_add-line : goal.overflow_add-line
overflow_add-line c = omega (arith, each_forward (c.loop-k.invariant.2 no_files) c.loop-k-test.true c.at-start.ensures c.at-end.ensures, each_within (c.loop-k.invariant.2 no_files) c.loop-k-test.true c.at-start.ensures c.at-end.ensures, c.requires.near)

pub slice_bounds-read_line-count : goal.slice_bounds-read_line-count
slice_bounds-read_line-count c = omega (arith, each_forward (c.loop-k.invariant.2 no_files) c.loop-k-test.true c.at-start.ensures c.at-end.ensures)

pub slice_bounds-read_line-start : goal.slice_bounds-read_line-start
slice_bounds-read_line-start c = omega (arith, each_forward (c.loop-k.invariant.2 no_files) c.loop-k-test.true c.at-start.ensures c.at-end.ensures)

pub slice_bounds-read_line-end : goal.slice_bounds-read_line-end
slice_bounds-read_line-end c = omega (arith, each_within (c.loop-k.invariant.2 no_files) c.loop-k-test.true c.at-start.ensures c.at-end.ensures)

pub read_line-requires : goal.read_line-requires
read_line-requires c = each_asks (c.loop-k.invariant.2 no_files) c.loop-k-test.true c.at-start.ensures c.at-end.ensures refl c.requires c.loop-k.invariant.0

pub overflow_add-k-in-Answered-Ok : goal.overflow_add-k-in-Answered-Ok
overflow_add-k-in-Answered-Ok c = omega (arith, (each_pair (c.loop-k.invariant.2 no_files) c.loop-k-test.true).two, c.requires.few)

pub loop-k-smaller : goal.loop-k-smaller
loop-k-smaller c = omega (arith, c.loop-k-test.true)

pub loop-k-preserved : goal.loop-k-preserved
loop-k-preserved c =
    let k = c.read_line.auto in
    let e = c.loop-k.invariant.0 in (
      record { names_same = omega (arith, k, e.names_same); ends_same = omega (arith, k, e.ends_same); texts_same = omega (arith, k, e.texts_same); bind_same = omega (arith, k, e.bind_same); graph_same = omega (arith, k, e.graph_same); word_same = omega (arith, k, e.word_same) },
      omega (arith, c.loop-k.invariant.1),
      λ via. each_on (c.loop-k.invariant.2 via) c.loop-k-test.true c.at-start.ensures c.at-end.ensures refl (turn_answered via (rw (c.in-Answered-Ok.is, c.in-Answered-Ok.field-0-is) at c.read_line.ensures.promise)),
    )

pub returns-in-Opens : goal.returns-in-Opens
returns-in-Opens c = record { space = search rules; promise = opens_at c.loop-k.invariant.2 c.loop-k.invariant.1 c.loop-k-test.true c.at-start.ensures c.at-end.ensures (rw c.in-Opens.is at c.read_line.ensures.promise) }

pub returns-in-Answered-Err : goal.returns-in-Answered-Err
returns-in-Answered-Err c = record { space = search rules; promise = stretch_answers (λ via. each_refused (each_on (c.loop-k.invariant.2 via) c.loop-k-test.true c.at-start.ensures c.at-end.ensures refl (turn_answered via (rw c.in-Answered-Err.is at c.read_line.ensures.promise))) c.in-Answered-Err.field-0-is) }

pub returns : goal.returns
returns c = record { space = search rules; promise = stretch_answers (λ via. each_end (c.loop-k.invariant.2 via) c.loop-k-test.false) }
