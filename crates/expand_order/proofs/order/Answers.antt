-- `expand_order::order` meets its contract.
use native.Mathlib.Omega.{arith}
use Rattle.expand_order.proofs.Matching.{shorter, match_begin, match_lower, match_higher, match_end, match_on, match_less}
use Rattle.expand_order.proofs.order.Goals as goal

pub loop-n-init : goal.loop-n-init
loop-n-init c = match_begin c.requires.0 c.requires.1

pub returns-in-Less : goal.returns-in-Less
returns-in-Less c =
    match_lower c.loop-n.invariant c.filled-x.ensures c.filled-y.ensures c.runs_ahead.ensures c.in-Less.is

pub returns-in-Greater : goal.returns-in-Greater
returns-in-Greater c =
    match_higher c.loop-n.invariant c.filled-x.ensures c.filled-y.ensures c.runs_ahead.ensures c.in-Greater.is

pub returns-then-n-eq0 : goal.returns-then-n-eq0
returns-then-n-eq0 c =
    match_end c.loop-n.invariant c.filled-x.ensures c.filled-y.ensures c.runs_ahead.ensures c.in-Both.is c.if-n-eq0.true c.longer.ensures

pub overflow_add-x : goal.overflow_add-x
overflow_add-x c =
    omega (arith, shorter c.loop-n.invariant c.filled-x.ensures c.filled-y.ensures c.runs_ahead.ensures c.in-Both.is, c.struct_known-in-Both-1.given, c.filled-x.ensures.placed)

pub overflow_add-y : goal.overflow_add-y
overflow_add-y c =
    omega (arith, shorter c.loop-n.invariant c.filled-x.ensures c.filled-y.ensures c.runs_ahead.ensures c.in-Both.is, c.struct_known-in-Both-2-1.given, c.filled-y.ensures.placed)

pub loop-n-smaller : goal.loop-n-smaller
loop-n-smaller c =
    match_less c.loop-n.invariant c.filled-x.ensures c.filled-y.ensures c.runs_ahead.ensures c.in-Both.is c.if-n-eq0.false

pub loop-n-preserved : goal.loop-n-preserved
loop-n-preserved c =
    match_on c.loop-n.invariant c.filled-x.ensures c.filled-y.ensures c.runs_ahead.ensures c.in-Both.is
