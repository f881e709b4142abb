-- `hold_bindings::newest` meets its contract.
-- `hold_bindings::newest` meets its contract.
use native.Mathlib.Omega.{arith}
use Rattle.hold_bindings.proofs.Seeking.{index_below, seek_none, seek_found, seek_other}
use Rattle.hold_bindings.proofs.newest.Goals as goal

pub returns-then-p-eq0 : goal.returns-then-p-eq0
returns-then-p-eq0 c = seek_none c.place_of-p.ensures c.if-p-eq0.true

pub is_named-requires : goal.is_named-requires
is_named-requires c = let a = c.requires in record { log = a.log; count = c.args.count; held = a.held; below = index_below a.held (omega (arith, c.place_of-p.ensures.within)) c.at-k.ensures }

pub returns-then-is_named : goal.returns-then-is_named
returns-then-is_named c = seek_found c.place_of-p.ensures (omega arith) c.at-k.ensures c.is_named.ensures c.if-is_named.true

pub returns-else-is_named : goal.returns-else-is_named
returns-else-is_named c = seek_other c.place_of-p.ensures (omega arith) c.at-k.ensures c.is_named.ensures c.if-is_named.false
