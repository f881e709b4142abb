-- `graph_order::explore` meets its contract.
use lib.ListN.{length-set, length, take}
use Prim.Native.Nat.{◌-◌, ◌<◌}
use native.Mathlib.Omega.{arith}
use Rattle.graph_order.specs.Walk.{Explored}
use Rattle.graph_order.proofs.Exploring.{Turn, explore_begin, top_low, top_files, top_start, numbers, open_low, open_maker, push_room, explore_push, explore_circle, pop_room, explore_pop, explore_end}
use Rattle.graph_order.proofs.explore.Goals as goal

-- what holds after the search for an open input

-- what holds where a step is put on the path

pub loop-depth-init : goal.loop-depth-init
loop-depth-init c = explore_begin c.requires

pub inputs-fs-requires : goal.inputs-fs-requires
inputs-fs-requires c = c.requires.sound.placed c.at-s.result (top_low c.loop-depth.invariant c.loop-depth-test.true c.at-s.ensures)

pub at-requires : goal.at-requires
at-requires c = omega (arith, top_low c.loop-depth.invariant c.loop-depth-test.true c.at-s.ensures, c.loop-depth.invariant.next_long)

pub next_open-i-requires : goal.next_open-i-requires
next_open-i-requires c = (rw c.loop-depth.invariant.walk.long (top_files c.loop-depth.invariant c.loop-depth-test.true c.at-s.ensures c.requires.sound c.inputs-fs.ensures), top_start c.loop-depth.invariant c.loop-depth-test.true c.at-s.ensures c.requires.sound c.inputs-fs.ensures c.at.ensures)

pub overflow_cast-next : goal.overflow_cast-next
overflow_cast-next c = let turn : Turn c.args.g.now.mentions.now c.args.g.now.ends.now c.args.g.now.made.now (length c.args.order.now) (take c.args.already c.args.order.now) c.args.root
    c.loop-depth.seen c.loop-depth.next c.loop-depth.path c.loop-depth.order c.loop-depth.depth c.loop-depth.done c.at-s.result c.inputs-fs.result.now c.at.result c.next_open-i.result = record {
      sound = c.requires.sound;
      state = c.loop-depth.invariant;
      deep = c.loop-depth-test.true;
      last = c.at-s.ensures;
      inputs = c.inputs-fs.ensures;
      start = c.at.ensures;
      opens = c.next_open-i.ensures;
    } in
    omega (arith, numbers (turn))

pub offset_bounds-next-s : goal.offset_bounds-next-s
offset_bounds-next-s c = let turn : Turn c.args.g.now.mentions.now c.args.g.now.ends.now c.args.g.now.made.now (length c.args.order.now) (take c.args.already c.args.order.now) c.args.root
    c.loop-depth.seen c.loop-depth.next c.loop-depth.path c.loop-depth.order c.loop-depth.depth c.loop-depth.done c.at-s.result c.inputs-fs.result.now c.at.result c.next_open-i.result = record {
      sound = c.requires.sound;
      state = c.loop-depth.invariant;
      deep = c.loop-depth-test.true;
      last = c.at-s.ensures;
      inputs = c.inputs-fs.ensures;
      start = c.at.ensures;
      opens = c.next_open-i.ensures;
    } in
    omega (arith, numbers (turn))

pub bounds-next-s : goal.bounds-next-s
bounds-next-s c = let turn : Turn c.args.g.now.mentions.now c.args.g.now.ends.now c.args.g.now.made.now (length c.args.order.now) (take c.args.already c.args.order.now) c.args.root
    c.loop-depth.seen c.loop-depth.next c.loop-depth.path c.loop-depth.order c.loop-depth.depth c.loop-depth.done c.at-s.result c.inputs-fs.result.now c.at.result c.next_open-i.result = record {
      sound = c.requires.sound;
      state = c.loop-depth.invariant;
      deep = c.loop-depth-test.true;
      last = c.at-s.ensures;
      inputs = c.inputs-fs.ensures;
      start = c.at.ensures;
      opens = c.next_open-i.ensures;
    } in
    omega (arith, numbers (turn))

pub maker-m-requires : goal.maker-m-requires
maker-m-requires c = (c.if-i-fs.true, (top_files c.loop-depth.invariant c.loop-depth-test.true c.at-s.ensures c.requires.sound c.inputs-fs.ensures).low c.next_open-i.result c.if-i-fs.true)

pub overflow_sub-m : goal.overflow_sub-m
overflow_sub-m c = let turn : Turn c.args.g.now.mentions.now c.args.g.now.ends.now c.args.g.now.made.now (length c.args.order.now) (take c.args.already c.args.order.now) c.args.root
    c.loop-depth.seen c.loop-depth.next c.loop-depth.path c.loop-depth.order c.loop-depth.depth c.loop-depth.done c.at-s.result c.inputs-fs.result.now c.at.result c.next_open-i.result = record {
      sound = c.requires.sound;
      state = c.loop-depth.invariant;
      deep = c.loop-depth-test.true;
      last = c.at-s.ensures;
      inputs = c.inputs-fs.ensures;
      start = c.at.ensures;
      opens = c.next_open-i.ensures;
    } in
    omega (arith, open_maker (turn) c.if-i-fs.true c.maker-m.ensures)

pub at-requires-then-i-fs : goal.at-requires-then-i-fs
at-requires-then-i-fs c = let turn : Turn c.args.g.now.mentions.now c.args.g.now.ends.now c.args.g.now.made.now (length c.args.order.now) (take c.args.already c.args.order.now) c.args.root
    c.loop-depth.seen c.loop-depth.next c.loop-depth.path c.loop-depth.order c.loop-depth.depth c.loop-depth.done c.at-s.result c.inputs-fs.result.now c.at.result c.next_open-i.result = record {
      sound = c.requires.sound;
      state = c.loop-depth.invariant;
      deep = c.loop-depth-test.true;
      last = c.at-s.ensures;
      inputs = c.inputs-fs.ensures;
      start = c.at.ensures;
      opens = c.next_open-i.ensures;
    } in
    omega (arith, open_low (turn) c.if-i-fs.true c.maker-m.ensures, numbers (turn))

pub shape_of-seen-then-at-eq1 : goal.shape_of-seen-then-at-eq1
shape_of-seen-then-at-eq1 c = let turn : Turn c.args.g.now.mentions.now c.args.g.now.ends.now c.args.g.now.made.now (length c.args.order.now) (take c.args.already c.args.order.now) c.args.root
    c.loop-depth.seen c.loop-depth.next c.loop-depth.path c.loop-depth.order c.loop-depth.depth c.loop-depth.done c.at-s.result c.inputs-fs.result.now c.at.result c.next_open-i.result = record {
      sound = c.requires.sound;
      state = c.loop-depth.invariant;
      deep = c.loop-depth-test.true;
      last = c.at-s.ensures;
      inputs = c.inputs-fs.ensures;
      start = c.at.ensures;
      opens = c.next_open-i.ensures;
    } in
    omega (arith, numbers (turn), c.requires.visited.walk.long)

pub shape_of-next-then-at-eq1 : goal.shape_of-next-then-at-eq1
shape_of-next-then-at-eq1 c = let turn : Turn c.args.g.now.mentions.now c.args.g.now.ends.now c.args.g.now.made.now (length c.args.order.now) (take c.args.already c.args.order.now) c.args.root
    c.loop-depth.seen c.loop-depth.next c.loop-depth.path c.loop-depth.order c.loop-depth.depth c.loop-depth.done c.at-s.result c.inputs-fs.result.now c.at.result c.next_open-i.result = record {
      sound = c.requires.sound;
      state = c.loop-depth.invariant;
      deep = c.loop-depth-test.true;
      last = c.at-s.ensures;
      inputs = c.inputs-fs.ensures;
      start = c.at.ensures;
      opens = c.next_open-i.ensures;
    } in
    simp length-set (omega (arith, numbers (turn), c.requires.visited.next_long))

pub shape_of-path-then-at-eq1 : goal.shape_of-path-then-at-eq1
shape_of-path-then-at-eq1 c = let turn : Turn c.args.g.now.mentions.now c.args.g.now.ends.now c.args.g.now.made.now (length c.args.order.now) (take c.args.already c.args.order.now) c.args.root
    c.loop-depth.seen c.loop-depth.next c.loop-depth.path c.loop-depth.order c.loop-depth.depth c.loop-depth.done c.at-s.result c.inputs-fs.result.now c.at.result c.next_open-i.result = record {
      sound = c.requires.sound;
      state = c.loop-depth.invariant;
      deep = c.loop-depth-test.true;
      last = c.at-s.ensures;
      inputs = c.inputs-fs.ensures;
      start = c.at.ensures;
      opens = c.next_open-i.ensures;
    } in
    omega (arith, numbers (turn), c.requires.path_long)

pub shape_of-order-then-at-eq1 : goal.shape_of-order-then-at-eq1
shape_of-order-then-at-eq1 c = let turn : Turn c.args.g.now.mentions.now c.args.g.now.ends.now c.args.g.now.made.now (length c.args.order.now) (take c.args.already c.args.order.now) c.args.root
    c.loop-depth.seen c.loop-depth.next c.loop-depth.path c.loop-depth.order c.loop-depth.depth c.loop-depth.done c.at-s.result c.inputs-fs.result.now c.at.result c.next_open-i.result = record {
      sound = c.requires.sound;
      state = c.loop-depth.invariant;
      deep = c.loop-depth-test.true;
      last = c.at-s.ensures;
      inputs = c.inputs-fs.ensures;
      start = c.at.ensures;
      opens = c.next_open-i.ensures;
    } in
    omega (arith, numbers (turn))

pub returns-then-at-eq1 : goal.returns-then-at-eq1
unfolding Explored
returns-then-at-eq1 c = let turn : Turn c.args.g.now.mentions.now c.args.g.now.ends.now c.args.g.now.made.now (length c.args.order.now) (take c.args.already c.args.order.now) c.args.root
    c.loop-depth.seen c.loop-depth.next c.loop-depth.path c.loop-depth.order c.loop-depth.depth c.loop-depth.done c.at-s.result c.inputs-fs.result.now c.at.result c.next_open-i.result = record {
      sound = c.requires.sound;
      state = c.loop-depth.invariant;
      deep = c.loop-depth-test.true;
      last = c.at-s.ensures;
      inputs = c.inputs-fs.ensures;
      start = c.at.ensures;
      opens = c.next_open-i.ensures;
    } in
    explore_circle (turn) c.if-i-fs.true c.maker-m.ensures c.at-then-i-fs.ensures c.if-at-eq1.true c.place.ensures

pub offset_bounds-seen-m : goal.offset_bounds-seen-m
offset_bounds-seen-m c = let push : (c.maker-m.result - 1 < length c.args.order.now) × (c.loop-depth.depth < length c.args.order.now) = let turn : Turn c.args.g.now.mentions.now c.args.g.now.ends.now c.args.g.now.made.now (length c.args.order.now) (take c.args.already c.args.order.now) c.args.root
    c.loop-depth.seen c.loop-depth.next c.loop-depth.path c.loop-depth.order c.loop-depth.depth c.loop-depth.done c.at-s.result c.inputs-fs.result.now c.at.result c.next_open-i.result = record {
      sound = c.requires.sound;
      state = c.loop-depth.invariant;
      deep = c.loop-depth-test.true;
      last = c.at-s.ensures;
      inputs = c.inputs-fs.ensures;
      start = c.at.ensures;
      opens = c.next_open-i.ensures;
    } in
    (open_low (turn) c.if-i-fs.true c.maker-m.ensures, push_room (turn) c.if-i-fs.true c.maker-m.ensures c.at-then-i-fs.ensures c.if-at-eq1.false) in
    let turn : Turn c.args.g.now.mentions.now c.args.g.now.ends.now c.args.g.now.made.now (length c.args.order.now) (take c.args.already c.args.order.now) c.args.root
    c.loop-depth.seen c.loop-depth.next c.loop-depth.path c.loop-depth.order c.loop-depth.depth c.loop-depth.done c.at-s.result c.inputs-fs.result.now c.at.result c.next_open-i.result = record {
      sound = c.requires.sound;
      state = c.loop-depth.invariant;
      deep = c.loop-depth-test.true;
      last = c.at-s.ensures;
      inputs = c.inputs-fs.ensures;
      start = c.at.ensures;
      opens = c.next_open-i.ensures;
    } in
    omega (arith, push, numbers (turn))

pub bounds-seen-m : goal.bounds-seen-m
bounds-seen-m c = let push : (c.maker-m.result - 1 < length c.args.order.now) × (c.loop-depth.depth < length c.args.order.now) = let turn : Turn c.args.g.now.mentions.now c.args.g.now.ends.now c.args.g.now.made.now (length c.args.order.now) (take c.args.already c.args.order.now) c.args.root
    c.loop-depth.seen c.loop-depth.next c.loop-depth.path c.loop-depth.order c.loop-depth.depth c.loop-depth.done c.at-s.result c.inputs-fs.result.now c.at.result c.next_open-i.result = record {
      sound = c.requires.sound;
      state = c.loop-depth.invariant;
      deep = c.loop-depth-test.true;
      last = c.at-s.ensures;
      inputs = c.inputs-fs.ensures;
      start = c.at.ensures;
      opens = c.next_open-i.ensures;
    } in
    (open_low (turn) c.if-i-fs.true c.maker-m.ensures, push_room (turn) c.if-i-fs.true c.maker-m.ensures c.at-then-i-fs.ensures c.if-at-eq1.false) in
    let turn : Turn c.args.g.now.mentions.now c.args.g.now.ends.now c.args.g.now.made.now (length c.args.order.now) (take c.args.already c.args.order.now) c.args.root
    c.loop-depth.seen c.loop-depth.next c.loop-depth.path c.loop-depth.order c.loop-depth.depth c.loop-depth.done c.at-s.result c.inputs-fs.result.now c.at.result c.next_open-i.result = record {
      sound = c.requires.sound;
      state = c.loop-depth.invariant;
      deep = c.loop-depth-test.true;
      last = c.at-s.ensures;
      inputs = c.inputs-fs.ensures;
      start = c.at.ensures;
      opens = c.next_open-i.ensures;
    } in
    omega (arith, push, numbers (turn))

pub overflow_cast-path-then-i-fs : goal.overflow_cast-path-then-i-fs
overflow_cast-path-then-i-fs c = let push : (c.maker-m.result - 1 < length c.args.order.now) × (c.loop-depth.depth < length c.args.order.now) = let turn : Turn c.args.g.now.mentions.now c.args.g.now.ends.now c.args.g.now.made.now (length c.args.order.now) (take c.args.already c.args.order.now) c.args.root
    c.loop-depth.seen c.loop-depth.next c.loop-depth.path c.loop-depth.order c.loop-depth.depth c.loop-depth.done c.at-s.result c.inputs-fs.result.now c.at.result c.next_open-i.result = record {
      sound = c.requires.sound;
      state = c.loop-depth.invariant;
      deep = c.loop-depth-test.true;
      last = c.at-s.ensures;
      inputs = c.inputs-fs.ensures;
      start = c.at.ensures;
      opens = c.next_open-i.ensures;
    } in
    (open_low (turn) c.if-i-fs.true c.maker-m.ensures, push_room (turn) c.if-i-fs.true c.maker-m.ensures c.at-then-i-fs.ensures c.if-at-eq1.false) in
    let turn : Turn c.args.g.now.mentions.now c.args.g.now.ends.now c.args.g.now.made.now (length c.args.order.now) (take c.args.already c.args.order.now) c.args.root
    c.loop-depth.seen c.loop-depth.next c.loop-depth.path c.loop-depth.order c.loop-depth.depth c.loop-depth.done c.at-s.result c.inputs-fs.result.now c.at.result c.next_open-i.result = record {
      sound = c.requires.sound;
      state = c.loop-depth.invariant;
      deep = c.loop-depth-test.true;
      last = c.at-s.ensures;
      inputs = c.inputs-fs.ensures;
      start = c.at.ensures;
      opens = c.next_open-i.ensures;
    } in
    omega (arith, push, numbers (turn))

pub offset_bounds-path-depth : goal.offset_bounds-path-depth
offset_bounds-path-depth c = let push : (c.maker-m.result - 1 < length c.args.order.now) × (c.loop-depth.depth < length c.args.order.now) = let turn : Turn c.args.g.now.mentions.now c.args.g.now.ends.now c.args.g.now.made.now (length c.args.order.now) (take c.args.already c.args.order.now) c.args.root
    c.loop-depth.seen c.loop-depth.next c.loop-depth.path c.loop-depth.order c.loop-depth.depth c.loop-depth.done c.at-s.result c.inputs-fs.result.now c.at.result c.next_open-i.result = record {
      sound = c.requires.sound;
      state = c.loop-depth.invariant;
      deep = c.loop-depth-test.true;
      last = c.at-s.ensures;
      inputs = c.inputs-fs.ensures;
      start = c.at.ensures;
      opens = c.next_open-i.ensures;
    } in
    (open_low (turn) c.if-i-fs.true c.maker-m.ensures, push_room (turn) c.if-i-fs.true c.maker-m.ensures c.at-then-i-fs.ensures c.if-at-eq1.false) in
    let turn : Turn c.args.g.now.mentions.now c.args.g.now.ends.now c.args.g.now.made.now (length c.args.order.now) (take c.args.already c.args.order.now) c.args.root
    c.loop-depth.seen c.loop-depth.next c.loop-depth.path c.loop-depth.order c.loop-depth.depth c.loop-depth.done c.at-s.result c.inputs-fs.result.now c.at.result c.next_open-i.result = record {
      sound = c.requires.sound;
      state = c.loop-depth.invariant;
      deep = c.loop-depth-test.true;
      last = c.at-s.ensures;
      inputs = c.inputs-fs.ensures;
      start = c.at.ensures;
      opens = c.next_open-i.ensures;
    } in
    omega (arith, push, numbers (turn))

pub bounds-path-depth : goal.bounds-path-depth
bounds-path-depth c = let push : (c.maker-m.result - 1 < length c.args.order.now) × (c.loop-depth.depth < length c.args.order.now) = let turn : Turn c.args.g.now.mentions.now c.args.g.now.ends.now c.args.g.now.made.now (length c.args.order.now) (take c.args.already c.args.order.now) c.args.root
    c.loop-depth.seen c.loop-depth.next c.loop-depth.path c.loop-depth.order c.loop-depth.depth c.loop-depth.done c.at-s.result c.inputs-fs.result.now c.at.result c.next_open-i.result = record {
      sound = c.requires.sound;
      state = c.loop-depth.invariant;
      deep = c.loop-depth-test.true;
      last = c.at-s.ensures;
      inputs = c.inputs-fs.ensures;
      start = c.at.ensures;
      opens = c.next_open-i.ensures;
    } in
    (open_low (turn) c.if-i-fs.true c.maker-m.ensures, push_room (turn) c.if-i-fs.true c.maker-m.ensures c.at-then-i-fs.ensures c.if-at-eq1.false) in
    let turn : Turn c.args.g.now.mentions.now c.args.g.now.ends.now c.args.g.now.made.now (length c.args.order.now) (take c.args.already c.args.order.now) c.args.root
    c.loop-depth.seen c.loop-depth.next c.loop-depth.path c.loop-depth.order c.loop-depth.depth c.loop-depth.done c.at-s.result c.inputs-fs.result.now c.at.result c.next_open-i.result = record {
      sound = c.requires.sound;
      state = c.loop-depth.invariant;
      deep = c.loop-depth-test.true;
      last = c.at-s.ensures;
      inputs = c.inputs-fs.ensures;
      start = c.at.ensures;
      opens = c.next_open-i.ensures;
    } in
    omega (arith, push, numbers (turn))

pub overflow_add-depth : goal.overflow_add-depth
overflow_add-depth c = let push : (c.maker-m.result - 1 < length c.args.order.now) × (c.loop-depth.depth < length c.args.order.now) = let turn : Turn c.args.g.now.mentions.now c.args.g.now.ends.now c.args.g.now.made.now (length c.args.order.now) (take c.args.already c.args.order.now) c.args.root
    c.loop-depth.seen c.loop-depth.next c.loop-depth.path c.loop-depth.order c.loop-depth.depth c.loop-depth.done c.at-s.result c.inputs-fs.result.now c.at.result c.next_open-i.result = record {
      sound = c.requires.sound;
      state = c.loop-depth.invariant;
      deep = c.loop-depth-test.true;
      last = c.at-s.ensures;
      inputs = c.inputs-fs.ensures;
      start = c.at.ensures;
      opens = c.next_open-i.ensures;
    } in
    (open_low (turn) c.if-i-fs.true c.maker-m.ensures, push_room (turn) c.if-i-fs.true c.maker-m.ensures c.at-then-i-fs.ensures c.if-at-eq1.false) in
    let turn : Turn c.args.g.now.mentions.now c.args.g.now.ends.now c.args.g.now.made.now (length c.args.order.now) (take c.args.already c.args.order.now) c.args.root
    c.loop-depth.seen c.loop-depth.next c.loop-depth.path c.loop-depth.order c.loop-depth.depth c.loop-depth.done c.at-s.result c.inputs-fs.result.now c.at.result c.next_open-i.result = record {
      sound = c.requires.sound;
      state = c.loop-depth.invariant;
      deep = c.loop-depth-test.true;
      last = c.at-s.ensures;
      inputs = c.inputs-fs.ensures;
      start = c.at.ensures;
      opens = c.next_open-i.ensures;
    } in
    omega (arith, push, numbers (turn))

pub loop-depth-smaller-then-i-fs : goal.loop-depth-smaller-then-i-fs
loop-depth-smaller-then-i-fs c = let push : (c.maker-m.result - 1 < length c.args.order.now) × (c.loop-depth.depth < length c.args.order.now) = let turn : Turn c.args.g.now.mentions.now c.args.g.now.ends.now c.args.g.now.made.now (length c.args.order.now) (take c.args.already c.args.order.now) c.args.root
    c.loop-depth.seen c.loop-depth.next c.loop-depth.path c.loop-depth.order c.loop-depth.depth c.loop-depth.done c.at-s.result c.inputs-fs.result.now c.at.result c.next_open-i.result = record {
      sound = c.requires.sound;
      state = c.loop-depth.invariant;
      deep = c.loop-depth-test.true;
      last = c.at-s.ensures;
      inputs = c.inputs-fs.ensures;
      start = c.at.ensures;
      opens = c.next_open-i.ensures;
    } in
    (open_low (turn) c.if-i-fs.true c.maker-m.ensures, push_room (turn) c.if-i-fs.true c.maker-m.ensures c.at-then-i-fs.ensures c.if-at-eq1.false) in
    let turn : Turn c.args.g.now.mentions.now c.args.g.now.ends.now c.args.g.now.made.now (length c.args.order.now) (take c.args.already c.args.order.now) c.args.root
    c.loop-depth.seen c.loop-depth.next c.loop-depth.path c.loop-depth.order c.loop-depth.depth c.loop-depth.done c.at-s.result c.inputs-fs.result.now c.at.result c.next_open-i.result = record {
      sound = c.requires.sound;
      state = c.loop-depth.invariant;
      deep = c.loop-depth-test.true;
      last = c.at-s.ensures;
      inputs = c.inputs-fs.ensures;
      start = c.at.ensures;
      opens = c.next_open-i.ensures;
    } in
    omega (arith, push, numbers (turn))

pub loop-depth-preserved-then-i-fs : goal.loop-depth-preserved-then-i-fs
loop-depth-preserved-then-i-fs c = let turn : Turn c.args.g.now.mentions.now c.args.g.now.ends.now c.args.g.now.made.now (length c.args.order.now) (take c.args.already c.args.order.now) c.args.root
    c.loop-depth.seen c.loop-depth.next c.loop-depth.path c.loop-depth.order c.loop-depth.depth c.loop-depth.done c.at-s.result c.inputs-fs.result.now c.at.result c.next_open-i.result = record {
      sound = c.requires.sound;
      state = c.loop-depth.invariant;
      deep = c.loop-depth-test.true;
      last = c.at-s.ensures;
      inputs = c.inputs-fs.ensures;
      start = c.at.ensures;
      opens = c.next_open-i.ensures;
    } in
    explore_push (turn) c.if-i-fs.true c.maker-m.ensures c.at-then-i-fs.ensures c.if-at-eq1.false

pub offset_bounds-seen-s : goal.offset_bounds-seen-s
offset_bounds-seen-s c = let turn : Turn c.args.g.now.mentions.now c.args.g.now.ends.now c.args.g.now.made.now (length c.args.order.now) (take c.args.already c.args.order.now) c.args.root
    c.loop-depth.seen c.loop-depth.next c.loop-depth.path c.loop-depth.order c.loop-depth.depth c.loop-depth.done c.at-s.result c.inputs-fs.result.now c.at.result c.next_open-i.result = record {
      sound = c.requires.sound;
      state = c.loop-depth.invariant;
      deep = c.loop-depth-test.true;
      last = c.at-s.ensures;
      inputs = c.inputs-fs.ensures;
      start = c.at.ensures;
      opens = c.next_open-i.ensures;
    } in
    omega (arith, numbers (turn))

pub bounds-seen-s : goal.bounds-seen-s
bounds-seen-s c = let turn : Turn c.args.g.now.mentions.now c.args.g.now.ends.now c.args.g.now.made.now (length c.args.order.now) (take c.args.already c.args.order.now) c.args.root
    c.loop-depth.seen c.loop-depth.next c.loop-depth.path c.loop-depth.order c.loop-depth.depth c.loop-depth.done c.at-s.result c.inputs-fs.result.now c.at.result c.next_open-i.result = record {
      sound = c.requires.sound;
      state = c.loop-depth.invariant;
      deep = c.loop-depth-test.true;
      last = c.at-s.ensures;
      inputs = c.inputs-fs.ensures;
      start = c.at.ensures;
      opens = c.next_open-i.ensures;
    } in
    omega (arith, numbers (turn))

pub overflow_cast-order : goal.overflow_cast-order
overflow_cast-order c = let turn : Turn c.args.g.now.mentions.now c.args.g.now.ends.now c.args.g.now.made.now (length c.args.order.now) (take c.args.already c.args.order.now) c.args.root
    c.loop-depth.seen c.loop-depth.next c.loop-depth.path c.loop-depth.order c.loop-depth.depth c.loop-depth.done c.at-s.result c.inputs-fs.result.now c.at.result c.next_open-i.result = record {
      sound = c.requires.sound;
      state = c.loop-depth.invariant;
      deep = c.loop-depth-test.true;
      last = c.at-s.ensures;
      inputs = c.inputs-fs.ensures;
      start = c.at.ensures;
      opens = c.next_open-i.ensures;
    } in
    omega (arith, numbers (turn))

pub offset_bounds-order-done : goal.offset_bounds-order-done
offset_bounds-order-done c = let turn : Turn c.args.g.now.mentions.now c.args.g.now.ends.now c.args.g.now.made.now (length c.args.order.now) (take c.args.already c.args.order.now) c.args.root
    c.loop-depth.seen c.loop-depth.next c.loop-depth.path c.loop-depth.order c.loop-depth.depth c.loop-depth.done c.at-s.result c.inputs-fs.result.now c.at.result c.next_open-i.result = record {
      sound = c.requires.sound;
      state = c.loop-depth.invariant;
      deep = c.loop-depth-test.true;
      last = c.at-s.ensures;
      inputs = c.inputs-fs.ensures;
      start = c.at.ensures;
      opens = c.next_open-i.ensures;
    } in
    omega (arith, numbers (turn))

pub bounds-order-done : goal.bounds-order-done
bounds-order-done c = let turn : Turn c.args.g.now.mentions.now c.args.g.now.ends.now c.args.g.now.made.now (length c.args.order.now) (take c.args.already c.args.order.now) c.args.root
    c.loop-depth.seen c.loop-depth.next c.loop-depth.path c.loop-depth.order c.loop-depth.depth c.loop-depth.done c.at-s.result c.inputs-fs.result.now c.at.result c.next_open-i.result = record {
      sound = c.requires.sound;
      state = c.loop-depth.invariant;
      deep = c.loop-depth-test.true;
      last = c.at-s.ensures;
      inputs = c.inputs-fs.ensures;
      start = c.at.ensures;
      opens = c.next_open-i.ensures;
    } in
    omega (arith, pop_room (turn) c.if-i-fs.false, numbers (turn))

pub overflow_add-done : goal.overflow_add-done
overflow_add-done c = let turn : Turn c.args.g.now.mentions.now c.args.g.now.ends.now c.args.g.now.made.now (length c.args.order.now) (take c.args.already c.args.order.now) c.args.root
    c.loop-depth.seen c.loop-depth.next c.loop-depth.path c.loop-depth.order c.loop-depth.depth c.loop-depth.done c.at-s.result c.inputs-fs.result.now c.at.result c.next_open-i.result = record {
      sound = c.requires.sound;
      state = c.loop-depth.invariant;
      deep = c.loop-depth-test.true;
      last = c.at-s.ensures;
      inputs = c.inputs-fs.ensures;
      start = c.at.ensures;
      opens = c.next_open-i.ensures;
    } in
    omega (arith, numbers (turn))

pub overflow_sub-depth-else-i-fs : goal.overflow_sub-depth-else-i-fs
overflow_sub-depth-else-i-fs c = c.loop-depth-test.true

pub loop-depth-smaller : goal.loop-depth-smaller
loop-depth-smaller c = let turn : Turn c.args.g.now.mentions.now c.args.g.now.ends.now c.args.g.now.made.now (length c.args.order.now) (take c.args.already c.args.order.now) c.args.root
    c.loop-depth.seen c.loop-depth.next c.loop-depth.path c.loop-depth.order c.loop-depth.depth c.loop-depth.done c.at-s.result c.inputs-fs.result.now c.at.result c.next_open-i.result = record {
      sound = c.requires.sound;
      state = c.loop-depth.invariant;
      deep = c.loop-depth-test.true;
      last = c.at-s.ensures;
      inputs = c.inputs-fs.ensures;
      start = c.at.ensures;
      opens = c.next_open-i.ensures;
    } in
    omega (arith, pop_room (turn) c.if-i-fs.false, numbers (turn), c.loop-depth-test.true)

pub loop-depth-preserved : goal.loop-depth-preserved
loop-depth-preserved c = let turn : Turn c.args.g.now.mentions.now c.args.g.now.ends.now c.args.g.now.made.now (length c.args.order.now) (take c.args.already c.args.order.now) c.args.root
    c.loop-depth.seen c.loop-depth.next c.loop-depth.path c.loop-depth.order c.loop-depth.depth c.loop-depth.done c.at-s.result c.inputs-fs.result.now c.at.result c.next_open-i.result = record {
      sound = c.requires.sound;
      state = c.loop-depth.invariant;
      deep = c.loop-depth-test.true;
      last = c.at-s.ensures;
      inputs = c.inputs-fs.ensures;
      start = c.at.ensures;
      opens = c.next_open-i.ensures;
    } in
    explore_pop (turn) c.if-i-fs.false

pub shape_of-seen : goal.shape_of-seen
shape_of-seen c = omega (arith, c.loop-depth.invariant.walk.long, c.requires.visited.walk.long)

pub shape_of-next : goal.shape_of-next
shape_of-next c = omega (arith, c.loop-depth.invariant.next_long, c.requires.visited.next_long)

pub shape_of-path : goal.shape_of-path
shape_of-path c = omega (arith, c.loop-depth.invariant.path_long, c.requires.path_long)

pub shape_of-order : goal.shape_of-order
shape_of-order c = c.loop-depth.invariant.order_long

pub returns : goal.returns
unfolding Explored
returns c = explore_end c.loop-depth.invariant c.loop-depth-test.false
