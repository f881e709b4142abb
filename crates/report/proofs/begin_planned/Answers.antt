-- `report::begin_planned` meets its contract.
use mathlib.Core.Path.{sym}
use native.Mathlib.Omega.{arith}
use lib.Seq.{length-take-le}
use Rattle.answers.specs.Numbers.{said}
use Rattle.report.proofs.Beginning.{opens_list, opens_circle, opens_refused}
use Rattle.report.proofs.begin_planned.Goals as goal

pub slice_bounds-begin_list-end : goal.slice_bounds-begin_list-end
slice_bounds-begin_list-end c = sym (length-take-le c.args.n.value c.args.list.now (c.requires.listed c.if-n-eq0.true))

pub begin_list-requires : goal.begin_list-requires
begin_list-requires c = record { line_room_law = c.requires.rooms.line_room_law; texts = c.requires.rooms.texts }

pub returns-then-n-eq0 : goal.returns-then-n-eq0
returns-then-n-eq0 c = opens_list c.args.bundle.now (said c.args.n) c.args.list.now c.if-n-eq0.true c.begin_list.ensures

pub slice_bounds-refuse_circle-end : goal.slice_bounds-refuse_circle-end
slice_bounds-refuse_circle-end c = sym (length-take-le c.args.n.value c.args.list.now (c.requires.shown c.if-n-eq14.true))

pub refuse_circle-requires : goal.refuse_circle-requires
refuse_circle-requires c = (c.requires.rooms.line_room_law, omega (arith, c.requires.rooms.list_room, c.requires.shown c.if-n-eq14.true, length-take-le c.args.n.value c.args.list.now (c.requires.shown c.if-n-eq14.true)))

pub returns-then-n-eq14 : goal.returns-then-n-eq14
returns-then-n-eq14 c = opens_circle c.args.bundle.now (said c.args.n) c.args.list.now c.if-n-eq14.true c.refuse_circle.ensures

pub returns : goal.returns
returns c = opens_refused c.args.bundle.now (said c.args.n) c.args.list.now c.if-n-eq0.false c.if-n-eq14.false c.refuse.ensures
