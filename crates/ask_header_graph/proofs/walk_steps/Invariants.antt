use Rattle.ask_header_graph.proofs.Walking.{Walking}
use Rattle.hold_reading.specs.Buffers.{buffers}
use Rattle.ask_header_graph.proofs.walk_steps.Given as goal

abbrev pub invariant-loop-s : goal.invariant-loop-s
invariant-loop-s l =
    Walking l.t l.headers l.count l.order (buffers l.initial.names l.initial.index l.texts l.bind l.graph) l.c l.initial.second l.initial.name l.initial.word l.names l.index l.second l.name l.word l.s l.d
