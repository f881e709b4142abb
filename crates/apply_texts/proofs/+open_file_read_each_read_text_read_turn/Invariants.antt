use Rattle.std.proofs.Common.{◌≡◌, ◌+◌, ◌*◌, ◌-◌, length}
use Rattle.hold_reading.specs.Buffers.{buffers}
use Rattle.apply_texts.specs.Texts.{file_opener}
use Rattle.std.specs.Prelude.{Ok}
use Rattle.apply_stretch.specs.Stretches.{LinesDone}
use Rattle.apply_stretch.proofs.Each.{Same}
use Rattle.apply_texts.proofs.Turns.{Reached}
use Rattle.apply_texts.proofs.+open_file_read_each_read_text_read_turn.Given as goal

abbrev pub decreases-open_file : goal.decreases-open_file
decreases-open_file l = 4 * l.l.more

abbrev pub decreases-read_each : goal.decreases-read_each
decreases-read_each l = 4 * l.p.more + 2

abbrev pub decreases-read_text : goal.decreases-read_text
decreases-read_text l = 4 * l.o.more + 3

abbrev pub decreases-read_turn : goal.decreases-read_turn
decreases-read_turn l = 4 * l.lines.more + 1

abbrev pub invariant-read_each-loop-k : goal.invariant-read_each-loop-k
invariant-read_each-loop-k l =
    let b₀ = buffers l.initial.names l.initial.index l.initial.texts l.initial.bind l.initial.graph in
    let b₁ = buffers l.names l.index l.texts l.bind l.graph in
    Same b₀ l.initial.word b₁ l.word × LinesDone (file_opener l.b l.p.more) l.p.base l.m l.found 0 b₀ l.initial.kept.counts l.initial.kept.«open» b₁ (Ok l.kept) l.k

abbrev pub decreases-read_each-loop-k : goal.decreases-read_each-loop-k
decreases-read_each-loop-k l = length l.found - l.k

abbrev pub invariant-read_text-loop-from : goal.invariant-read_text-loop-from
invariant-read_text-loop-from l =
    let b₀ = buffers l.initial.names l.initial.index l.initial.texts l.initial.bind l.initial.graph in
    let b₁ = buffers l.names l.index l.texts l.bind l.graph in
    Same b₀ l.initial.word b₁ l.word × (length l.found ≡ 64) × Reached (file_opener l.b l.p.more) l.p.base l.m b₀ l.initial.kept.counts l.initial.kept.«open» b₁ l.kept.counts l.kept.«open» l.from

abbrev pub decreases-read_text-loop-from : goal.decreases-read_text-loop-from
decreases-read_text-loop-from l = length l.m - l.from
