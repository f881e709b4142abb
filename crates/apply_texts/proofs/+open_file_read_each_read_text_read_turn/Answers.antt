use borrow.Author.Rules.{rules}
use Rattle.std.proofs.lemmas.Result.{err_from_is_err_and}
use mathlib.Core.Path.{refl, ◌∙◌}
use native.Mathlib.Omega.{arith}
use lib.ListN.{length-replicate}
use Rattle.spec.specs.Bundle.{bundle_texts}
use Rattle.apply_texts.specs.Texts.{file_opener}
use Rattle.scan_texts.proofs.Texts.{laid}
use Rattle.apply_stretch.proofs.Each.{same_begin, each_begin, each_joins, each_end, each_refused, answered_stretch, opened_stretch}
use Rattle.apply_texts.proofs.Turns.{turn_begin, found_ask, turn_asks, turn_on, turn_refused, turn_sound, turn_end}
use Rattle.apply_texts.proofs.Files.{path_asks, not_opened, all_open, enter_asks, text_asks, file_stopped, leave_asks, file_read}
use Rattle.apply_texts.proofs.Stretched.{all_done, opens_two, opens_forward, opens_within, path_ordered, path_within, opens_asks, opens_done, turn_asked}
use Prim.Native.Nat.{ℕ}
use Rattle.apply_texts.proofs.+open_file_read_each_read_text_read_turn.Goals as goal

pub open_file-open_path-requires : goal.open_file-open_path-requires
open_file-open_path-requires t c = path_asks c.requires

pub open_file-returns-then-l-eq0 : goal.open_file-returns-then-l-eq0
open_file-returns-then-l-eq0 t c = record { space = search rules; promise = all_open c.args.b.now c.args.l.start c.args.l.sub c.args.raw.now _ (rw c.in_ok-k.was at c.open_path.ensures.promise) c.if-l-eq0.true }

pub open_file-enter-f-requires : goal.open_file-enter-f-requires
open_file-enter-f-requires t c = enter_asks c.args.b.now c.args.l.start c.args.l.sub c.args.raw.now _ (rw c.in_ok-k.was at c.open_path.ensures.promise) c.requires.between

pub open_file-read_text-requires : goal.open_file-read_text-requires
open_file-read_text-requires t c = (omega (arith, c.decreases, c.if-l-eq0.false), text_asks c.args.b.now c.args.l.start c.args.l.sub c.args.raw.now _ (rw c.in_ok-k.was at c.open_path.ensures.promise) c.enter-f.ensures.promise c.requires c.open_path.ensures.space.long)

pub open_file-leave-requires : goal.open_file-leave-requires
open_file-leave-requires t c = leave_asks c.args.b.now c.args.l.start c.args.l.sub c.args.raw.now _ (rw c.in_ok-k.was at c.open_path.ensures.promise) c.enter-f.ensures.promise c.if-l-eq0.false (rw c.in_ok-read.was at c.read_text.ensures.promise) c.requires.between

pub open_file-returns : goal.open_file-returns
open_file-returns t c = record { space = search rules; promise = file_read c.args.b.now c.args.l.start c.args.l.sub c.args.raw.now _ (rw c.in_ok-k.was at c.open_path.ensures.promise) c.enter-f.ensures.promise c.if-l-eq0.false (rw c.in_ok-read.was at c.read_text.ensures.promise) c.leave.ensures.promise }

pub open_file-returns-in_err-read : goal.open_file-returns-in_err-read
open_file-returns-in_err-read t c = record { space = search rules; promise = let p = err_from_is_err_and c.from_residual-in_err-read.result c.from_residual-in_err-read.ensures.1 in rw (p.1, p.2) (file_stopped c.args.b.now c.args.l.start c.args.l.sub c.args.raw.now _ (rw c.in_ok-k.was at c.open_path.ensures.promise) c.enter-f.ensures.promise c.if-l-eq0.false (rw c.in_err-read.was at c.read_text.ensures.promise)) }

pub open_file-returns-in_err-k : goal.open_file-returns-in_err-k
open_file-returns-in_err-k t c = record { space = search rules; promise = let p = err_from_is_err_and c.from_residual.result c.from_residual.ensures.1 in rw (p.1, p.2) (not_opened c.args.b.now c.args.l.more c.args.l.start c.args.l.sub c.args.raw.now (rw c.in_err-k.was at c.open_path.ensures.promise)) }

pub read_each-loop-k-init : goal.read_each-loop-k-init
read_each-loop-k-init t c = (same_begin, each_begin (file_opener c.args.b.now c.args.p.more) c.requires.lines)

pub read_each-read_turn-r-requires : goal.read_each-read_turn-r-requires
read_each-read_turn-r-requires t c = (omega (arith, c.decreases), turn_asked c.loop-k.invariant.1 c.requires c.loop-k-test.true refl c.loop-k.invariant.0)

pub read_each-loop-k-preserved : goal.read_each-loop-k-preserved
read_each-loop-k-preserved t c =
    let k = c.read_turn-r.auto in
    let e = c.loop-k.invariant.0 in (
      record { names_same = omega (arith, k, e.names_same); ends_same = omega (arith, k, e.ends_same); texts_same = omega (arith, k, e.texts_same); bind_same = omega (arith, k, e.bind_same); graph_same = omega (arith, k, e.graph_same); word_same = omega (arith, k, e.word_same) },
      each_joins c.loop-k.invariant.1 refl (rw c.in_ok-kept.was at c.read_turn-r.ensures.promise.done),
    )

pub read_each-returns-in_err-kept : goal.read_each-returns-in_err-kept
read_each-returns-in_err-kept t c = record { space = search rules; promise = let p = err_from_is_err_and c.from_residual.result c.from_residual.ensures.1 in rw (p.1, p.2) (each_refused (each_joins c.loop-k.invariant.1 refl c.read_turn-r.ensures.promise.done) c.in_err-kept.was) }

pub read_each-returns : goal.read_each-returns
read_each-returns t c = record { space = search rules; promise = each_end c.loop-k.invariant.1 c.loop-k-test.false }

pub read_text-record_text-m-requires-clause-laid_bundle : goal.read_text-record_text-m-requires-clause-laid_bundle
read_text-record_text-m-requires-clause-laid_bundle t c = laid _ c.requires.bundle.sound

pub read_text-text_base-requires-clause-laid_bundle : goal.read_text-text_base-requires-clause-laid_bundle
read_text-text_base-requires-clause-laid_bundle t c = laid _ c.requires.bundle.sound

pub read_text-loop-from-init : goal.read_text-loop-from-init
read_text-loop-from-init t c = (same_begin, length-replicate {A = ℕ} 64 0, turn_begin _ _ _)

pub read_text-lines_from-f-requires : goal.read_text-lines_from-f-requires
read_text-lines_from-f-requires t c = found_ask c.requires c.record_text-m.ensures c.loop-from.invariant.2.within c.loop-from.invariant.1

pub read_text-read_each-requires : goal.read_text-read_each-requires
read_text-read_each-requires t c = (omega (arith, c.decreases), turn_asks c.loop-from.invariant.2 c.lines_from-f.ensures c.requires refl c.record_text-m.ensures c.text_base.ensures c.loop-from.invariant.1 c.loop-from.invariant.0)

pub read_text-loop-from-preserved : goal.read_text-loop-from-preserved
read_text-loop-from-preserved t c =
    let k = c.read_each.auto in
    let e = c.loop-from.invariant.0 in (
      record { names_same = omega (arith, k, e.names_same); ends_same = omega (arith, k, e.ends_same); texts_same = omega (arith, k, e.texts_same); bind_same = omega (arith, k, e.bind_same); graph_same = omega (arith, k, e.graph_same); word_same = omega (arith, k, e.word_same) },
      c.lines_from-f.ensures.long ∙ c.loop-from.invariant.1,
      turn_on c.loop-from.invariant.2 c.lines_from-f.ensures (rw c.in_ok-kept.was at c.read_each.ensures.promise),
    )

pub read_text-returns-in_err-kept : goal.read_text-returns-in_err-kept
read_text-returns-in_err-kept t c = record { space = search rules; promise = let p = err_from_is_err_and c.from_residual.result c.from_residual.ensures.1 in rw (p.1, p.2) (turn_refused c.loop-from.invariant.2 c.lines_from-f.ensures (bundle_texts c.args.b.now) c.args.o.record c.record_text-m.ensures c.text_base.ensures (rw c.in_err-kept.was at c.read_each.ensures.promise)) }

pub read_text-close-requires : goal.read_text-close-requires
read_text-close-requires t c = turn_sound c.loop-from.invariant.2 c.requires.between

pub read_text-returns : goal.read_text-returns
read_text-returns t c = record { space = search rules; promise = turn_end c.loop-from.invariant.2 (bundle_texts c.args.b.now) c.args.o.record c.record_text-m.ensures c.text_base.ensures c.loop-from-test.false c.close.ensures }

pub read_turn-at-start-requires : goal.read_turn-at-start-requires
read_turn-at-start-requires t c = (opened_stretch (rw c.in-Opens.is at c.read_stretch.ensures.promise)).below

pub read_turn-overflow_add-k : goal.read_turn-overflow_add-k
read_turn-overflow_add-k t c = omega (arith, opens_two (opened_stretch (rw c.in-Opens.is at c.read_stretch.ensures.promise)), c.requires.lines.few)

pub read_turn-at-end-requires : goal.read_turn-at-end-requires
read_turn-at-end-requires t c = opens_two (opened_stretch (rw c.in-Opens.is at c.read_stretch.ensures.promise))

pub read_turn-slice_bounds-l-count : goal.read_turn-slice_bounds-l-count
read_turn-slice_bounds-l-count t c = omega (arith, opens_forward (opened_stretch (rw c.in-Opens.is at c.read_stretch.ensures.promise)) c.at-start.ensures c.at-end.ensures)

pub read_turn-slice_bounds-l-start : goal.read_turn-slice_bounds-l-start
read_turn-slice_bounds-l-start t c = omega (arith, opens_forward (opened_stretch (rw c.in-Opens.is at c.read_stretch.ensures.promise)) c.at-start.ensures c.at-end.ensures)

pub read_turn-slice_bounds-l-end : goal.read_turn-slice_bounds-l-end
read_turn-slice_bounds-l-end t c = omega (arith, opens_within (opened_stretch (rw c.in-Opens.is at c.read_stretch.ensures.promise)) c.at-start.ensures c.at-end.ensures)

pub read_turn-slice_bounds-open_file-count : goal.read_turn-slice_bounds-open_file-count
read_turn-slice_bounds-open_file-count t c = omega (arith, path_ordered (opened_stretch (rw c.in-Opens.is at c.read_stretch.ensures.promise)) c.at-start.ensures c.at-end.ensures c.requires)

pub read_turn-slice_bounds-open_file-start : goal.read_turn-slice_bounds-open_file-start
read_turn-slice_bounds-open_file-start t c = omega (arith, path_ordered (opened_stretch (rw c.in-Opens.is at c.read_stretch.ensures.promise)) c.at-start.ensures c.at-end.ensures c.requires)

pub read_turn-slice_bounds-open_file-end : goal.read_turn-slice_bounds-open_file-end
read_turn-slice_bounds-open_file-end t c = path_within (opened_stretch (rw c.in-Opens.is at c.read_stretch.ensures.promise)) c.at-start.ensures c.at-end.ensures c.requires

pub read_turn-open_file-answer-requires : goal.read_turn-open_file-answer-requires
read_turn-open_file-answer-requires t c = (omega (arith, c.decreases), opens_asks (opened_stretch (rw c.in-Opens.is at c.read_stretch.ensures.promise)) c.at-start.ensures c.at-end.ensures c.requires c.read_stretch.ensures.space.0 c.read_stretch.ensures.space.1.long)

pub read_turn-overflow_add-result : goal.read_turn-overflow_add-result
read_turn-overflow_add-result t c = omega (arith, opens_two (opened_stretch (rw c.in-Opens.is at c.read_stretch.ensures.promise)), c.requires.lines.few)

pub read_turn-returns-in-Answered : goal.read_turn-returns-in-Answered
read_turn-returns-in-Answered t c = record { space = search rules; promise = all_done (file_opener c.args.b.now c.args.lines.more) c.args.lines.base c.args.m.now c.args.found.now c.args.lines.from c.requires.some (answered_stretch (rw c.in-Answered.is at c.read_stretch.ensures.promise) (file_opener c.args.b.now c.args.lines.more)) }

pub read_turn-returns-in-Opens : goal.read_turn-returns-in-Opens
read_turn-returns-in-Opens t c = record { space = search rules; promise = opens_done (opened_stretch (rw c.in-Opens.is at c.read_stretch.ensures.promise)) c.at-start.ensures c.at-end.ensures (file_opener c.args.b.now c.args.lines.more) c.open_file-answer.ensures.promise }
