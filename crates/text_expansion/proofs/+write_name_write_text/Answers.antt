-- `text_expansion::write_name` and `text_expansion::write_text`, which call one another, meet their contracts. Each rule text goes one less deep, and of one depth the text comes before its names.
use native.Mathlib.Omega.{arith}
use mathlib.Core.Path.{sym, ◌∙◌}
use Rattle.text_references.proofs.Turns.{as_bytes, as_name}
use Rattle.text_expansion.proofs.Writing.{write_begin, bytes_on, bytes_over, name_asked, name_on, name_over, write_end}
use Rattle.text_expansion.proofs.Keys.{in_scope, key_asked, plain_asked, plain_written, again_behind, again_written, depth_left, text_asked, key_written}
use Rattle.text_expansion.proofs.+write_name_write_text.Goals as goal

pub write_name-lookup-source-requires : goal.write_name-lookup-source-requires
write_name-lookup-source-requires t c = in_scope c.requires

pub write_name-write_again-requires : goal.write_name-write_again-requires
write_name-write_again-requires t c = again_behind (key_asked c.requires c.lookup-source.ensures c.in-Text.is) (sym c.span_of.ensures ∙ c.in-Some.is)

pub write_name-write_plain-requires : goal.write_name-write_plain-requires
write_name-write_plain-requires t c = plain_asked c.requires c.lookup-source.ensures

pub write_name-returns-in-Some : goal.write_name-returns-in-Some
write_name-returns-in-Some t c = again_written (key_asked c.requires c.lookup-source.ensures c.in-Text.is) (sym c.span_of.ensures ∙ c.in-Some.is) c.write_again.ensures

pub write_name-overflow_sub-deeper : goal.write_name-overflow_sub-deeper
write_name-overflow_sub-deeper t c = depth_left (key_asked c.requires c.lookup-source.ensures c.in-Text.is)

pub write_name-write_text-x-requires : goal.write_name-write_text-x-requires
write_name-write_text-x-requires t c = (omega (arith, c.decreases, depth_left (key_asked c.requires c.lookup-source.ensures c.in-Text.is)), text_asked (key_asked c.requires c.lookup-source.ensures c.in-Text.is) c.value-raw.ensures)

pub write_name-returns-in-Text : goal.write_name-returns-in-Text
write_name-returns-in-Text t c = key_written (key_asked c.requires c.lookup-source.ensures c.in-Text.is) c.value-raw.ensures c.write_text-x.ensures c.remember.ensures

pub write_name-returns : goal.write_name-returns
write_name-returns t c = plain_written c.requires c.lookup-source.ensures c.write_plain.ensures c.in_default.not-Text

pub write_text-loop-i-init : goal.write_text-loop-i-init
write_text-loop-i-init t c = write_begin c.requires

pub write_text-slice_bounds-write-count : goal.write_text-slice_bounds-write-count
write_text-slice_bounds-write-count t c = let b = as_bytes c.piece_at.ensures c.in-Bytes.is in omega (arith, b.ordered)

pub write_text-slice_bounds-write-start : goal.write_text-slice_bounds-write-start
write_text-slice_bounds-write-start t c = let b = as_bytes c.piece_at.ensures c.in-Bytes.is in omega (arith, b.ordered)

pub write_text-slice_bounds-write-end : goal.write_text-slice_bounds-write-end
write_text-slice_bounds-write-end t c = let b = as_bytes c.piece_at.ensures c.in-Bytes.is in omega (arith, b.inside)

pub write_text-returns-then-x-gt-TEXT : goal.write_text-returns-then-x-gt-TEXT
write_text-returns-then-x-gt-TEXT t c = bytes_over c.loop-i.invariant (as_bytes c.piece_at.ensures c.in-Bytes.is) c.write-x.ensures c.if-x-gt-TEXT.true

pub write_text-loop-i-smaller-in-Bytes : goal.write_text-loop-i-smaller-in-Bytes
write_text-loop-i-smaller-in-Bytes t c = let b = as_bytes c.piece_at.ensures c.in-Bytes.is in omega (arith, b.forward, c.loop-i-test.true)

pub write_text-loop-i-preserved-in-Bytes : goal.write_text-loop-i-preserved-in-Bytes
write_text-loop-i-preserved-in-Bytes t c = bytes_on c.loop-i.invariant (as_bytes c.piece_at.ensures c.in-Bytes.is) c.write-x.ensures c.if-x-gt-TEXT.false

pub write_text-slice_bounds-write_name-count : goal.write_text-slice_bounds-write_name-count
write_text-slice_bounds-write_name-count t c = let b = as_name c.piece_at.ensures c.in-Name.is in omega (arith, b.ordered)

pub write_text-slice_bounds-write_name-start : goal.write_text-slice_bounds-write_name-start
write_text-slice_bounds-write_name-start t c = let b = as_name c.piece_at.ensures c.in-Name.is in omega (arith, b.ordered)

pub write_text-slice_bounds-write_name-end : goal.write_text-slice_bounds-write_name-end
write_text-slice_bounds-write_name-end t c = let b = as_name c.piece_at.ensures c.in-Name.is in omega (arith, b.inside)

pub write_text-write_name-x-requires : goal.write_text-write_name-x-requires
write_text-write_name-x-requires t c = (omega (arith, c.decreases), name_asked c.loop-i.invariant (as_name c.piece_at.ensures c.in-Name.is))

pub write_text-returns-then-x-gt-TEXT-2 : goal.write_text-returns-then-x-gt-TEXT-2
write_text-returns-then-x-gt-TEXT-2 t c = name_over c.loop-i.invariant (as_name c.piece_at.ensures c.in-Name.is) c.write_name-x.ensures c.if-x-gt-TEXT-2.true

pub write_text-loop-i-smaller : goal.write_text-loop-i-smaller
write_text-loop-i-smaller t c = let b = as_name c.piece_at.ensures c.in-Name.is in omega (arith, b.forward, c.loop-i-test.true)

pub write_text-loop-i-preserved : goal.write_text-loop-i-preserved
write_text-loop-i-preserved t c = name_on c.loop-i.invariant (as_name c.piece_at.ensures c.in-Name.is) c.write_name-x.ensures c.if-x-gt-TEXT-2.false

pub write_text-returns : goal.write_text-returns
write_text-returns t c = write_end c.loop-i.invariant c.loop-i-test.false
