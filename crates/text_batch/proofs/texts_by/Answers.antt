-- `text_batch::texts_by` meets its contract.
use mathlib.Core.Path.{◌∙◌}
use native.Mathlib.Omega.{arith}
use Rattle.text_batch.proofs.Answering.{texts_written, texts_refused, walk_asked}
use Rattle.text_batch.proofs.texts_by.Goals as goal

pub usable-room-requires : goal.usable-room-requires
usable-room-requires c = tt

pub walk-requires : goal.walk-requires
walk-requires c = walk_asked c.args.bytes.now c.requires c.usable-room.ensures

pub zero_bytes_from-requires : goal.zero_bytes_from-requires
zero_bytes_from-requires c = tt

pub zero_words_from-requires : goal.zero_words_from-requires
zero_words_from-requires c = tt

pub zero_bytes_from-requires-in-Err : goal.zero_bytes_from-requires-in-Err
zero_bytes_from-requires-in-Err c = tt

pub zero_words_from-requires-in-Err : goal.zero_words_from-requires-in-Err
zero_words_from-requires-in-Err c = tt

pub shape_of-one-in-Ok : goal.shape_of-one-in-Ok
shape_of-one-in-Ok c = c.walk.auto.one

pub shape_of-bytes-in-Ok : goal.shape_of-bytes-in-Ok
shape_of-bytes-in-Ok c = c.zero_bytes_from.auto.buf ∙ c.walk.auto.bytes

pub shape_of-ends-in-Ok : goal.shape_of-ends-in-Ok
shape_of-ends-in-Ok c = c.zero_words_from.auto.buf ∙ c.walk.auto.ends

pub returns-in-Ok : goal.returns-in-Ok
returns-in-Ok c = record { space = record { long = (c.walk.auto.one) }; promise = texts_written (rw c.in-Ok.is at c.walk.ensures.promise) c.usable-room.ensures (omega (arith, c.walk.auto)) (omega (arith, c.walk.auto)) c.zero_bytes_from.ensures c.zero_words_from.ensures }

pub shape_of-one-in-Err : goal.shape_of-one-in-Err
shape_of-one-in-Err c = c.walk.auto.one

pub shape_of-bytes-in-Err : goal.shape_of-bytes-in-Err
shape_of-bytes-in-Err c = c.zero_bytes_from-in-Err.auto.buf ∙ c.walk.auto.bytes

pub shape_of-ends-in-Err : goal.shape_of-ends-in-Err
shape_of-ends-in-Err c = c.zero_words_from-in-Err.auto.buf ∙ c.walk.auto.ends

pub returns-in-Err : goal.returns-in-Err
returns-in-Err c = record { space = record { long = (c.walk.auto.one) }; promise = texts_refused (rw c.in-Err.is at c.walk.ensures.promise) c.usable-room.ensures (omega (arith, c.walk.auto)) (omega (arith, c.walk.auto)) c.zero_bytes_from-in-Err.ensures c.zero_words_from-in-Err.ensures }
