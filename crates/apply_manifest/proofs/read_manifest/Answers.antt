use Rattle.std.proofs.lemmas.Result.{err_from_is_err_and}
use Rattle.apply_manifest.proofs.Answers.{not_sound, too_long, short, bad_bytes, lines_refused, lines_accepted, lines_ask}
use Rattle.apply_manifest.specs.Manifests.{IsRead}
use mathlib.Core.Path.{sym, ◌∙◌}
use borrow.Author.Rules.{rules}
use Rattle.apply_manifest.proofs.read_manifest.Goals as goal

pub returns-then-not-is_sound_bundle : goal.returns-then-not-is_sound_bundle
unfolding IsRead
returns-then-not-is_sound_bundle c = record { space = search rules; promise = not_sound _ (sym c.is_sound_bundle.ensures ∙ c.if-not-is_sound_bundle.true) }

pub bytes_together-requires : goal.bytes_together-requires
bytes_together-requires c = (sym c.is_sound_bundle.ensures ∙ c.if-not-is_sound_bundle.false)

pub returns-then-bytes_together-gt-MANIFEST : goal.returns-then-bytes_together-gt-MANIFEST
unfolding IsRead
returns-then-bytes_together-gt-MANIFEST c = record { space = search rules; promise = too_long _ (sym c.is_sound_bundle.ensures ∙ c.if-not-is_sound_bundle.false) c.bytes_together.ensures c.if-bytes_together-gt-MANIFEST.true }

pub first_bad-requires : goal.first_bad-requires
first_bad-requires c = short _ (sym c.is_sound_bundle.ensures ∙ c.if-not-is_sound_bundle.false) c.bytes_together.ensures c.if-bytes_together-gt-MANIFEST.false

pub read_lines-requires : goal.read_lines-requires
read_lines-requires c = lines_ask c.requires (short _ (sym c.is_sound_bundle.ensures ∙ c.if-not-is_sound_bundle.false) c.bytes_together.ensures c.if-bytes_together-gt-MANIFEST.false)

pub returns-in-Some : goal.returns-in-Some
unfolding IsRead
returns-in-Some c = record { space = search rules; promise = bad_bytes _ (sym c.is_sound_bundle.ensures ∙ c.if-not-is_sound_bundle.false) c.bytes_together.ensures c.if-bytes_together-gt-MANIFEST.false _ c.first_bad.ensures c.in-Some.is }

pub returns : goal.returns
unfolding IsRead
returns c = record { space = search rules; promise = lines_accepted _ (sym c.is_sound_bundle.ensures ∙ c.if-not-is_sound_bundle.false) c.bytes_together.ensures c.if-bytes_together-gt-MANIFEST.false _ c.first_bad.ensures c.in_default.is (rw c.in_ok-read.was at c.read_lines.ensures.promise) }

pub returns-in_err-read : goal.returns-in_err-read
unfolding IsRead
returns-in_err-read c = record { space = search rules; promise = let p = err_from_is_err_and c.from_residual.result c.from_residual.ensures.1 in rw (p.1, p.2) (lines_refused _ (sym c.is_sound_bundle.ensures ∙ c.if-not-is_sound_bundle.false) c.bytes_together.ensures c.if-bytes_together-gt-MANIFEST.false _ c.first_bad.ensures c.in_default.is (rw c.in_err-read.was at c.read_lines.ensures.promise)) }
