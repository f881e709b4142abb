-- `scan_card::sound` meets its contract: the header first, then the names.
use mathlib.Core.Path.{sym, ◌∙◌}
use native.Mathlib.Omega.{arith}
use Rattle.scan_card.proofs.Places.{bad_header, good_header, headed}
use Rattle.scan_card.proofs.Rules.{header}
use Rattle.scan_card.proofs.sound.Goals as goal

pub returns-then-not-sound_header : goal.returns-then-not-sound_header
returns-then-not-sound_header c = bad_header _ (sym c.sound_header.ensures ∙ c.if-not-sound_header.true)

pub word-n-requires : goal.word-n-requires
word-n-requires c = let h = header (sym c.sound_header.ensures ∙ c.if-not-sound_header.false) in omega arith

pub sound_names-requires : goal.sound_names-requires
sound_names-requires c = headed (sym c.sound_header.ensures ∙ c.if-not-sound_header.false) c.word-n.ensures.is

pub returns : goal.returns
returns c = good_header _ (sym c.sound_header.ensures ∙ c.if-not-sound_header.false) c.sound_names.ensures
