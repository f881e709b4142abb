-- `apply_defaults::add_defaults` meets its contract.
use borrow.Author.Rules.{rules}
use Rattle.apply_defaults.proofs.Lines.{line_wrong, line_sound, sound_asks}
use Rattle.apply_defaults.proofs.add_defaults.Goals as goal

pub returns-then-has_wrong : goal.returns-then-has_wrong
returns-then-has_wrong c = record { space = search rules; promise = λ ps w. line_wrong c.args.s.start c.has_wrong.ensures.promise c.if-has_wrong.true w }

pub add_sound-requires : goal.add_sound-requires
add_sound-requires c = sound_asks c.requires (search rules) c.has_wrong.ensures.promise c.if-has_wrong.false

pub returns : goal.returns
returns c = record { space = search rules; promise = λ ps w. line_sound c.args.s.start c.has_wrong.ensures.promise c.if-has_wrong.false w (c.add_sound.ensures.promise ps w) }
