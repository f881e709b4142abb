-- `cases::case_next` meets its contract.
use Rattle.std.proofs.Common.{rules}
use Rattle.cases.proofs.case_next.Goals as goal

pub ask_all-requires : goal.ask_all-requires
ask_all-requires c =
    let s = c.is_sound.ensures (search rules) in
    record { bundle_behind = s.bundle_behind; headers_behind = s.headers_behind; card_behind = s.card_behind; targets_behind = s.targets_behind; within = c.read_part.ensures (c.if-not-read_part.false) }
