-- `ask_judged_times::is_forced` meets its contract.
use Rattle.ask_judged_times.proofs.Forcing.{by_missing, by_listed, ask_listed, ask_absent}
use Rattle.ask_judged_times.proofs.is_forced.Goals as goal

pub returns-then-at-eq1 : goal.returns-then-at-eq1
returns-then-at-eq1 c = by_missing _ _ _ _ _ _ _ c.at.ensures c.if-at-eq1.true

pub listed_files-requires : goal.listed_files-requires
listed_files-requires c = ask_listed c.requires.0 c.requires.1

pub some_absent-requires : goal.some_absent-requires
some_absent-requires c = ask_absent c.requires.0 c.requires.1 c.listed_files.ensures

pub returns : goal.returns
returns c = by_listed _ _ _ _ _ _ _ c.at.ensures c.if-at-eq1.false c.listed_files.ensures c.some_absent.ensures
