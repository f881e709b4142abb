use Rattle.lists.specs.Runs.{Scanning}
use Rattle.spec.specs.Lines.{is_space}
use Rattle.scan_tokens.proofs.spaces.Given as goal

abbrev pub invariant-loop-i : goal.invariant-loop-i
invariant-loop-i l = Scanning is_space l.s l.from l.i
