-- `cut_forms::paths::listed` meets its contract.
use native.Mathlib.Omega.{arith}
use Rattle.scan_raw.specs.Texts.{PathNext}
use Rattle.scan_raw.proofs.Answers.{next_stop, next_path, next_bad}
use Rattle.cut_forms.specs.Paths.{ListedAt}
use Rattle.cut_forms.proofs.Walks.{pass_begin, pass_next, pass_stop, pass_bad}
use Rattle.cut_forms.proofs.paths.listed.Goals as goal

pub loop-to-init : goal.loop-to-init
loop-to-init c = pass_begin c.requires.1

pub loop-to-smaller : goal.loop-to-smaller
loop-to-smaller c =
    let p : PathNext _ _ _ _ = next_path _ _ _ c.next_path.ensures c.in-Path.is in
    omega (arith, p.forward, p.longer, p.within)

pub loop-to-preserved : goal.loop-to-preserved
loop-to-preserved c = pass_next c.loop-to.invariant (next_path _ _ _ c.next_path.ensures c.in-Path.is)

pub returns-in-Stop : goal.returns-in-Stop
unfolding ListedAt
returns-in-Stop c = pass_stop c.loop-to.invariant (next_stop _ _ _ c.next_path.ensures c.in-Stop.is)

pub returns-in-BadDollar : goal.returns-in-BadDollar
unfolding ListedAt
returns-in-BadDollar c = pass_bad c.loop-to.invariant (next_bad _ _ _ c.next_path.ensures c.in-BadDollar.is)
