-- `scan_depfile::pass_name` meets its contract.
use mathlib.Core.Bool.{false}
use mathlib.Core.Path.{refl}
use native.Mathlib.Omega.{arith}
use Rattle.scan_depfile.specs.Answers.{InName}
use Rattle.scan_depfile.proofs.Told.{name_in, name_over}
use Rattle.scan_depfile.proofs.Naming.{naming_begin, naming_on, naming_end}
use Rattle.scan_depfile.proofs.pass_name.Goals as goal

pub loop-b-init : goal.loop-b-init
loop-b-init c = naming_begin c.args.word.now c.requires

pub loop-b-smaller : goal.loop-b-smaller
loop-b-smaller c =
    let m : InName false _ _ _ _ = name_in false _ _ _ c.name_byte.ensures c.in-Some.is in
    omega (arith, m.mark.forward, m.mark.within)

pub loop-b-preserved : goal.loop-b-preserved
loop-b-preserved c = naming_on c.loop-b.invariant (name_in false _ _ _ c.name_byte.ensures c.in-Some.is) c.keep_byte.ensures

pub returns : goal.returns
returns c = naming_end c.loop-b.invariant (name_over false _ _ _ c.name_byte.ensures c.in_default.is) refl refl
