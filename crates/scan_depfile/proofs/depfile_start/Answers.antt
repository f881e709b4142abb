-- `scan_depfile::depfile_start` meets its contract.
use Rattle.scan_depfile.specs.Answers.{TargetHere, StartsList}
use Rattle.scan_depfile.proofs.Told.{target_here, target_other}
use Rattle.scan_depfile.proofs.Listing.{start_empty, start_other, start_on}
use Rattle.scan_depfile.proofs.depfile_start.Goals as goal

pub returns-then-out-eq0 : goal.returns-then-out-eq0
unfolding StartsList
returns-then-out-eq0 c = start_empty c.args.s.now c.args.out.now c.if-out-eq0.true

pub returns : goal.returns
returns c = start_on c.args.out.now c.skip_blank.ensures c.behind_colon.result (target_here _ _ _ _ c.target_is.ensures c.in_ok-i.was) c.if-out-eq0.false c.behind_colon.ensures

pub returns-in_err-i : goal.returns-in_err-i
unfolding StartsList
returns-in_err-i c = rw c.from_residual.ensures (start_other c.args.out.now c.skip_blank.ensures (target_other _ _ _ _ c.target_is.ensures c.in_err-i.was))

pub behind_colon-requires : goal.behind_colon-requires
behind_colon-requires c = let t : TargetHere _ _ _ _ = (target_here _ _ _ _ c.target_is.ensures c.in_ok-i.was) in t.reads.within
