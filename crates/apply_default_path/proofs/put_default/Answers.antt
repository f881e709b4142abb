-- `apply_default_path::put_default` meets its contract.
-- the path is within the limits
use native.Mathlib.Omega.{arith}
use lib.ListN.{length}
use Rattle.apply_path_checks.proofs.Makers.{entry_low}
use Rattle.apply_files.proofs.Limits.{Within, path_within}
use Rattle.apply_default_path.proofs.Growing.{default_room}
use Rattle.apply_default_path.proofs.Putting.{put_found, put_missing}
use Rattle.apply_default_path.proofs.put_default.Goals as goal

pub overflow_add-c : goal.overflow_add-c
overflow_add-c c = let limits : Within (length c.args.path.now) c.args.c = path_within (length c.args.path.now) c.args.c c.requires.within in
    omega (arith, default_room c.requires.files.filed.graphed (limits).few)

pub put-requires : goal.put-requires
put-requires c =
    let limits : Within (length c.args.path.now) c.args.c = path_within (length c.args.path.now) c.args.c c.requires.within in
    (default_room c.requires.files.filed.graphed (limits).few, omega (arith, entry_low c.requires.files.filed c.find_name.ensures c.in-Some.is))

pub overflow_add-result : goal.overflow_add-result
overflow_add-result c = let limits : Within (length c.args.path.now) c.args.c = path_within (length c.args.path.now) c.args.c c.requires.within in
    omega (arith, (limits).few, c.requires.files.filed.graphed.few_mentions)

pub overflow_add-result-2 : goal.overflow_add-result-2
overflow_add-result-2 c = let limits : Within (length c.args.path.now) c.args.c = path_within (length c.args.path.now) c.args.c c.requires.within in
    omega (arith, (limits).few)

pub overflow_add-result-3 : goal.overflow_add-result-3
overflow_add-result-3 c = let limits : Within (length c.args.path.now) c.args.c = path_within (length c.args.path.now) c.args.c c.requires.within in
    omega (arith, (limits).low)

pub returns : goal.returns
returns c = rw c.put.ensures (put_found c.find_name.ensures c.in-Some.is c.requires.within)

pub returns-in_default : goal.returns-in_default
returns-in_default c = put_missing c.find_name.ensures c.in_default.is
