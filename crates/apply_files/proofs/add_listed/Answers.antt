-- `apply_files::add_listed` meets its contract.
-- the path that was found within the limits
use borrow.Author.Rules.{rules}
use native.Mathlib.Omega.{arith}
use lib.ListN.{length}
use Rattle.apply_files.proofs.Columns.{graph_long}
use Rattle.apply_files.proofs.Limits.{Within, path_within}
use Rattle.apply_files.proofs.Adding.{mentions_short, path_old, path_new, path_full, old_low, new_low}
use Rattle.apply_files.proofs.add_listed.Goals as goal

pub note_again-requires : goal.note_again-requires
note_again-requires c =
    let within : Within (length c.args.name.now) c.args.c = path_within _ _ c.requires.within in
    let w = c.requires.writing in
    let l = within in
    (old_low c.add_listed_name.ensures l w c.in-Old.is, omega (arith, w.paths_counted, mentions_short w c.args.name.now l), l.few, l.low, graph_long w.columns)

pub note_first-requires : goal.note_first-requires
note_first-requires c =
    let within : Within (length c.args.name.now) c.args.c = path_within _ _ c.requires.within in
    let w = c.requires.writing in
    let l = within in
    let n = new_low c.add_listed_name.ensures l w c.in-New.is in
    (n.0, n.1, omega (arith, w.paths_counted, mentions_short w c.args.name.now l), l.few, l.low, graph_long w.columns)

pub returns-in-Old : goal.returns-in-Old
returns-in-Old c = let within : Within (length c.args.name.now) c.args.c = path_within _ _ c.requires.within in
    record { space = search rules; promise = record { adds = λ texts bind h w. path_old c.add_listed_name.ensures (within) w c.in-Old.is c.note_again.ensures } }

pub returns-in-New : goal.returns-in-New
returns-in-New c = let within : Within (length c.args.name.now) c.args.c = path_within _ _ c.requires.within in
    record { space = search rules; promise = record { adds = λ texts bind h w. path_new c.add_listed_name.ensures (within) w c.in-New.is c.note_first.ensures } }

pub returns-in-Full : goal.returns-in-Full
returns-in-Full c = let within : Within (length c.args.name.now) c.args.c = path_within _ _ c.requires.within in
    record { space = search rules; promise = record { adds = λ texts bind h w. path_full c.add_listed_name.ensures (within) w c.requires.names_long c.in-Full.is } }
