-- `scan_bundle::has_sound_extents` meets its contract: the names end to end, then the texts.
use native.Mathlib.Omega.{arith}
use Rattle.scan_bundle.proofs.Checking.{names_broken, names_small, texts_broken, texts_done}
use Rattle.scan_bundle.proofs.has_sound_extents.Goals as goal

pub end_of-requires-2 : goal.end_of-requires-2
end_of-requires-2 c = record { run_asks = c.requires.0; first_bound = (omega arith, names_small _ c.requires.0 c.end_of.ensures c.in-Some.is) }

pub returns-in_default : goal.returns-in_default
returns-in_default c = names_broken _ c.requires.0 c.end_of.ensures c.in_default.is

pub returns-in_default-end_of : goal.returns-in_default-end_of
returns-in_default-end_of c = texts_broken _ c.requires.0 c.end_of.ensures c.in-Some.is c.requires.1 c.end_of-2.ensures c.in_default-end_of.is

pub returns : goal.returns
returns c = texts_done _ c.requires.0 c.end_of.ensures c.in-Some.is c.requires.1 c.end_of-2.ensures c.in-Some-end_of.is
