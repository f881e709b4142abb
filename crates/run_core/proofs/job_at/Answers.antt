-- `run_core::job_at` meets its contract.
use Rattle.run_core.proofs.Table.{jobs_low, job_numbers_law}
use borrow.Author.Rules.{rules}
use Rattle.run_core.proofs.job_at.Goals as goal

pub overflow_mul-result : goal.overflow_mul-result
overflow_mul-result c = let b = jobs_low _ _ c.requires in search rules

pub offset_bounds-c-i : goal.offset_bounds-c-i
offset_bounds-c-i c = let b = jobs_low _ _ c.requires in search rules

pub bounds-c-i : goal.bounds-c-i
bounds-c-i c = let b = jobs_low _ _ c.requires in search rules

pub overflow_mul-result-2 : goal.overflow_mul-result-2
overflow_mul-result-2 c = let b = jobs_low _ _ c.requires in search rules

pub overflow_add-result : goal.overflow_add-result
overflow_add-result c = let b = jobs_low _ _ c.requires in search rules

pub offset_bounds-c-i-2 : goal.offset_bounds-c-i-2
offset_bounds-c-i-2 c = let b = jobs_low _ _ c.requires in search rules

pub bounds-c-i-2 : goal.bounds-c-i-2
bounds-c-i-2 c = let b = jobs_low _ _ c.requires in search rules

pub overflow_mul-result-3 : goal.overflow_mul-result-3
overflow_mul-result-3 c = let b = jobs_low _ _ c.requires in search rules

pub overflow_add-result-2 : goal.overflow_add-result-2
overflow_add-result-2 c = let b = jobs_low _ _ c.requires in search rules

pub offset_bounds-c-i-3 : goal.offset_bounds-c-i-3
offset_bounds-c-i-3 c = let b = jobs_low _ _ c.requires in search rules

pub bounds-c-i-3 : goal.bounds-c-i-3
bounds-c-i-3 c = let b = jobs_low _ _ c.requires in search rules

pub returns : goal.returns
returns c = job_numbers_law _ _ c.requires
