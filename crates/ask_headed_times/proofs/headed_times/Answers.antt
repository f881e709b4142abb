-- `ask_headed_times::headed_times` meets its contract.
use Rattle.ask_headed_times.proofs.Judging.{headed}
use Rattle.ask_headed_times.proofs.headed_times.Goals as goal

pub returns : goal.returns
returns c = headed c.requires c.fill_times.ensures c.judge_times.ensures
