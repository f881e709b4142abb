-- `report::ask_texts` meets its contract.
use Rattle.report.proofs.Texts.{asked}
use Rattle.report.proofs.ask_texts.Goals as goal

pub returns : goal.returns
returns c =
    let a = c.args in
    asked a.bundle.now a.steps.now a.bytes.now a.ends.now _ _ c.requires _ _ c.map_err.ensures.cases c.texts.auto.ends c.texts.ensures
