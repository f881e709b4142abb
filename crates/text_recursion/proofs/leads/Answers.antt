-- `text_recursion::leads` meets its contract.
use Prim.Native.Nat.{ℕ}
use mathlib.Core.Path.{◌≡◌}
use native.Mathlib.Omega.{arith}
use Rattle.text_lookup.proofs.Standing.{text_ready}
use Rattle.text_recursion.specs.Depth.{marks}
use Rattle.text_recursion.proofs.Referring.{leads_text, leads_not}
use Rattle.text_recursion.proofs.leads.Goals as goal

pub value-requires : goal.value-requires
value-requires c = (c.lookup.ensures.text _ c.in-Text.is).entry

pub refers-requires : goal.refers-requires
refers-requires c = text_ready c.args.name.now c.lookup.ensures c.requires.table c.requires.within c.in-Text.is c.value.ensures

pub returns-in-Text : goal.returns-in-Text
returns-in-Text c = leads_text c.args.name.now c.lookup.ensures (marks c.args.d) c.in-Text.is c.value.ensures c.refers.ensures

pub returns-in-Inputs : goal.returns-in-Inputs
returns-in-Inputs c = leads_not c.args.name.now c.lookup.ensures (marks c.args.d) c.in-Inputs.is (λ k e. let z : ◌≡◌ {A = ℕ} 0 1 = cc in omega arith)

pub returns-in-InputLines : goal.returns-in-InputLines
returns-in-InputLines c = leads_not c.args.name.now c.lookup.ensures (marks c.args.d) c.in-InputLines.is (λ k e. let z : ◌≡◌ {A = ℕ} 0 1 = cc in omega arith)

pub returns-in-Outputs : goal.returns-in-Outputs
returns-in-Outputs c = leads_not c.args.name.now c.lookup.ensures (marks c.args.d) c.in-Outputs.is (λ k e. let z : ◌≡◌ {A = ℕ} 0 1 = cc in omega arith)

pub returns-in-Value : goal.returns-in-Value
returns-in-Value c = leads_not c.args.name.now c.lookup.ensures (marks c.args.d) c.in-Value.is (λ k e. let z : ◌≡◌ {A = ℕ} 0 1 = cc in omega arith)

pub returns-in-Unset : goal.returns-in-Unset
returns-in-Unset c = leads_not c.args.name.now c.lookup.ensures (marks c.args.d) c.in-Unset.is (λ k e. let z : ◌≡◌ {A = ℕ} 0 1 = cc in omega arith)
