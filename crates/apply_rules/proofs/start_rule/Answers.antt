-- `apply_rules::start_rule` meets its contract.
use borrow.Author.Rules.{rules}
use Rattle.apply_rules.proofs.Outcomes.{start_room, start_twice, start_long, start_many, start_goes}
use Rattle.apply_rules.proofs.start_rule.Goals as goal

pub returns-then-is_declared : goal.returns-then-is_declared
returns-then-is_declared c = record { space = search rules; promise = let a = c.args in start_twice a.start a.name.now c.is_declared.ensures c.if-is_declared.true }

pub returns-then-name-gt-NAME : goal.returns-then-name-gt-NAME
returns-then-name-gt-NAME c = record { space = search rules; promise = let a = c.args in start_long a.start a.name.now c.is_declared.ensures c.if-is_declared.false c.if-name-gt-NAME.true }

pub returns-then-c-ge-RULES : goal.returns-then-c-ge-RULES
returns-then-c-ge-RULES c = record { space = search rules; promise = let a = c.args in start_many a.start a.name.now c.is_declared.ensures c.if-is_declared.false c.if-name-gt-NAME.false c.if-c-ge-RULES.true }

pub push-requires : goal.push-requires
push-requires c = start_room c.requires c.args.name.now c.if-name-gt-NAME.false c.if-c-ge-RULES.false

pub returns : goal.returns
returns c = record {
  space = search rules;
  promise = let a = c.args in
      start_goes a.start a.name.now c.is_declared.ensures c.if-is_declared.false c.if-name-gt-NAME.false c.if-c-ge-RULES.false c.push.ensures;
}
