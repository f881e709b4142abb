-- `test_manifest::is_roomy` meets its contract.
use Rattle.test_manifest.proofs.Judging.{few_names, many_names, few_numbers, few_texts, few_rows, few_columns, short_word, has_room}
use Rattle.test_manifest.proofs.is_roomy.Goals as goal

pub returns-then-names-lt-WRITTEN : goal.returns-then-names-lt-WRITTEN
returns-then-names-lt-WRITTEN c = few_names c.if-names-lt-WRITTEN.true

pub returns-then-names-gt4294967295 : goal.returns-then-names-gt4294967295
returns-then-names-gt4294967295 c = many_names c.if-names-gt4294967295.true

pub returns-then-index-lt-NUMBERS : goal.returns-then-index-lt-NUMBERS
returns-then-index-lt-NUMBERS c = few_numbers c.if-index-lt-NUMBERS.true

pub returns-then-texts-lt-TEXTS : goal.returns-then-texts-lt-TEXTS
returns-then-texts-lt-TEXTS c = few_texts c.if-texts-lt-TEXTS.true

pub returns-then-bind-lt-ROWS : goal.returns-then-bind-lt-ROWS
returns-then-bind-lt-ROWS c = few_rows c.if-bind-lt-ROWS.true

pub returns-then-graph-lt-COLUMNS_ROOM : goal.returns-then-graph-lt-COLUMNS_ROOM
returns-then-graph-lt-COLUMNS_ROOM c = few_columns c.if-graph-lt-COLUMNS_ROOM.true

pub returns-then-word-lt-VALUE : goal.returns-then-word-lt-VALUE
returns-then-word-lt-VALUE c = short_word c.if-word-lt-VALUE.true

pub returns : goal.returns
returns c = has_room c.if-names-lt-WRITTEN.false c.if-names-gt4294967295.false c.if-index-lt-NUMBERS.false c.if-texts-lt-TEXTS.false c.if-bind-lt-ROWS.false c.if-graph-lt-COLUMNS_ROOM.false c.if-word-lt-VALUE.false
