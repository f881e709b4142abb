-- Every limit of document 01, once; that of the numbers of a version is `inRange` of the crate version.
use Rattle.std.specs.Prelude.{ℕ, ◌+◌}

-- "Limits: 512 steps, 1,024 files, 128 rules, 1,024 bindings, 4,096 path mentions; declared names 64 bytes, paths 255, values 2,048;
-- all paths and values read so far 60,000 bytes together."
abbrev pub max_steps : ℕ
max_steps = 512

abbrev pub max_files : ℕ
max_files = 1024

abbrev pub max_rules : ℕ
max_rules = 128

abbrev pub max_bindings : ℕ
max_bindings = 1024

abbrev pub max_mentions : ℕ
max_mentions = 4096

abbrev pub max_name : ℕ
max_name = 64

abbrev pub max_path : ℕ
max_path = 255

abbrev pub max_value : ℕ
max_value = 2048

abbrev pub max_written : ℕ
max_written = 60000

-- "manifest over 49,152 bytes"
abbrev pub max_manifest : ℕ
max_manifest = 49152

-- [1] "a lent bundle .. 1 to 64 records"
abbrev pub max_bundle : ℕ
max_bundle = 64

-- [1] "At most eight files are open and 64 opened in all, the top one counted"
abbrev pub max_open : ℕ
max_open = 8

-- [1] and in all
abbrev pub max_opened : ℕ
max_opened = 64

-- [4] "read the make-style texts .., lent in such a bundle, 0 to 512 by path"
abbrev pub max_headers : ℕ
max_headers = 512

-- the highest place in texts of so many bytes together, 64 of them at most, laid end to end with one place between two
abbrev pub max_place : ℕ
max_place = max_manifest + 63

-- "n is at most 1,024, the card at most 49,152 bytes", "time 1 to 2^63 - 1"
abbrev pub max_records : ℕ
max_records = 1024

abbrev pub max_card : ℕ
max_card = 49152

abbrev pub max_time : ℕ
max_time = 0x7fff_ffff_ffff_ffff

-- "A target list is .. at most 4,096 bytes"
abbrev pub max_targets : ℕ
max_targets = 4096

-- "a lent buffer is below 512 numbers (list) or 8,192 bytes (text)", "expanded text over 8,192 bytes"
abbrev pub least_list : ℕ
least_list = 512

abbrev pub max_text : ℕ
max_text = 8192
