-- What the path of a line that opens a file opens: one law for each answer.
use Rattle.std.specs.Prelude.{Option, Some, None, Ok, Err}
use Prim.Native.Nat.{ℕ, ◌+◌, ◌≤◌, ◌<◌}
use mathlib.Core.Bool.{true, false, not, ◌||◌}
use mathlib.Core.List.{List}
use mathlib.Core.Path.{◌≡◌, sym, ◌∙◌, ap, subst}
use native.Mathlib.Omega.{arith}
use borrow.Author.Tests.{le-ltb, le-leb, lt-leb, ltb-false}
use lib.Dec.{leb, ltb}
use lib.ListN.{length, take}
use Rattle.lists.specs.Tests.{or_left, or_right, or_false}
use Rattle.spec.specs.declared.Refusal.TheVariants.{BadPath, OverLimit, BadOpen}
use Rattle.spec.specs.Basics.{is_empty, among}
use Rattle.spec.specs.Limits.{max_files, max_bindings, max_mentions, max_path, max_written, max_opened}
use Rattle.spec.specs.Dollars.{expand}
use Rattle.spec.specs.Reading.{Variables, Reading, file_var, number_of}
use Rattle.spec.specs.Statements.{Block, longer_than, over_counts}
use Rattle.spec.specs.Manifest.{with_opened, entered, open_path}
use Rattle.spec.proofs.Numbers.{number_below}
use Rattle.scan_bundle.specs.Bundles.{found_record}
use Rattle.scan_bundle.proofs.Laws.{found_at, found_none}
use Rattle.hold_bindings.specs.Log.{Logged}
use Rattle.hold_bindings.specs.Held.{HoldsBindings}
use Rattle.expand_parts.specs.Runs.{expanded_by}
use Rattle.expand_parts.proofs.Expansions.{expanded_vars}
use Rattle.expand_dollars.specs.Written.{Written}
use Rattle.expand_dollars.proofs.Callers.{written_long, written_whole}
use Rattle.hold_reading.specs.declared.Counts.{Counts}
use Rattle.hold_reading.specs.declared.Open.TheVariants.{Nothing}
use Rattle.hold_reading.specs.Binds.{Known}
use Rattle.hold_reading.proofs.Lift.{joined_none, none_bound}
use Rattle.apply_path_checks.proofs.Makers.{no_byte, some_byte}
use Rattle.apply_files.proofs.Limits.{or_on}
use Rattle.apply_open.specs.Opens.{open_over, OpenAsks, OpensAs, OpensPath}

-- ---- limits

pub open_short : (n : ℕ) (c : Counts) → open_over n c ≡ false → n ≤ max_path
unfolding open_over
open_short n c h = ltb-false max_path n (or_left (ltb max_path n) (ltb max_written (c.written + n)) h)

open_low : (n : ℕ) (c : Counts) → open_over n c ≡ false → c.written + n ≤ max_written
unfolding open_over
open_low n c h = ltb-false max_written (c.written + n) (or_right (ltb max_path n) (ltb max_written (c.written + n)) h)

-- of the counts it is the bytes together that a file more can take past a limit
module _ {log : List Logged} {texts bind : List ℕ} {c : Counts} (rd : Reading) {b : Block} (w : Known log texts bind c rd b Nothing) where
  counts_after : (n : ℕ) (vs : Variables) → over_counts (with_opened n vs rd) ≡ ltb max_written (rd.written + n)
  unfolding over_counts with_opened
  counts_after n vs =
      let d = none_bound w in
      let f : length rd.files ≤ max_files = rw (joined_none rd w.opens) at w.few_files in
      let m : rd.mentions ≤ max_mentions = rw (joined_none rd w.opens) at w.few_mentions in
      rw (le-ltb max_files (length rd.files) f, le-ltb max_bindings rd.bindings (omega (arith, d.bindings_counted, d.few_bindings)), le-ltb max_mentions rd.mentions m)

  over_is : (p : List ℕ) (vs : Variables) → longer_than max_path p || over_counts (with_opened (length p) vs rd) ≡ open_over (length p) c
  unfolding longer_than open_over
  over_is p vs = rw (counts_after (length p) vs, (none_bound w).written_counted)

-- ---- by the answer

-- n bytes of the path are in the word buffer, as far as they fit
module _ (names : List (List ℕ)) (start : ℕ) (raw : List ℕ) {texts bind word word' : List ℕ} {c : Counts} {n : ℕ}
    (x : (log : List Logged) → HoldsBindings log texts bind c.entries → Written word (expanded_by log raw) word' n) where
  module _ {log : List Logged} (rd : Reading) {b : Block} (w : Known log texts bind c rd b Nothing) where
    abbrev path : List ℕ
    path = expand (file_var rd.vars) raw

    path_is : path ≡ expanded_by log raw
    path_is = expanded_vars log rd.vars raw (none_bound w).vars

    path_long : length path ≡ n
    path_long = ap length path_is ∙ sym (x log (none_bound w).held).count

    word_is : n ≤ length word → take n word' ≡ path
    word_is l = written_whole (x log (none_bound w).held) l ∙ sym path_is

    over_path : (vs : Variables) → longer_than max_path path || over_counts (with_opened (length path) vs rd) ≡ open_over n c
    over_path vs = over_is rd w path vs ∙ ap (λ (k : ℕ). open_over k c) path_long

  pub opens_empty : n ≡ 0 → OpensPath names texts bind c raw start (Err (BadPath start))
  unfolding OpensAs open_path
  opens_empty e = record { answer = λ log rd b w reads sub. rw (no_byte (path rd w) (path_long rd w ∙ e)) }

  module _ (some : n ≡ 0 → ⊥) where
    filled : {log : List Logged} (rd : Reading) {b : Block} (w : Known log texts bind c rd b Nothing) → is_empty (path rd w) ≡ false
    filled rd w = some_byte (path rd w) (λ e. some (sym (path_long rd w) ∙ e))

    pub opens_over : open_over n c ≡ true → OpensPath names texts bind c raw start (Err (OverLimit start))
    unfolding OpensAs open_path
    opens_over o = record { answer = λ log rd b w reads sub. rw (filled rd w, over_path rd w (entered sub rd.vars) ∙ o) }

    module _ (o : open_over n c ≡ false) where
      pub opens_many : max_opened ≤ c.opened → OpensPath names texts bind c raw start (Err (BadOpen start))
      unfolding OpensAs open_path
      opens_many h =
          record {
            answer = λ log rd b w reads sub.
                let many : not (among (path rd w) names) || leb max_opened rd.opened ≡ true =
                or_on (not (among (path rd w) names)) (leb max_opened rd.opened) (le-leb max_opened rd.opened (omega (arith, (none_bound w).opened_counted))) in
                rw (filled rd w, over_path rd w (entered sub rd.vars) ∙ o, many);
          }

      -- r is what was found of the path
      module _ (l : n ≤ length word) {r : Option ℕ} (q : r ≡ found_record (take n word') names) where
        pub opens_missing : r ≡ None → OpensPath names texts bind c raw start (Err (BadOpen start))
        unfolding OpensAs open_path
        opens_missing e =
            record {
              answer = λ log rd b w reads sub.
                  let none : among (path rd w) names ≡ false = subst (λ (z : List ℕ). among z names ≡ false) (word_is rd w l) (found_none (take n word') names q e) in
                  rw (filled rd w, over_path rd w (entered sub rd.vars) ∙ o, none);
            }

        pub opens_found : {k : ℕ} → r ≡ Some k → c.opened < max_opened → OpensPath names texts bind c raw start (Ok (k, n))
        unfolding OpensAs open_path
        opens_found {k} e f =
            record {
              answer = λ log rd b w.
                  let d = none_bound w in
                  let here = found_at (take n word') names q e in
                  let a : among (path rd w) names ≡ true = subst (λ (z : List ℕ). among z names ≡ true) (word_is rd w l) here.0 in
                  let i : k ≡ number_of (path rd w) names = subst (λ (z : List ℕ). k ≡ number_of z names) (word_is rd w l) here.1 in
                  let m : not (among (path rd w) names) || leb max_opened rd.opened ≡ false =
                  or_false (not (among (path rd w) names)) (leb max_opened rd.opened) (ap not a) (lt-leb max_opened rd.opened (omega (arith, d.opened_counted, f))) in
                  record {
                    number = i;
                    below = rw i (number_below (path rd w) names a);
                    long = sym (path_long rd w);
                    few = omega (arith, d.opened_counted, f);
                    low = omega (arith, d.written_counted, open_low n c o);
                    path = λ reads sub. rw (filled rd w, over_path rd w (entered sub rd.vars) ∙ o, m, i, path_long rd w);
                  };
            }

-- ---- for the code

module _ (raw : List ℕ) {t b texts bind word word' : List ℕ} {c : Counts} {n : ℕ} (a : OpenAsks t b raw texts bind word c)
    (x : (log : List Logged) → HoldsBindings log texts bind c.entries → Written word (expanded_by log raw) word' n) where
  -- a path within its limit is whole in the word buffer
  pub path_fits : open_over n c ≡ false → n ≤ length word
  path_fits o = omega (arith, open_short n c o, a.room)

  pub path_kept : open_over n c ≡ false → n ≤ length word'
  path_kept o = omega (arith, path_fits o, written_long (x a.sound.log (none_bound a.sound.known).held))

  pub path_counted : open_over n c ≡ false → length (take n word') ≡ n
  path_counted o =
      let k = x a.sound.log (none_bound a.sound.known).held in
      ap length (written_whole k (path_fits o)) ∙ sym k.count
