-- One path more: what is held of it, by the answer of the table of names.
use Rattle.std.specs.Prelude.{Some, None}
use Prim.Native.Nat.{ℕ, ◌+◌, ◌≤◌, ◌<◌}
use mathlib.Core.Bool.{true, false}
use mathlib.Core.List.{List, [], ◌∷◌, ◌++◌}
use mathlib.Core.Path.{◌≡◌, sym, ◌∙◌, ap}
use native.Mathlib.Omega.{arith}
use lib.ListN.{length, length-append}
use Rattle.lists.specs.Tests.{split}
use Rattle.spec.specs.Basics.{among, concat, sum}
use Rattle.spec.specs.Limits.{max_files, max_mentions, max_written}
use Rattle.spec.specs.Reading.{number_of, mention}
use Rattle.spec.specs.Statements.{mentioned}
use Rattle.hold_names.specs.declared.Added.{Added}
use Rattle.hold_names.specs.declared.Added.TheVariants.{Old, New, Full}
use Rattle.hold_names.specs.Table.{AddsName}
use Rattle.spec.proofs.Numbers.{mention_none, mention_old, mention_new}
use Rattle.hold_names.proofs.Laws as named
use Rattle.hold_names.proofs.Laws.{after_old, after_new, after_full}
use Rattle.hold_reading.specs.declared.Counts.{Counts}
use Rattle.hold_reading.specs.Held.{HoldsBound}
use Rattle.apply_files.specs.Lines.{LineHeld, Columns, Writing, made_with, with_mention, with_paths, AddedPaths, on, over}
use Rattle.apply_files.specs.Path.{counted_path, Again, First}
use Rattle.apply_files.proofs.Columns.{push_mention, push_made}
use Rattle.apply_files.proofs.Limits.{Within, line_files, path_short}
use Rattle.hold_reading.specs.Buffers.{Buffers, buffers, with_files}

-- ---- the names after a mention

concat_snoc : (files : List (List ℕ)) (p : List ℕ) → length (concat (files ++ (p ∷ []))) ≡ length (concat files) + length p
unfolding concat
concat_snoc [] p = omega (arith, length-append p [])
concat_snoc (f ∷ l) p = omega (arith, length-append f (concat l), length-append f (concat (l ++ (p ∷ []))), concat_snoc l p)

concat_mention : (files : List (List ℕ)) (p : List ℕ) → length (concat (mention files (p ∷ []))) ≤ length (concat files) + length p
concat_mention files p =
    split (among p files)
    (λ (e : among p files ≡ true). rw (mention_old files p [] e ∙ mention_none files) (omega arith))
    (λ (e : among p files ≡ false). rw (mention_new files p [] e ∙ mention_none (files ++ (p ∷ [])), concat_snoc files p) (omega arith))

-- A path that was there leaves the makers as they are, and one that was not has none.
made_old : (p : List ℕ) (files : List (List ℕ)) (made : List ℕ) → length (mention files (p ∷ [])) ≡ length files → made_with p files made ≡ made
unfolding made_with
made_old p files made h =
    split (among p files)
    (λ (e : among p files ≡ true). rw e)
    (λ (e : among p files ≡ false).
    absurd (omega (arith, h, ap length (mention_new files p [] e ∙ mention_none (files ++ (p ∷ []))), length-append files (p ∷ []))))

made_new : (p : List ℕ) (files : List (List ℕ)) (made : List ℕ) → length (mention files (p ∷ [])) ≡ length files + 1 → made_with p files made ≡ made ++ (0 ∷ [])
unfolding made_with
made_new p files made h =
    split (among p files)
    (λ (e : among p files ≡ true). absurd (omega (arith, h, ap length (mention_old files p [] e ∙ mention_none files))))
    (λ (e : among p files ≡ false). rw e)

-- ---- what is held then

module _ {bs : Buffers} {c : Counts} {h : LineHeld} (w : Writing bs c h) (p : List ℕ) (l : Within (length p) c) where
  bound_path : (files : ℕ) → HoldsBound h.log bs.texts bs.bind (counted_path files (length p) c) (mentioned (p ∷ []) h.reading)
  unfolding mentioned sum
  bound_path files =
      let b = w.bound in
      record {
        held = b.held;
        vars = b.vars;
        rules = b.rules;
        blocks = b.blocks;
        scoped = b.scoped;
        owned = b.owned;
        steps_counted = b.steps_counted;
        rules_counted = b.rules_counted;
        bindings_counted = b.bindings_counted;
        written_counted = omega (arith, b.written_counted);
        opened_counted = b.opened_counted;
        few_scopes = b.few_scopes;
        entries_counted = b.entries_counted;
        few_rules = b.few_rules;
        few_bindings = b.few_bindings;
        few_steps = b.few_steps;
        few_written = l.low;
        few_opened = b.few_opened;
        shared = omega (arith, b.shared, concat_mention h.reading.files p);
      }

  path_held : {names' index' graph' : List ℕ} {files k : ℕ} → named.Mentioned h.reading.files p k names' index' files
      → Columns graph' (h.mentions ++ (k ∷ [])) h.ends h.phony (made_with p h.reading.files h.made) h.rule_of h.reading.defaults
      → length (made_with p h.reading.files h.made) ≡ files
      → Writing (with_files bs names' index' graph') (counted_path files (length p) c) (with_mention p h)
  unfolding with_mention mentioned
  path_held {files = files} m q f =
      record {
        named = m.holds;
        bound = bound_path files;
        columns = rw (← m.number) q;
        filed = f ∙ m.holds.counted;
        paths_counted = omega (arith, w.paths_counted, length-append h.mentions (number_of p (mention h.reading.files (p ∷ [])) ∷ []));
        defaults_counted = w.defaults_counted;
        mentions_counted = omega (arith, w.mentions_counted);
        few_mentions = omega (arith, w.few_mentions);
        mentions_low = omega (arith, l.few);
      }

  pub mentions_short : length h.mentions < max_mentions
  mentions_short = omega (arith, w.paths_counted, w.few_mentions, l.few)

-- ---- by the answer

module _ {names index graph path names' index' : List ℕ} {c : Counts} {r : Added} (a : AddsName names index c.files path names' index' r) (l : Within (length path) c)
    {texts bind : List ℕ} {h : LineHeld} (w : Writing (buffers names index texts bind graph) c h) where
  pub path_old : {k : ℕ} {graph' : List ℕ} {d : Counts} → r ≡ Old k → Again graph c k (length path) graph' d → AddedPaths (buffers names' index' texts bind graph') h (path ∷ []) (Some d)
  unfolding with_paths
  path_old {k} e g =
      let m = after_old a w.named e in
      let z = made_old path h.reading.files h.made (sym m.holds.counted ∙ w.named.counted) in
      rw (g.stored, g.counted)
      (on (path_held w path l m (rw z (push_mention w.columns k c.paths w.paths_counted (mentions_short w path l))) (rw z (w.filed ∙ sym w.named.counted))) (path_short path l))

  pub path_new : {k : ℕ} {graph' : List ℕ} {d : Counts} → r ≡ New k → First graph c k (length path) graph' d → AddedPaths (buffers names' index' texts bind graph') h (path ∷ []) (Some d)
  unfolding with_paths
  path_new {k} e g =
      let m = after_new a w.named e in
      let n : length (mention h.reading.files (path ∷ [])) ≡ length h.reading.files + 1 = omega (arith, m.holds.counted, w.named.counted) in
      let z = made_new path h.reading.files h.made n in
      rw (g.stored, g.counted)
      (on
      (path_held w path l m
      (rw z (push_made (push_mention w.columns k c.paths w.paths_counted (mentions_short w path l)) 0 _ (omega (arith, w.filed, w.named.counted)) (omega (arith, w.filed, w.named.counted, m.holds.few))))
      (rw z (omega (arith, length-append h.made (0 ∷ []), w.filed, w.named.counted))))
      (path_short path l))

  pub path_full : max_written ≤ length names → r ≡ Full → {graph' : List ℕ} → AddedPaths (buffers names' index' texts bind graph') h (path ∷ []) None
  path_full n e =
      let x = after_full a w.named e (omega (arith, w.bound.shared, l.low)) in
      over (line_files path h.reading x.0 x.1)

  -- the number is low, for the store
  pub old_low : {k : ℕ} → r ≡ Old k → k < max_files
  old_low e = let m = after_old a w.named e in omega (arith, m.below, m.holds.few)

  pub new_low : {k : ℕ} → r ≡ New k → (k < max_files) × (c.files < max_files)
  new_low e = let m = after_new a w.named e in (omega (arith, m.below, m.holds.few), omega (arith, m.holds.few))
