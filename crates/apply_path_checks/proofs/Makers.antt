-- A path is made where its file's entry among the makers is not 0.
use Rattle.std.specs.Prelude.{Option, Some, None}
use Prim.Native.Nat.{ℕ, zero, suc, ◌+◌, ◌≤◌, ◌<◌}
use mathlib.Core.Bool.{Bool, true, false, not}
use mathlib.Core.List.{List, [], ◌∷◌}
use mathlib.Core.Path.{◌≡◌, refl, sym, ◌∙◌, ap}
use native.Mathlib.Omega.{arith}
use borrow.Author.Tests.{ne_eqb}
use lib.Dec.{eqb}
use lib.ListN.{length, get_or, take, get_or-eq_default}
use Rattle.lists.specs.Tests.{split, differ}
use Rattle.lists.specs.Members.{any, has}
use Rattle.spec.specs.Basics.{is_empty, among}
use Rattle.spec.specs.Limits.{max_files, max_path}
use Rattle.spec.specs.Reading.{Step, Reading, number_of, is_output, is_made}
use Rattle.spec.specs.Graph.{makers, makers_from}
use Rattle.arena.proofs.Laws.{lies_column, lies_read}
use Rattle.hold_names.specs.Table.{FindsName}
use Rattle.spec.proofs.Numbers.{number_missing}
use Rattle.hold_names.proofs.Laws.{find_at, find_missing}
use Rattle.hold_columns.specs.Columns.{made_by, maker_in}
use Rattle.hold_columns.proofs.Held.{held_makers}
use Rattle.hold_bindings.specs.Log.{Logged}
use Rattle.hold_bindings.specs.Held.{HoldsBindings}
use Rattle.expand_parts.specs.Runs.{expanded_by}
use Rattle.expand_dollars.specs.Written.{Written}
use Rattle.expand_dollars.proofs.Callers.{written_long, written_whole}
use Rattle.hold_reading.specs.declared.Counts.{Counts}
use Rattle.hold_reading.specs.Held.{capacities, Graphed, HoldsReading}
use Rattle.hold_reading.specs.Adds.{Whole}
use Rattle.hold_reading.proofs.Short.{among_short}
use Rattle.apply_path_checks.specs.declared.PathKind.{PathKind}
use Rattle.apply_path_checks.specs.declared.PathKind.TheVariants.{Input, Output, Default}
use Rattle.apply_path_checks.specs.Checks.{path_of, wrong_path, Filed, FilesKnown, IsMade, MadeAsks, RawAsks}
use Rattle.apply_path_checks.proofs.Wrong.{path_held}
use Rattle.hold_reading.specs.Buffers.{Buffers, buffers}

-- ---- makers

made_from : (k : ℕ) (steps : List Step) (f : ℕ) → is_output f steps ≡ not (is_empty (makers_from k steps f))
unfolding is_output any makers_from
made_from k [] f = refl
made_from k (s ∷ l) f =
    split (has f s.outs)
    (λ (e : has f s.outs ≡ true). rw e)
    (λ (e : has f s.outs ≡ false). rw e (made_from (suc k) l f))

entry_made : (n : ℕ) → not (is_empty (made_by n)) ≡ not (eqb n 0)
unfolding made_by
entry_made zero = refl
entry_made (suc n) = sym (ap not (ne_eqb (suc n) 0 (λ e. omega arith)))

-- the entry of the file with this number
output_entry : {log : List Logged} {graph : List ℕ} {c : Counts} {rd : Reading} (g : Graphed log graph c rd) (f : ℕ) → is_output f rd.steps ≡ not (eqb (get_or g.made f 0) 0)
unfolding makers maker_in
output_entry {rd = rd} g f =
    made_from 0 rd.steps f
    ∙ ap (λ (h : ℕ → List ℕ). not (is_empty (h f))) (sym (held_makers g.tables))
    ∙ entry_made (get_or g.made f 0)

-- ---- the search among the names

module _ {log : List Logged} {names index graph : List ℕ} {c : Counts} {rd : Reading} (h : Filed log names index graph c rd) {path : List ℕ} {r : Option ℕ}
    (f : FindsName names index c.files path r) where
  module _ {k : ℕ} (e : r ≡ Some k) where
    pub entry_low : k < max_files
    entry_low = let (a, q, b) = find_at f h.named e in omega (arith, h.named.few)

    pub entry_within : 6656 + k < length graph
    entry_within =
        let (a, q, b) = find_at f h.named e in
        omega (arith, (lies_column capacities graph _ 3 h.graphed.lies (omega arith)).within, h.named.few)

    pub found_made : {v : ℕ} → v ≡ get_or graph (6656 + k) 0 → not (eqb v 0) ≡ is_made path rd
    unfolding is_made
    found_made w =
        let (a, q, b) = find_at f h.named e in
        let l : k < length h.graphed.made = omega (arith, h.graphed.tables.counted, h.named.counted) in
        rw (w, lies_read capacities graph _ 3 h.graphed.lies (omega arith) k l, q) (sym (output_entry h.graphed (number_of path rd.files)))

-- A path that is not among the files has no maker.
pub unknown_unmade : {log : List Logged} {graph : List ℕ} {c : Counts} {rd : Reading} → Graphed log graph c rd → (path : List ℕ) → among path rd.files ≡ false → false ≡ is_made path rd
unfolding is_made
unknown_unmade {rd = rd} g path m =
    let z : get_or g.made (length rd.files) 0 ≡ 0 = get_or-eq_default g.made 0 {n = length rd.files} (omega (arith, g.tables.counted)) in
    sym (output_entry g (number_of path rd.files) ∙ rw (number_missing path rd.files m, z))

-- An output's path is among the files.
pub made_among : {log : List Logged} {bs : Buffers} {c : Counts} {rd : Reading} → HoldsReading log bs c rd → (p : List ℕ) → is_made p rd ≡ true
    → among p rd.files ≡ true
made_among {rd = rd} h p m =
    split (among p rd.files)
    (λ (e : among p rd.files ≡ true). e)
    (λ (e : among p rd.files ≡ false). differ m (sym (unknown_unmade h.graphed p e)))

pub missing_unmade : {log : List Logged} {names index graph : List ℕ} {c : Counts} {rd : Reading} (h : Filed log names index graph c rd) {path : List ℕ} {r : Option ℕ}
    → FindsName names index c.files path r → r ≡ None → false ≡ is_made path rd
missing_unmade h {path} f e = unknown_unmade h.graphed path (find_missing f h.named e)

-- ---- a path in the word buffer

pub long_unmade : {log : List Logged} {bs : Buffers} {c : Counts} {rd : Reading} → HoldsReading log bs c rd → (path : List ℕ)
    → max_path < length path → false ≡ is_made path rd
long_unmade {rd = rd} h path b =
    split (among path rd.files)
    (λ (e : among path rd.files ≡ true). absurd (omega (arith, among_short path rd.files h.short e)))
    (λ (e : among path rd.files ≡ false). unknown_unmade h.graphed path e)

pub filed : {log : List Logged} {bs : Buffers} {c : Counts} {rd : Reading} → HoldsReading log bs c rd → Filed log bs.names bs.index bs.graph c rd
filed h = record { named = h.named; graphed = h.graphed }

pub files_held : {bs : Buffers} {c : Counts} → Whole bs c → FilesKnown bs.names bs.index bs.graph c
files_held w = record { log = w.log; reading = w.reading; filed = filed w.holds }

-- ---- what the functions on one path answer

module _ {names index graph word : List ℕ} {c : Counts} {n : ℕ} where
  pub long_held : max_path < n → IsMade names index graph word c n false
  long_held l = record { answer = λ path e w texts bind log rd h. long_unmade h path (omega arith) }

  pub made_held : n ≤ length word → {r : Bool} → ((log : List Logged) (rd : Reading) → Filed log names index graph c rd → r ≡ is_made (take n word) rd) → IsMade names index graph word c n r
  made_held l e = record { answer = λ path d w texts bind log rd h. e log rd (filed h) ∙ ap (λ (p : List ℕ). is_made p rd) (w l) }

pub no_byte : (s : List ℕ) → length s ≡ 0 → is_empty s ≡ true
no_byte [] e = refl
no_byte (b ∷ s) e = absurd (omega arith)

pub some_byte : (s : List ℕ) → (length s ≡ 0 → ⊥) → is_empty s ≡ false
some_byte [] e = absurd (e refl)
some_byte (b ∷ s) e = refl

module _ (raw : List ℕ) {texts bind word word' : List ℕ} {c : Counts} {n : ℕ}
    (x : (log : List Logged) → HoldsBindings log texts bind c.entries → Written word (expanded_by log raw) word' n) where
  module _ {names index graph : List ℕ} where
    pub word_counted : Whole (buffers names index texts bind graph) c → n ≤ length word' → length (take n word') ≡ n
    word_counted w l = let k = x w.log w.holds.bound.held in ap length (written_whole k (rw (written_long k) at l)) ∙ sym k.count

    pub made_asks : {t : List ℕ} → RawAsks t raw (buffers names index texts bind graph) word c → MadeAsks names index graph word' c
    made_asks a = record { room = omega (arith, a.room, written_long (x a.whole.log a.whole.holds.bound.held)); files = files_held a.whole }

    module _ {log : List Logged} {rd : Reading} (h : HoldsReading log (buffers names index texts bind graph) c rd) where
      path_long : length (path_of rd raw) ≡ n
      path_long = ap length (path_held h.bound raw) ∙ sym (x log h.bound.held).count

      path_empty : n ≡ 0 → is_empty (path_of rd raw) ≡ true
      path_empty e = no_byte (path_of rd raw) (path_long ∙ e)

      path_some : (n ≡ 0 → ⊥) → is_empty (path_of rd raw) ≡ false
      path_some e = some_byte (path_of rd raw) (λ z. e (sym path_long ∙ z))

      made_path : {r : Bool} → IsMade names index graph word' c n r → is_made (path_of rd raw) rd ≡ r
      made_path m =
          let w = x log h.bound.held in
          sym (m.answer (path_of rd raw) (sym path_long) (λ l. written_whole w (rw (written_long w) at l) ∙ sym (path_held h.bound raw)) texts bind log rd h)

    pub empty_wrong : (kind : PathKind) → n ≡ 0 → (log : List Logged) (rd : Reading) → HoldsReading log (buffers names index texts bind graph) c rd → true ≡ wrong_path kind rd (path_of rd raw)
    unfolding wrong_path
    empty_wrong Input e log rd h = sym (path_empty h e)
    empty_wrong Output e log rd h = sym (rw (path_empty h e))
    empty_wrong Default e log rd h = sym (rw (path_empty h e))

    module _ (kind : PathKind) (e : n ≡ 0 → ⊥) where
      pub input_right : kind ≡ Input → (log : List Logged) (rd : Reading) → HoldsReading log (buffers names index texts bind graph) c rd → false ≡ wrong_path kind rd (path_of rd raw)
      unfolding wrong_path
      input_right k log rd h = rw k (sym (path_some h e))

      module _ {r : Bool} (m : IsMade names index graph word' c n r) where
        pub output_wrong : kind ≡ Output → (log : List Logged) (rd : Reading) → HoldsReading log (buffers names index texts bind graph) c rd → r ≡ wrong_path kind rd (path_of rd raw)
        unfolding wrong_path
        output_wrong k log rd h = rw k (sym (rw (path_some h e) (made_path h m)))

        pub default_wrong : kind ≡ Default → (log : List Logged) (rd : Reading) → HoldsReading log (buffers names index texts bind graph) c rd → not r ≡ wrong_path kind rd (path_of rd raw)
        unfolding wrong_path
        default_wrong k log rd h = rw k (sym (rw (path_some h e) (ap not (made_path h m))))
