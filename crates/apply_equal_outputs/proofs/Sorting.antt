-- The sorted table of a line's outputs: each output is looked for among those before it, and put in where it belongs.
use Rattle.std.specs.Prelude.{Some, None}
use Prim.Native.Nat.{ℕ, zero, suc, ◌+◌, ◌-◌, ◌/◌, ◌%◌, ◌≤◌, ◌<◌}
use mathlib.Core.Bool.{Bool, true, false}
use mathlib.Core.List.{List, [], ◌∷◌, ◌++◌, map}
use mathlib.Core.Path.{◌≡◌, refl, sym, ◌∙◌, ap}
use native.Mathlib.Nat.{not-suc-le-zero, le_of_suc-le-suc}
use native.Mathlib.Omega.{arith}
use lib.ListN.{length, take, drop, get_or, length-append, length-take, length-drop, length-map}
use lib.Seq.{take_at, length-take-le}
use Rattle.lists.specs.Order.{order_bytes, order_less, order_greater, order_equal}
use Rattle.lists.specs.Parts.{part}
use Rattle.std.specs.declared.cmp.Ordering.{Ordering}
use Rattle.std.specs.declared.cmp.Ordering.TheVariants.{Less, Equal, Greater}
use Rattle.spec.specs.Basics.{among}
use Rattle.spec.specs.Limits.{max_manifest}
use Rattle.spec.specs.Reading.{Reading}
use Rattle.spec.specs.Statements.{expanded, twice}
use Rattle.scan_raw.specs.Texts.{PathNext}
use Rattle.cut_forms.specs.Paths.{PathsAt}
use Rattle.cut_forms.proofs.Walks.{walk_on}
use Rattle.arena.specs.Inserted.{inserted, Shifted}
use Rattle.arena.specs.Rising.{PathBetween}
use Rattle.arena.proofs.Inserting.{each_inserted, map_inserted}
use Rattle.arena.proofs.Rising.{between_all, between_lower, between_higher, inserted_rising}
use Rattle.hold_bindings.specs.Log.{Logged}
use Rattle.hold_bindings.specs.Held.{HoldsBindings}
use Rattle.expand_parts.specs.Runs.{expanded_by, ExpandReady}
use Rattle.hold_reading.specs.Held.{HoldsBound}
use Rattle.hold_reading.specs.declared.Counts.{Counts}
use Rattle.apply_path_checks.specs.Checks.{path_of}
use Rattle.apply_equal_outputs.specs.Kept.{table_start}
use Rattle.apply_equal_outputs.specs.Sorted.{entry_of, raw_of, OutputLies, paths_of, OutputsSorted, PlaceAsks, PathOrdered, Belongs, PlaceIn, PathAdded, TwiceAsks, ComparesOutputs, Twice}
use Rattle.apply_path_checks.proofs.Wrong.{path_held, expanded_cons, expanded_none}
use Rattle.apply_equal_outputs.proofs.Members.{among_at, free_among, among_inserted}
use Rattle.apply_equal_outputs.proofs.Repeats.{repeats, repeats_begin, repeats_found, repeats_on, repeats_end}
use Rattle.apply_path_checks.proofs.Walking.{ready_path}

-- ---- entries

entry_from : (from to : ℕ) → to < 65536 → entry_of from to / 65536 ≡ from
entry_from from to h = omega arith

entry_to : (from to : ℕ) → to < 65536 → entry_of from to % 65536 ≡ to
entry_to from to h = omega arith

entry_raw : (l : List ℕ) (from to : ℕ) → to < 65536 → raw_of l (entry_of from to) ≡ part l from to
unfolding raw_of
entry_raw l from to h = rw (entry_from from to h, entry_to from to h)

entry_lies : {t l texts bind : List ℕ} {count from to : ℕ} → PlaceAsks t l texts bind count from to → OutputLies l (entry_of from to)
entry_lies {l = l} {from = from} {to = to} p =
    let h : to < 65536 = omega (arith, p.within, p.short) in
    record {
      forward = rw (entry_from from to h, entry_to from to h) p.forward;
      within = rw (entry_to from to h) p.within;
      sound = rw (entry_raw l from to h) p.ready.sound;
    }

pub entry_small : {t l texts bind : List ℕ} {count from to : ℕ} → PlaceAsks t l texts bind count from to → entry_of from to < 4294967296
entry_small p = omega (arith, p.forward, p.within, p.short)

-- ---- the paths of a table

get_d_map : {A B : Type 0} (f : A → B) (l : List A) (k : ℕ) (d : A) (e : B) → k < length l → get_or (map f l) k e ≡ f (get_or l k d)
get_d_map f [] k d e h = absurd (not-suc-le-zero h)
get_d_map f (x ∷ l) zero d e h = refl
get_d_map f (x ∷ l) (suc k) d e h = get_d_map f l k d e (le_of_suc-le-suc h)

module _ (rd : Reading) (l table : List ℕ) where
  length_paths : length (paths_of rd l table) ≡ length table
  unfolding paths_of
  length_paths = length-map table (λ v. path_of rd (raw_of l v))

  path_in : (k : ℕ) → k < length table → get_or (paths_of rd l table) k [] ≡ path_of rd (raw_of l (get_or table k 0))
  unfolding paths_of
  path_in k h = get_d_map (λ v. path_of rd (raw_of l v)) table k 0 [] h

  paths_inserted : (p v : ℕ) → paths_of rd l (inserted table p v) ≡ inserted (paths_of rd l table) p (path_of rd (raw_of l v))
  unfolding paths_of
  paths_inserted p v = map_inserted (λ v. path_of rd (raw_of l v)) table p v

-- ---- one path against an entry

-- the path that is looked at
pub path_asks : {t l texts bind : List ℕ} {c : Counts} {start i from to : ℕ} → TwiceAsks t l texts bind c start → PathNext l i from to → PlaceAsks t l texts bind c.entries from to
path_asks a n =
    record {
      short = a.short;
      forward = omega (arith, n.longer);
      within = n.within;
      ready = ready_path a.table a.short (record { log = a.log; held = a.bound.held }) n;
    }

pub entry_ready : {t l texts bind : List ℕ} {count from to v : ℕ} → PlaceAsks t l texts bind count from to → OutputLies l v → ExpandReady t (part l (v / 65536) (v % 65536)) texts bind count 0
unfolding raw_of
entry_ready p h =
    record {
      table = p.ready.table;
      short = simp (length-take, length-drop) (omega (arith, p.short));
      within = omega arith;
      sound = h.sound;
      held = p.ready.held;
    }

-- what `order` says of the path and that of an entry v
pub order_held : {l texts bind : List ℕ} {c : Counts} {from to : ℕ} {table : List ℕ} {k v : ℕ} {r : Ordering} → v ≡ get_or table k 0
    → ((log : List Logged) → HoldsBindings log texts bind c.entries → r ≡ order_bytes (expanded_by log (part l from to)) (expanded_by log (part l (v / 65536) (v % 65536))))
    → PathOrdered l texts bind c from to table k r
unfolding raw_of
order_held {l} {from = from} {to = to} {v = v} q e =
    record { answer = λ log rd h. rw (← q, path_held h (part l from to), path_held h (part l (v / 65536) (v % 65536))) (e log h.held) }

-- ---- halving

pub record Halving (l texts bind : List ℕ) (c : Counts) (from to : ℕ) (table : List ℕ) (low high : ℕ) : Type 0 where
  pub ordered : low ≤ high
  pub within : high ≤ length table
  pub between : (log : List Logged) (rd : Reading) → HoldsBound log texts bind c rd → PathBetween (paths_of rd l table) (path_of rd (part l from to)) low high

pub half_begin : (l texts bind : List ℕ) (c : Counts) (from to : ℕ) (table : List ℕ) → Halving l texts bind c from to table 0 (length table)
half_begin l texts bind c from to table =
    record {
      ordered = omega arith;
      within = omega arith;
      between = λ log rd b. rw (← length_paths rd l table) (between_all (paths_of rd l table) (path_of rd (part l from to)));
    }

module _ {l texts bind : List ℕ} {c : Counts} {from to : ℕ} {table : List ℕ} {low high : ℕ} (x : Halving l texts bind c from to table low high) where
  module _ (s : OutputsSorted l texts bind c table) {mid : ℕ} (above : low ≤ mid) (below : mid < high) {r : Ordering} (o : PathOrdered l texts bind c from to table mid r) where
    -- the order of the path and that of the entry in the middle
    compared : (log : List Logged) (rd : Reading) → HoldsBound log texts bind c rd → {q : Ordering} → r ≡ q → order_bytes (path_of rd (part l from to)) (get_or (paths_of rd l table) mid []) ≡ q
    compared log rd b e = rw (path_in rd l table mid (omega (arith, x.within))) (sym (o.answer log rd b) ∙ e)

    pub half_lower : r ≡ Less → Halving l texts bind c from to table low mid
    half_lower e =
        record {
          ordered = above;
          within = omega (arith, x.within);
          between = λ log rd b. between_lower (x.between log rd b) (s.risen log rd b) below (order_less _ _ (compared log rd b e));
        }

    pub half_higher : r ≡ Greater → Halving l texts bind c from to table (mid + 1) high
    half_higher e =
        record {
          ordered = omega arith;
          within = x.within;
          between = λ log rd b. between_higher (x.between log rd b) (s.risen log rd b) below (order_greater _ _ (compared log rd b e));
        }

    pub half_found : r ≡ Equal → PlaceIn l texts bind c from to table None
    half_found e =
        record {
          taken = λ _ log rd b.
              among_at (path_of rd (part l from to)) (paths_of rd l table) mid (omega (arith, x.within, length_paths rd l table)) (order_equal _ _ (compared log rd b e));
          free = λ {p} q. absurd (let z : ◌≡◌ {A = ℕ} 0 1 = cc in omega arith);
        }

  pub half_end : high ≤ low → PlaceIn l texts bind c from to table (Some low)
  half_end h =
      record {
        taken = λ q. absurd (let z : ◌≡◌ {A = ℕ} 0 1 = cc in omega arith);
        free = λ {p} q.
            let a : low ≡ p = cc in
            let e : high ≡ p = omega (arith, x.ordered) in
            record { within = omega (arith, x.within); between = λ log rd b. rw (a, e) at (x.between log rd b) };
      }

-- ---- a path that is put in

module _ {l texts bind : List ℕ} {c : Counts} {from to : ℕ} {table : List ℕ} {n : ℕ} where
  pub path_taken : ((log : List Logged) (rd : Reading) → HoldsBound log texts bind c rd → among (path_of rd (part l from to)) (paths_of rd l (take n table)) ≡ true)
      → PathAdded l texts bind c from to table n table true
  path_taken h =
      record {
        long = refl;
        answer = λ log rd b. sym (h log rd b);
        grown = λ q. absurd (let z : ◌≡◌ {A = ℕ} 0 1 = cc in omega arith);
      }

  module _ {p : ℕ} (h : Belongs l texts bind c from to (take n table) p) where
    pub path_added : {t : List ℕ} → PlaceAsks t l texts bind c.entries from to → OutputsSorted l texts bind c (take n table) → {table' : List ℕ} → Shifted table n p (entry_of from to) table'
        → PathAdded l texts bind c from to table n table' false
    path_added a s {table'} x =
        record {
          long = x.long;
          answer = λ log rd b. sym (free_among (h.between log rd b));
          grown = λ _.
              record {
                sorted = record {
                  lies = rw x.entries (each_inserted (take n table) p (entry_of from to) 0 h.within (OutputLies l) (entry_lies a) s.lies);
                  risen = λ log rd b. rw (now_in rd) (inserted_rising (s.risen log rd b) (h.between log rd b));
                };
                members = λ log rd b q. rw (now_in rd) (among_inserted q (paths_of rd l (take n table)) p (path_of rd (part l from to)));
              };
        }
      where
        now_in : (rd : Reading) → paths_of rd l (take (n + 1) table') ≡ inserted (paths_of rd l (take n table)) p (path_of rd (part l from to))
        now_in rd =
            ap (paths_of rd l) x.entries
            ∙ paths_inserted rd l (take n table) p (entry_of from to)
            ∙ ap (λ (q : List ℕ). inserted (paths_of rd l (take n table)) p (path_of rd q)) (entry_raw l from to (omega (arith, a.within, a.short)))

-- ---- a whole list

pub record Scanning (l texts bind : List ℕ) (c : Counts) (start : ℕ) (table₀ table : List ℕ) (n i : ℕ) : Type 0 where
  pub long : length table ≡ length table₀
  pub within : i ≤ length l
  pub ahead : start + n ≤ i
  pub sorted : OutputsSorted l texts bind c (take n table)
  pub rest : (ps : List (List ℕ)) → PathsAt l start ps
      → (qs : List (List ℕ)) × PathsAt l i qs × ((log : List Logged) (rd : Reading) → HoldsBound log texts bind c rd → twice (expanded rd ps) ≡ repeats (paths_of rd l (take n table)) (expanded rd qs))

none_in : (rd : Reading) (l : List ℕ) → paths_of rd l [] ≡ []
unfolding paths_of
none_in rd l = refl

pub scan_begin : {l texts bind : List ℕ} {c : Counts} {start : ℕ} {table : List ℕ} → start ≤ length l → Scanning l texts bind c start table table 0 start
scan_begin {l} h =
    record {
      long = refl;
      within = h;
      ahead = omega arith;
      sorted = record {
        lies = λ k a. absurd (not-suc-le-zero a);
        risen = λ log rd b. rw (none_in rd l) (record { less = λ i j a k. absurd (not-suc-le-zero k) });
      };
      rest = λ ps w. (ps, w, λ log rd b. rw (none_in rd l) (repeats_begin (expanded rd ps)));
    }

module _ {l texts bind : List ℕ} {c : Counts} {start : ℕ} {table₀ table : List ℕ} {n i : ℕ} (x : Scanning l texts bind c start table₀ table n i) where
  module _ {from to : ℕ} (p : PathNext l i from to) where
    pub scan_room : length l ≤ max_manifest → max_manifest ≤ length table₀ → n < length table
    scan_room s r = omega (arith, x.long, x.ahead, p.forward, p.longer, p.within)

    -- what stands at this turn
    turn : (ps : List (List ℕ)) → PathsAt l start ps → (us : List (List ℕ)) × PathsAt l to us × ((log : List Logged) (rd : Reading) → HoldsBound log texts bind c rd
        → twice (expanded rd ps) ≡ repeats (paths_of rd l (take n table)) (path_of rd (part l from to) ∷ expanded rd us))
    turn ps w =
        let (qs, v, s) = x.rest ps w in
        let (us, q, u) = walk_on p v in
        (us, u, λ log rd b. s log rd b ∙ ap (λ (r : List (List ℕ)). repeats (paths_of rd l (take n table)) (expanded rd r)) q ∙ rw (expanded_cons rd (part l from to) us))

    module _ {table' : List ℕ} {r : Bool} (a : PathAdded l texts bind c from to table n table' r) where
      pub scan_found : r ≡ true → ComparesOutputs l texts bind c start table₀ table' true
      scan_found e =
          record {
            long = a.long ∙ x.long;
            answer = λ ps w log rd b.
                let (us, u, s) = turn ps w in
                sym (s log rd b ∙ repeats_found (paths_of rd l (take n table)) (path_of rd (part l from to)) (expanded rd us) (sym (a.answer log rd b) ∙ e));
          }

      pub scan_on : r ≡ false → Scanning l texts bind c start table₀ table' (n + 1) to
      scan_on e =
          record {
            long = a.long ∙ x.long;
            within = p.within;
            ahead = omega (arith, x.ahead, p.forward, p.longer);
            sorted = (a.grown e).sorted;
            rest = λ ps w.
                let (us, u, s) = turn ps w in (
                  us,
                  u,
                  λ log rd b.
                      s log rd b
                      ∙ repeats_on (paths_of rd l (take n table)) (paths_of rd l (take (n + 1) table')) (path_of rd (part l from to)) (expanded rd us) (sym (a.answer log rd b) ∙ e) ((a.grown e).members log rd b),
                );
          }

  pub scan_end : ((ps : List (List ℕ)) → PathsAt l i ps → ps ≡ []) → ComparesOutputs l texts bind c start table₀ table false
  scan_end f =
      record {
        long = x.long;
        answer = λ ps w log rd b.
            let (qs, v, s) = x.rest ps w in
            sym (s log rd b ∙ ap (λ (r : List (List ℕ)). repeats (paths_of rd l (take n table)) (expanded rd r)) (f qs v) ∙ rw (expanded_none rd) (repeats_end (paths_of rd l (take n table))));
      }

-- ---- the table behind the columns of the graph

-- The graph g, whose part behind the columns was lent and comes back as m.
pub lent_back : (g : List ℕ) → table_start ≤ length g → {l texts bind : List ℕ} {c : Counts} {start : ℕ} {m : List ℕ} {r : Bool} → ComparesOutputs l texts bind c start (part g table_start (length g)) m r
    → Twice l texts bind g c start (take table_start g ++ (m ++ drop (length g - table_start) (drop table_start g))) r
lent_back g h {m = m} x =
    let z : length m ≡ length g - table_start = x.long ∙ simp (length-take, length-drop) (omega arith) in
    record {
      kept = record {
        long = simp (length-append, length-take, length-drop) (omega arith);
        columns = take_at (take table_start g) (m ++ drop (length g - table_start) (drop table_start g)) table_start (length-take-le table_start g h);
      };
      answer = x.answer;
    }
