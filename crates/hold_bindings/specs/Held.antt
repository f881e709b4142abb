-- What the lent buffers hold of a log: names and values end to end in `texts`; in `bind` a row of three numbers for each entry, behind the room for
-- all rows the log's index, and behind that one its scopes.
use Rattle.std.specs.Prelude.{ℕ, zero, suc, ◌+◌, ◌*◌, ◌≤◌, ◌<◌, List, [], ◌∷◌, ◌++◌, ◌≡◌, length, take, drop, get_or}
use Rattle.lists.specs.Parts.{part}
use Rattle.spec.specs.Limits.{max_rules, max_bindings, max_name, max_written}
use Rattle.hold_bindings.specs.declared.ValuePlace.{ValuePlace}
use Rattle.hold_bindings.specs.Log.{Logged, of_marks, entry_at, Scoping, scoping_after, scoping_of}
use Rattle.hold_bindings.specs.Index.{Indexed, KeyBetween}

-- as many scopes as files may be opened (document 02 [1])
abbrev pub max_scopes : ℕ
max_scopes = 64

-- "128 rules, 1,024 bindings .. declared names 64 bytes .. all paths and values read so far .. 60,000 bytes together"; and two marks for each scope
abbrev pub max_entries : ℕ
max_entries = max_bindings + max_rules + 2 * max_scopes

abbrev pub max_texts : ℕ
max_texts = max_written + max_entries * max_name

-- where the index begins, and the room for all rows and the index
abbrev pub rows_end : ℕ
rows_end = 3 * max_entries

-- where the scopes begin: how many there are, the current one, and for each its parent and one more, or 0
abbrev pub scopes_at : ℕ
scopes_at = rows_end + max_entries

abbrev pub current_at : ℕ
current_at = scopes_at + 1

abbrev pub parents_at : ℕ
parents_at = scopes_at + 2

abbrev pub max_rows : ℕ
max_rows = parents_at + max_scopes

abbrev pub max_owner : ℕ
max_owner = 5 + 3 * max_entries

unfoldable pub texts_of : List Logged → List ℕ
texts_of [] = []
texts_of (e ∷ l) = texts_of l ++ (e.name ++ e.value)

-- an entry whose name starts at k: the end of its name, the end of its value, its owner
unfoldable pub row_of : ℕ → Logged → List ℕ
row_of k e =
    let a = k + length e.name in
    a ∷ (a + length e.value) ∷ e.owner ∷ []

unfoldable pub rows_of : List Logged → List ℕ
unfolding row_of texts_of
rows_of [] = []
rows_of (e ∷ l) = rows_of l ++ row_of (length (texts_of l)) e

-- the bytes of all values
unfoldable pub values_in : List Logged → ℕ
values_in [] = 0
values_in (e ∷ l) = values_in l + length e.value

abbrev pub ShortNames : List Logged → Type 0
ShortNames [] = Unit {0}
ShortNames (e ∷ l) = (length e.name ≤ max_name) × ShortNames l

-- the first `count` numbers of the index
abbrev pub index_in : List ℕ → ℕ → List ℕ
index_in bind count = take count (drop rows_end bind)

-- The texts and the rows begin with those of the log, which has `count` entries.
pub record Rows (log : List Logged) (texts bind : List ℕ) (count : ℕ) : Type 0 where
  pub counted : count ≡ length log
  pub few : count ≤ max_entries
  pub names : ShortNames log
  pub values : values_in log ≤ max_written
  pub texts_long : max_texts ≤ length texts
  pub bind_long : max_rows ≤ length bind
  pub texts_held : take (length (texts_of log)) texts ≡ texts_of log
  pub bind_held : take (length (rows_of log)) bind ≡ rows_of log

-- The number for a scope that has these scopes around it.
pub data Parent (outers : List (List ℕ)) (k : ℕ) : List ℕ → ℕ → Type 0 where
  top : Parent outers k [] 0
  inside : {p : ℕ} → p < k → Parent outers k (p ∷ get_or outers p []) (suc p)

-- The scopes of the log are held.
pub record HoldsScopes (g : Scoping) (bind : List ℕ) : Type 0 where
  pub counted : get_or bind scopes_at 0 ≡ length g.outers
  pub now : get_or bind current_at 0 ≡ g.current
  pub below : g.current < length g.outers
  pub few : length g.outers ≤ max_scopes
  pub parents : (k : ℕ) → k < length g.outers → Parent g.outers k (get_or g.outers k []) (get_or bind (parents_at + k) 0)

-- The log is held, with its index and its scopes.
pub record HoldsBindings (log : List Logged) (texts bind : List ℕ) (count : ℕ) : Type 0 where
  pub rows : Rows log texts bind count
  pub index : Indexed log (index_in bind count)
  pub scopes : HoldsScopes (scoping_of log) bind

-- Some log is held; it has an entry k; and it has room for one more:
pub record SoundBindings (texts bind : List ℕ) (count : ℕ) : Type 0 where
  pub log : List Logged
  pub held : HoldsBindings log texts bind count

pub record HasEntry (texts bind : List ℕ) (k : ℕ) : Type 0 where
  pub log : List Logged
  pub count : ℕ
  pub held : HoldsBindings log texts bind count
  pub below : k < count

-- .. one more that may be a mark
pub record RowRoom (log : List Logged) (texts bind : List ℕ) (count : ℕ) (e : Logged) : Type 0 where
  pub held : HoldsBindings log texts bind count
  pub few : count < max_entries
  pub owner : e.owner ≤ max_owner
  pub name : length e.name ≤ max_name
  pub value : values_in log + length e.value ≤ max_written

pub record HasRowRoom (texts bind : List ℕ) (count : ℕ) (e : Logged) : Type 0 where
  pub log : List Logged
  pub room : RowRoom log texts bind count e

-- .. one more that is none, since marks change the scopes too
pub record EntryRoom (log : List Logged) (texts bind : List ℕ) (count : ℕ) (e : Logged) : Type 0 where
  pub held : HoldsBindings log texts bind count
  pub few : count < max_entries
  pub binds : e.owner ≡ of_marks → ⊥
  pub owner : e.owner ≤ max_owner
  pub name : length e.name ≤ max_name
  pub value : values_in log + length e.value ≤ max_written

pub record HasRoom (texts bind : List ℕ) (count : ℕ) (e : Logged) : Type 0 where
  pub log : List Logged
  pub room : EntryRoom log texts bind count e

-- Some scopes are held; fewer than there may be; and the log that is held has scope k.
pub record SoundScopes (bind : List ℕ) : Type 0 where
  pub scoping : Scoping
  pub held : HoldsScopes scoping bind

pub record FewScopes (bind : List ℕ) : Type 0 where
  pub scoping : Scoping
  pub held : HoldsScopes scoping bind
  pub free : length scoping.outers < max_scopes

pub record HasScope (texts bind : List ℕ) (count k : ℕ) : Type 0 where
  pub log : List Logged
  pub held : HoldsBindings log texts bind count
  pub below : k < length (scoping_of log).outers

-- .. room for a mark that enters a scope, and for one that goes back to scope k
pub record HasScopeRoom (texts bind : List ℕ) (count : ℕ) : Type 0 where
  pub log : List Logged
  pub held : HoldsBindings log texts bind count
  pub few : count < max_entries
  pub free : length (scoping_of log).outers < max_scopes

pub record HasBackRoom (texts bind : List ℕ) (count k : ℕ) : Type 0 where
  pub scope : HasScope texts bind count k
  pub few : count < max_entries

-- ------------------------------------------------------------------ one entry in the buffers

-- where the name of entry k starts
unfoldable pub entry_start : List ℕ → ℕ → ℕ
entry_start bind zero = 0
entry_start bind (suc k) = get_or bind (3 * k + 1) 0

-- Entry k is e.
pub record Row (e : Logged) (texts bind : List ℕ) (k : ℕ) : Type 0 where
  pub within : 3 * k + 2 < length bind
  pub named : entry_start bind k ≤ get_or bind (3 * k) 0
  pub valued : get_or bind (3 * k) 0 ≤ get_or bind (3 * k + 1) 0
  pub ends : get_or bind (3 * k + 1) 0 ≤ max_texts
  pub texts_long : max_texts ≤ length texts
  pub owner : get_or bind (3 * k + 2) 0 ≡ e.owner
  pub name : part texts (entry_start bind k) (get_or bind (3 * k) 0) ≡ e.name
  pub value : part texts (get_or bind (3 * k) 0) (get_or bind (3 * k + 1) 0) ≡ e.value

-- The value of entry k lies there.
pub record ValueAt (texts bind : List ℕ) (k : ℕ) (p : ValuePlace) : Type 0 where
  pub ordered : p.from ≤ p.to
  pub ends : p.to ≤ max_texts
  pub texts_long : max_texts ≤ length texts
  pub value : (log : List Logged) (count : ℕ) → HoldsBindings log texts bind count → k < count → part texts p.from p.to ≡ (entry_at k log).value

-- ------------------------------------------------------------------ the index and an entry more

-- No entry in front of place p of the index comes after this owner and this name, and every one from there on does.
pub record PlaceOf (texts bind : List ℕ) (count owner : ℕ) (wanted : List ℕ) (p : ℕ) : Type 0 where
  pub within : p ≤ count
  pub between : (log : List Logged) → HoldsBindings log texts bind count → KeyBetween log (index_in bind count) (owner ∷ wanted) p p

-- An entry more in the texts and the rows.
pub record Pushed (texts bind : List ℕ) (count : ℕ) (e : Logged) (texts' bind' : List ℕ) : Type 0 where
  pub long : length bind' ≡ length bind
  pub rows : (log : List Logged) → RowRoom log texts bind count e → Rows (e ∷ log) texts' bind' (count + 1)
  pub behind : drop rows_end bind' ≡ drop rows_end bind

-- .. and in the index; the scopes stay.
pub record Added (texts bind : List ℕ) (count : ℕ) (e : Logged) (texts' bind' : List ℕ) : Type 0 where
  pub rows : (log : List Logged) → RowRoom log texts bind count e → Rows (e ∷ log) texts' bind' (count + 1)
  pub index : (log : List Logged) → RowRoom log texts bind count e → Indexed (e ∷ log) (index_in bind' (count + 1))
  pub behind : drop scopes_at bind' ≡ drop scopes_at bind

-- Other scopes, in which a mark of this name was read; the rows and the index stay.
pub record Scoped (bind : List ℕ) (name : List ℕ) (bind' : List ℕ) : Type 0 where
  pub long : length bind' ≡ length bind
  pub front : take scopes_at bind' ≡ take scopes_at bind
  pub scopes : (g : Scoping) → HoldsScopes g bind → HoldsScopes (scoping_after name g) bind'
