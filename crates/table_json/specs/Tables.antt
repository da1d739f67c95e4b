-- What a table of facts says, wherever its text is kept, and when it is in order.
use Rattle.std.specs.Prelude.{ℕ, ◌≡◌, ◌==◌, not, Bool, true, List, map, string_bytes, IsPermutation}
use Rattle.std.specs.Cmp.Lexicographic.{slice_cmp}
use Rattle.std.specs.List.{AllByRecursion, list_all, list_any}
use Rattle.std.specs.List.Sorted.{IsStrictlySortedBy}
use Rattle.std.specs.declared.cmp.Ordering.{Ordering}
use Rattle.std.specs.Ordering.{nat_cmp}
use Rattle.table_json.specs.declared.table.Function.{Function}
use Rattle.table_json.specs.declared.table.Parameter.{Parameter}
use Rattle.table_json.specs.declared.table.Parameter.TheVariants.{Cancel, Cause, Group}
use Rattle.table_json.specs.declared.table.Table.{Table}

-- what a table says of one function: `gives` has the positions of results of type `context.CancelFunc`, and `causes`
-- those of results of type `context.CancelCauseFunc`
pub record Entry : Type 0 where
  pub name : List ℕ
  pub gives : List ℕ
  pub causes : List ℕ
  pub params : List Parameter

abbrev pub entry_of : Function → Entry
entry_of f = record {
  name = string_bytes f.name;
  gives = f.gives.items;
  causes = f.causes.items;
  params = f.params.items;
}

abbrev pub entries_of : Table → List Entry
entries_of table = map entry_of table.functions.items

abbrev pub name_of : Entry → List ℕ
name_of f = f.name

-- a parameter's position
abbrev pub position_of : Parameter → ℕ
position_of (Cancel at calls) = at
position_of (Cause at calls) = at
position_of (Group at) = at

-- a result that is given is told by its position alone
abbrev pub itself : ℕ → ℕ
itself n = n

-- the keys rise, so none comes twice
abbrev pub Rise : {A K : Type 0} → (K → K → Ordering) → (A → K) → List A → Type 0
Rise cmp key xs = IsStrictlySortedBy cmp (map key xs)

-- the order of names is that of their bytes
abbrev pub by_bytes : List ℕ → List ℕ → Ordering
by_bytes = slice_cmp nat_cmp

-- no position is in both
abbrev pub are_apart : List ℕ → List ℕ → Bool
are_apart gives causes = list_all (λ n. not (list_any (λ m. m == n) causes)) gives

-- the positions of a function rise, and none stands in both `gives` and `causes`
pub record HasOrder (f : Entry) : Type 0 where
  pub gives_rise : Rise nat_cmp itself f.gives
  pub causes_rise : Rise nat_cmp itself f.causes
  pub apart : are_apart f.gives f.causes ≡ true
  pub params_rise : Rise nat_cmp position_of f.params

-- a table is in order: the names rise, and each function is in order
pub record IsInOrder (table : List Entry) : Type 0 where
  pub names_rise : Rise by_bytes name_of table
  pub each_in_order : AllByRecursion HasOrder table

-- the entries as given, in the order of their keys, of which none comes twice
pub record IsArranged {A K : Type 0} (cmp : K → K → Ordering) (key : A → K) (given kept : List A) : Type 0 where
  pub same : IsPermutation given kept
  pub rise : Rise cmp key kept
