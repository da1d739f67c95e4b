-- The tables of packages as plain values: what they say of each function, in the order of the names' bytes.
use Rattle.std.specs.Prelude.{ℕ, ◌≡◌, Bool, true, false, ◌&&◌, if◌then◌else◌, List, [], ◌∷◌, flat_map, Option, None, Some, is_some, option_map, Contains}
use Rattle.std.specs.List.Sorted.{IsStrictlySortedBy}
use Rattle.tree.specs.Syntax.{SourceFile, TopLevelDeclaration, function_declaration, general_declaration}
use Rattle.meaning.specs.FunctionFacts.{CancelType, plain, with_cause, is_same_type, TrackedType, cancel_type, group_type, TrackedParameter, CancelResult, FunctionFacts}
use Rattle.table_json.specs.declared.table.Parameter.{Parameter}
use Rattle.table_json.specs.declared.table.Parameter.TheVariants.{Cancel, Cause, Group}
use Rattle.table_json.specs.Tables.{Entry, by_bytes}
use Rattle.table_json.specs.TableValues.{if_fits}
use Rattle.meaning_reports.specs.Loaded.{PackageTable}

abbrev pub as_list : {A : Type 0} → Option A → List A
as_list None = []
as_list (Some a) = a ∷ []

-- a position that is not below 2^32 is left out
abbrev pub position_told : ℕ → List ℕ
position_told n = as_list (if_fits n)

abbrev pub parameter_kept : (ℕ → Bool) → TrackedParameter → TrackedType → ℕ → Parameter
parameter_kept calls p (cancel_type plain) at = Cancel at (calls p.position)
parameter_kept calls p (cancel_type with_cause) at = Cause at (calls p.position)
parameter_kept calls p group_type at = Group at

abbrev pub parameter_told : (ℕ → Bool) → TrackedParameter → Option Parameter
parameter_told calls p = option_map (parameter_kept calls p p.typed) (if_fits p.position)

-- the position of a result of that type
abbrev pub result_told : CancelType → CancelResult → List ℕ
result_told t r = if is_same_type t r.type then position_told r.position else []

-- what is told of the function of that name, of whose parameters these are known to be called
abbrev pub entry_told : (ℕ → Bool) → List ℕ → FunctionFacts → Entry
entry_told calls name facts = record {
  name = name;
  gives = flat_map (result_told plain) facts.gives;
  causes = flat_map (result_told with_cause) facts.gives;
  params = flat_map (λ p. as_list (parameter_told calls p)) facts.parameters;
}

abbrev pub is_none_of : {A : Type 0} → List A → Bool
is_none_of [] = true
is_none_of (x ∷ xs) = false

-- a function of which nothing is told is left out
abbrev pub if_told : Entry → List Entry
if_told e = if is_none_of e.gives && (is_none_of e.causes && is_none_of e.params) then [] else e ∷ []

abbrev pub entries_with : (ℕ → Bool) → List ℕ → Option FunctionFacts → List Entry
entries_with calls name None = []
entries_with calls name (Some facts) = if_told (entry_told calls name facts)

-- what the table says of the function of that name
abbrev pub entries_for : PackageTable → List ℕ → List Entry
entries_for table name = entries_with (table.calls name) name (table.signatures name)

-- The names of functions and methods

abbrev pub declared_name : TopLevelDeclaration → List (List ℕ)
declared_name (function_declaration f) = f.name.text ∷ []
declared_name (general_declaration d) = []

abbrev pub declared_names : List SourceFile → List (List ℕ)
declared_names = flat_map (λ tree. flat_map declared_name tree.declarations)

-- these names in the order of their bytes, each once
pub record AreInOrder (declared names : List (List ℕ)) : Type 0 where
  pub rise : IsStrictlySortedBy by_bytes names
  pub are_there : (name : List ℕ) → Contains declared name → Contains names name

-- what the table says of the functions of these names
pub record TellsNames (declared : List (List ℕ)) (table : PackageTable) (entries : List Entry) : Type 0 where
  pub names : List (List ℕ)
  pub in_order : AreInOrder declared names
  pub are_told : entries ≡ flat_map (entries_for table) names

-- the entries are what the table says of all functions, in the order of their names
pub record IsPlain (table : PackageTable) (entries : List Entry) : Type 0 where
  pub names : List (List ℕ)
  pub rise : IsStrictlySortedBy by_bytes names
  pub are_all : (name : List ℕ) → is_some (table.signatures name) ≡ true → Contains names name
  pub are_told : entries ≡ flat_map (entries_for table) names
