-- What is kept of a package that was judged, wherever its text is: by what it was judged, what is found of it by its
-- path, its verdict, and its table.
use Rattle.std.specs.Prelude.{ℕ, Bool, List, map, string_bytes}
use Rattle.std.specs.List.{AllByRecursion}
use Rattle.table_json.specs.Tables.{Entry, by_bytes, entry_of, HasOrder, Rise}
use Rattle.vetx_json.specs.declared.functions.KeptFunction.{KeptFunction}
use Rattle.vetx_json.specs.declared.functions.KeptUnless.{KeptUnless}
use Rattle.vetx_json.specs.declared.vetx.Vetx.{Vetx}

-- what is given at the one position, unless the error at the other is not nil
pub record UnlessEntry : Type 0 where
  pub given : ℕ
  pub error : ℕ

abbrev pub unless_of : KeptUnless → UnlessEntry
unless_of u = record { given = u.given; error = u.error }

-- what is kept of one function: its facts, as a table has them, how many results it has, and what it gives unless there
-- is an error
pub record FunctionEntry : Type 0 where
  pub facts : Entry
  pub results : ℕ
  pub unless : List UnlessEntry

abbrev pub function_of : KeptFunction → FunctionEntry
function_of f = record { facts = entry_of f.facts; results = f.results; unless = map unless_of f.unless.items }

abbrev pub name_of : FunctionEntry → List ℕ
name_of f = f.facts.name

abbrev pub facts_of : FunctionEntry → Entry
facts_of f = f.facts

pub record VetxEntry : Type 0 where
  -- the number of the edition, and the digest of the facts that were declared, or nothing
  pub edition : ℕ
  pub facts : List ℕ
  -- its path, the name in its package clause, and the path of its module, or nothing
  pub path : List ℕ
  pub name : List ℕ
  pub module_path : List ℕ
  -- it has a fault as a whole; nothing is to be said of it
  pub has_whole_fault : Bool
  pub is_yes : Bool
  pub functions : List FunctionEntry

abbrev pub vetx_of : Vetx → VetxEntry
vetx_of v = record {
  edition = v.edition;
  facts = string_bytes v.facts;
  path = string_bytes v.path;
  name = string_bytes v.name;
  module_path = string_bytes v.module_path;
  has_whole_fault = v.has_whole_fault;
  is_yes = v.is_yes;
  functions = map function_of v.functions.items;
}

-- the names of its functions rise, and each function is in order
pub record IsInOrder (v : VetxEntry) : Type 0 where
  pub names_rise : Rise by_bytes name_of v.functions
  pub each_in_order : AllByRecursion (λ f. HasOrder (facts_of f)) v.functions
