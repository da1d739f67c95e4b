-- What is kept of a package as JSON: its value as it is written, and which values are those of it when they are read.
-- As an object has each key once and in order, the order of keys is free in a text, and of equal keys the last one
-- counts.
use Rattle.std.specs.Prelude.{ℕ, ◌≡◌, List, map, codes}
use Rattle.std.specs.List.{AllZip}
use Rattle.serde_json.specs.Data.{Data, Members, boolean, string, object, member, no_members, put}
use Rattle.table_json.specs.MembersRead.{IsListWith}
use Rattle.table_json.specs.Tables.{Entry, by_bytes}
use Rattle.table_json.specs.TableValues.{parameter_value, list, whole, AreArrangedOf, Fits, IsFunctionValue as AreFacts}
use Rattle.vetx_json.specs.KeptUnits.{FunctionEntry, UnlessEntry, VetxEntry, name_of}

-- Functions

-- `{"error":n,"given":n}`
abbrev pub unless_value : UnlessEntry → Data
unless_value u = object (
    member (codes "error") (whole u.error) (
    member (codes "given") (whole u.given) no_members))

-- `{"causes":[n,..],"gives":[n,..],"name":s,"params":[P,..],"results":n,"unless":[U,..]}`
abbrev pub function_with : Entry → ℕ → List Data → Data
function_with f results unless = object (
    member (codes "causes") (list (map whole f.causes)) (
    member (codes "gives") (list (map whole f.gives)) (
    member (codes "name") (string f.name) (
    member (codes "params") (list (map parameter_value f.params)) (
    member (codes "results") (whole results) (
    member (codes "unless") (list unless) no_members))))))

abbrev pub function_value : FunctionEntry → Data
function_value f = function_with f.facts f.results (map unless_value f.unless)

-- the numbers fit
pub record IsUnlessValue (value : Data) (u : UnlessEntry) : Type 0 where
  pub is_value : value ≡ unless_value u
  pub given_fits : Fits u.given
  pub error_fits : Fits u.error

-- the value of a function is that of its facts in a table of version 2, with the number of its results and the list of
-- what it gives unless there is an error under two keys more; that list stands in its order
pub record IsFunctionValue (value : Data) (f : FunctionEntry) : Type 0 where
  pub facts : Members
  pub unless : List Data
  pub are_facts : AreFacts (object facts) f.facts
  pub is_value : value ≡ object (put (codes "unless") (list unless) (put (codes "results") (whole f.results) facts))
  pub results_fit : Fits f.results
  pub are_unless : AllZip IsUnlessValue unless f.unless

-- these are the values of the functions, in any order: no name comes twice
abbrev pub AreFunctionsOf : List Data → List FunctionEntry → Type 0
AreFunctionsOf = AreArrangedOf IsFunctionValue by_bytes name_of

abbrev pub AreFunctionsIn : Data → List FunctionEntry → Type 0
AreFunctionsIn = IsListWith AreFunctionsOf

-- Packages

-- `{"edition":n,"facts":s,"functions":[F,..],"module":s,"name":s,"path":s,"version":1,"whole":b,"yes":b}`
abbrev pub vetx_with : VetxEntry → List Data → Data
vetx_with v functions = object (
    member (codes "edition") (whole v.edition) (
    member (codes "facts") (string v.facts) (
    member (codes "functions") (list functions) (
    member (codes "module") (string v.module_path) (
    member (codes "name") (string v.name) (
    member (codes "path") (string v.path) (
    member (codes "version") (whole 1) (
    member (codes "whole") (boolean v.has_whole_fault) (
    member (codes "yes") (boolean v.is_yes) no_members)))))))))

abbrev pub vetx_value : VetxEntry → Data
vetx_value v = vetx_with v (map function_value v.functions)

-- this is the value of what is kept: its functions stand in any order, and no name comes twice
pub record IsVetxValue (value : Data) (v : VetxEntry) : Type 0 where
  pub functions : List Data
  pub is_value : value ≡ vetx_with v functions
  pub edition_fits : Fits v.edition
  pub are_functions : AreFunctionsOf functions v.functions
