-- What has to be asked of a file's imports to know that none of their functions gives a cancel function: of a package
-- that is given its table, and of each other path what is declared of it. A declared giver counts as that of a given
-- package does. What is declared of a package that is given doesn't count. Nor does it that a function is declared to
-- take cancel functions or to call them: a file in which nothing is to be found has none to pass.
-- (This tool's rules.)
use Rattle.std.specs.Prelude.{ℕ, ◌≡◌, List, [], Some, slice_get, Contains}
use Rattle.tree.specs.Syntax.{ImportSpec, SourceFile}
use Rattle.meaning.specs.FunctionFacts.{FunctionFacts}
use Rattle.meaning_reports.specs.Loaded.{LoadedPackage, Tables, trees_of, imports_of, signatures_of}
use Rattle.meaning_reports.specs.PackageTables.{AreTables}
use Rattle.silent_files.specs.SilentPackages.{GiveNone, NamesNoGiver}

-- no given package has the path
abbrev pub IsNotGiven : List LoadedPackage → List ℕ → Type 0
IsNotGiven ps path = (i : ℕ) (p : LoadedPackage) → slice_get ps i ≡ Some p → p.path ≡ path → ⊥

-- each path that no given package has, has what is declared of its package, as by any rules (`AreTablesBy`)
abbrev pub HaveDeclared : Tables → List LoadedPackage → Tables → Type 0
HaveDeclared declared ps tables = (path : List ℕ) → IsNotGiven ps path → tables path ≡ declared path

-- no function of the file's imports gives: by the tables of given packages, and by what is declared of others
pub record ImportsGiveNone (declared : Tables) (ps : List LoadedPackage) (tables : Tables) (tree : SourceFile)
    : Type 0 where
  pub of_given : (spec : ImportSpec) (j : ℕ) (q : LoadedPackage)
      → Contains (imports_of tree) spec
      → slice_get ps j ≡ Some q
      → q.path ≡ spec.path
      → GiveNone (tables q.path).signatures
  pub of_others : (spec : ImportSpec)
      → Contains (imports_of tree) spec
      → IsNotGiven ps spec.path
      → GiveNone (declared spec.path).signatures

-- some function of this package gives a cancel function, as is declared
pub record DeclaresGiver (declared : Tables) (path : List ℕ) : Type 0 where
  pub name : List ℕ
  pub facts : FunctionFacts
  pub is_declared : (declared path).signatures name ≡ Some facts
  pub gives : facts.gives ≡ [] → ⊥

pub record DeclaredGiversCount : Type 0 where
  pub of_tables : (declared : Tables) (ps : List LoadedPackage) (tables : Tables)
      → AreTables declared ps tables
      → HaveDeclared declared ps tables
  -- it is enough to ask so
  pub are_asked : (declared : Tables) (ps : List LoadedPackage) (tables : Tables) (p : LoadedPackage) (number : ℕ)
      (tree : SourceFile)
      → HaveDeclared declared ps tables
      → slice_get (trees_of p) number ≡ Some tree
      → GiveNone (signatures_of ps p)
      → ImportsGiveNone declared ps tables tree
      → NamesNoGiver ps tables p number tree
  -- a file that imports a package of which a giver is declared is not one that names no giver
  pub count : (declared : Tables) (ps : List LoadedPackage) (tables : Tables) (p : LoadedPackage) (number : ℕ)
      (tree : SourceFile) (spec : ImportSpec)
      → HaveDeclared declared ps tables
      → Contains (imports_of tree) spec
      → IsNotGiven ps spec.path
      → DeclaresGiver declared spec.path
      → NamesNoGiver ps tables p number tree
      → ⊥
