-- What is declared outside functions: by imports, in the file block, and by all files of a package, in the package
-- block around it. In each the first declaration of a name counts, by file and offset; among imports those of the paths
-- `context` and `golang.org/x/sync/errgroup` come first. The blank identifier declares nothing. Methods declare nothing
-- here, and neither does a function that is called `init`.
-- (The Go specification, "Declarations and scope", "Import declarations", "Package initialization".)
use Rattle.std.specs.Prelude.{ℕ, ◌==◌, Bool, true, false, not, ◌&&◌, ◌||◌, if◌then◌else◌, List, [], ◌∷◌, ◌++◌, Option, Some, None, is_none, codes}
use Rattle.std.specs.List.{list_any}
use Rattle.std.specs.Str.{bytes_eq}
use Rattle.lexer.specs.Bytes.{slash}
use Rattle.tree.specs.Syntax.{Identifier, ImportSpec, ImportDeclaration, Specs, no_spec, value_and, type_and, declaration_of, Function, TopLevelDeclaration, function_declaration, general_declaration, SourceFile}
use Rattle.meaning.specs.Scopes.{is_blank}

-- Imports

abbrev pub specs_of : List ImportDeclaration → List ImportSpec
specs_of [] = []
specs_of (d ∷ ds) = d.specs ++ specs_of ds

abbrev pub has_slash : List ℕ → Bool
has_slash = list_any (λ b. b == slash)

-- what follows the last slash of a path; where that is no identifier, no use has it for a name
abbrev pub last_element : List ℕ → List ℕ
last_element [] = []
last_element (b ∷ bs) = if has_slash (b ∷ bs) then last_element bs else b ∷ bs

-- the names in the package clauses of the packages that were given, by path
abbrev pub PackageNames : Type 0
PackageNames = List ℕ → Option (List ℕ)

abbrev pub or_last_element : Option (List ℕ) → List ℕ → List ℕ
or_last_element None path = last_element path
or_last_element (Some name) path = name

-- the name that an import declares: the one that is written, else that of the package which was given by that path,
-- else the path's last element
abbrev pub import_name_of : PackageNames → Option Identifier → List ℕ → List ℕ
import_name_of packages None path = or_last_element (packages path) path
import_name_of packages (Some n) path = n.text

-- the name is that of the import, whose own name is `other`
abbrev pub is_called : List ℕ → List ℕ → Bool
is_called name other = bytes_eq name other && not (is_blank other)

-- the paths whose imports come first
abbrev pub is_first_path : List ℕ → Bool
is_first_path path = bytes_eq path (codes "context") || bytes_eq path (codes "golang.org/x/sync/errgroup")

abbrev pub any_path : List ℕ → Bool
any_path path = true

-- the path of the first import that declares the name, among those of certain paths
abbrev pub import_among : (List ℕ → Bool) → PackageNames → List ℕ → List ImportSpec → Option (List ℕ)
import_among is_path packages name [] = None
import_among is_path packages name (s ∷ ss) =
    if is_path s.path && is_called name (import_name_of packages s.name s.path) then Some s.path
    else import_among is_path packages name ss

abbrev pub or_else : {A : Type 0} → Option A → Option A → Option A
or_else None other = other
or_else (Some a) other = Some a

abbrev pub has_any : {A : Type 0} → List A → Bool
has_any [] = false
has_any (a ∷ rest) = true

abbrev pub import_meant : PackageNames → List ImportSpec → List ℕ → Option (List ℕ)
import_meant packages specs name =
    or_else (import_among is_first_path packages name specs) (import_among any_path packages name specs)

-- The package block

-- a name that is declared outside functions, and whether it is a function's
pub record PackageLevel : Type 0 where
  pub name : List ℕ
  pub is_function : Bool

abbrev pub declares_at_package_level : Bool → List ℕ → List PackageLevel
declares_at_package_level is_function name =
    if is_blank name then [] else record { name = name; is_function = is_function } ∷ []

abbrev pub names_at_package_level : List Identifier → List PackageLevel
names_at_package_level [] = []
names_at_package_level (n ∷ ns) = declares_at_package_level false n.text ++ names_at_package_level ns

abbrev pub specs_at_package_level : Specs → List PackageLevel
specs_at_package_level no_spec = []
specs_at_package_level (value_and ns t es span specs) =
    names_at_package_level ns ++ specs_at_package_level specs
specs_at_package_level (type_and n ps is_alias t span specs) =
    declares_at_package_level false n.text ++ specs_at_package_level specs

abbrev pub is_init : List ℕ → Bool
is_init name = bytes_eq name (codes "init")

-- the functions that can be referred to by their names alone: no methods, and none that is called `init` or `_`
abbrev pub can_be_meant : Function → Bool
can_be_meant f = is_none f.receiver && (not (is_blank f.name.text) && not (is_init f.name.text))

abbrev pub declaration_at_package_level : TopLevelDeclaration → List PackageLevel
declaration_at_package_level (function_declaration f) =
    if can_be_meant f then declares_at_package_level true f.name.text else []
declaration_at_package_level (general_declaration (declaration_of keyword specs is_grouped span)) =
    specs_at_package_level specs

abbrev pub declarations_at_package_level : List TopLevelDeclaration → List PackageLevel
declarations_at_package_level [] = []
declarations_at_package_level (d ∷ ds) = declaration_at_package_level d ++ declarations_at_package_level ds

-- file by file
abbrev pub package_block : List SourceFile → List PackageLevel
package_block [] = []
package_block (file ∷ files) = declarations_at_package_level file.declarations ++ package_block files

abbrev pub package_meant : List PackageLevel → List ℕ → Option PackageLevel
package_meant [] name = None
package_meant (d ∷ ds) name = if bytes_eq d.name name then Some d else package_meant ds name
