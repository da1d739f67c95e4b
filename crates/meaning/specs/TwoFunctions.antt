-- Two functions of one name, which no package may have. Methods don't count, and neither do functions that are called
-- `init` or `_`. (The Go specification, "Declarations and scope", "Package initialization".)
use Rattle.std.specs.Prelude.{ℕ, ◌+◌, Bool, if◌then◌else◌, List, [], ◌∷◌, ◌++◌, Option, Some, None}
use Rattle.std.specs.List.{list_any}
use Rattle.std.specs.Str.{bytes_eq}
use Rattle.tree.specs.Syntax.{Identifier, TopLevelDeclaration, function_declaration, general_declaration, SourceFile}
use Rattle.meaning.specs.OuterBlocks.{can_be_meant}

-- a function's name, with the number of its file
pub record FunctionName : Type 0 where
  pub file : ℕ
  pub name : Identifier

abbrev pub function_names_in : ℕ → List TopLevelDeclaration → List FunctionName
function_names_in file [] = []
function_names_in file (function_declaration f ∷ ds) =
    if can_be_meant f then record { file = file; name = f.name } ∷ function_names_in file ds
    else function_names_in file ds
function_names_in file (general_declaration d ∷ ds) = function_names_in file ds

abbrev pub function_names_from : ℕ → List SourceFile → List FunctionName
function_names_from file [] = []
function_names_from file (f ∷ fs) = function_names_in file f.declarations ++ function_names_from (file + 1) fs

abbrev pub is_called_before : FunctionName → List FunctionName → Bool
is_called_before f earlier = list_any (λ e. bytes_eq e.name.text f.name.text) earlier

-- the first whose name an earlier one has
abbrev pub second_after : List FunctionName → List FunctionName → Option FunctionName
second_after earlier [] = None
second_after earlier (f ∷ fs) = if is_called_before f earlier then Some f else second_after (f ∷ earlier) fs

abbrev pub second_function : List SourceFile → Option FunctionName
second_function files = second_after [] (function_names_from 0 files)
