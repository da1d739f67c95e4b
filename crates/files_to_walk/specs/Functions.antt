-- What the functions of a package give and take, by the facts of their names.
use Rattle.std.specs.Prelude.{ℕ, ◌&&◌, Bool, false, List, Option, None, Some}
use Rattle.std.specs.List.{list_any}
use Rattle.tree.specs.Syntax.{SourceFile, TopLevelDeclaration, function_declaration, general_declaration}
use Rattle.meaning.specs.FunctionFacts.{FunctionFacts}
use Rattle.meaning.specs.OuterBlocks.{can_be_meant, has_any}
use Rattle.meaning_reports.specs.PackageTables.{tells}

abbrev pub gives_by : Option FunctionFacts → Bool
gives_by None = false
gives_by (Some facts) = has_any facts.gives

-- the declaration is of a function that can be meant by its name, whose facts are such
abbrev pub declares : (Option FunctionFacts → Bool) → (List ℕ → Option FunctionFacts) → TopLevelDeclaration → Bool
declares is_such facts (function_declaration f) = can_be_meant f && is_such (facts f.name.text)
declares is_such facts (general_declaration d) = false

-- it gives a cancel function
abbrev pub declares_giver : (List ℕ → Option FunctionFacts) → TopLevelDeclaration → Bool
declares_giver = declares gives_by

-- it has a parameter or a result that is tracked
abbrev pub declares_told : (List ℕ → Option FunctionFacts) → TopLevelDeclaration → Bool
declares_told = declares tells

abbrev pub has_giver : (List ℕ → Option FunctionFacts) → SourceFile → Bool
has_giver facts tree = list_any (declares_giver facts) tree.declarations

abbrev pub has_told : (List ℕ → Option FunctionFacts) → SourceFile → Bool
has_told facts tree = list_any (declares_told facts) tree.declarations
