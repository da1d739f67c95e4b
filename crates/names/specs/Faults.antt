-- Why names can't be resolved.
use Rattle.std.specs.Prelude.{◌≡◌, ⊤, List, Some}
use Rattle.tree.specs.Syntax.{SourceFile}
use Rattle.names.specs.declared.meanings.NameFault.{NameFault}
use Rattle.names.specs.declared.meanings.NameFault.TheVariants.{TwoFunctions, Memory}
use Rattle.names.specs.Answers.{function_name_view}
use Rattle.meaning.specs.TwoFunctions.{second_function}

-- a fault of two functions tells the first second one; want of memory may stand in place of any answer
abbrev pub IsSecond : List SourceFile → NameFault → Type 0
IsSecond files (TwoFunctions file name) = second_function files ≡ Some (function_name_view file name.now)
IsSecond files Memory = ⊤
