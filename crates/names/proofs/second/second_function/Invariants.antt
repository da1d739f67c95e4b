use Rattle.std.proofs.Common.{map, drop}
use Rattle.tree.specs.View.{file_syntax}
use Rattle.meaning.specs.TwoFunctions.{function_names_from, second_function}
use Rattle.names.proofs.SecondFunctions.{has_name, IsLeft}
use Rattle.names.proofs.second.second_function.Given as goal

-- the answer is what is found among the functions of the files that are left
abbrev pub invariant-loop-number : goal.invariant-loop-number
invariant-loop-number l =
    let rest = function_names_from l.number (map file_syntax (drop l.number l.files)) in
    IsLeft (has_name l.seen) rest (second_function (map file_syntax l.files))
