use Rattle.std.proofs.Common.{◌≡◌, ◌++◌, drop}
use Rattle.tree.specs.View.{cases_syntax}
use Rattle.meaning.specs.StatementCode.{clauses_fall}
use Rattle.body_code.proofs.falls.clauses_fall.Given as goal

-- what was found with what is left is the whole
abbrev pub invariant-loop-clause : goal.invariant-loop-clause
invariant-loop-clause l =
    l.falls.items ++ clauses_fall (cases_syntax (drop l.clause-index l.clauses)) ≡ clauses_fall (cases_syntax l.clauses)
