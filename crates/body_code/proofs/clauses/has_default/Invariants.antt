use Rattle.std.proofs.Common.{◌≡◌, drop}
use Rattle.tree.specs.View.{cases_syntax}
use Rattle.meaning.specs.StatementCode.{has_default}
use Rattle.body_code.proofs.clauses.has_default.Given as goal

-- that one of those that are left is the default is that one of all is
abbrev pub invariant-loop-clause : goal.invariant-loop-clause
invariant-loop-clause l = has_default (cases_syntax (drop l.clause-index l.clauses)) ≡ has_default (cases_syntax l.clauses)
