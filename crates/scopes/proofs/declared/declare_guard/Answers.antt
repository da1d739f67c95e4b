use Rattle.std.proofs.Common.{false}
use Rattle.meaning.specs.Scopes.{declared}
use Rattle.tree.specs.declared.operator.DeclKeyword.TheVariants.{Var}
use Rattle.scopes.proofs.Adding.{same_adds}
use Rattle.scopes.proofs.declared.declare_guard.Goals as goal

-- the code's name and place are the definition's
pub returns-in-Some : goal.returns-in-Some
returns-in-Some c =
    rw c.in-Some.is
    (same_adds _ _ _ _ _
    (λ i. declared
    record {
      name = c.as_str.ensures i;
      number = c.args.clause.start;
      kind = Var;
      block = c.args.clause;
      from = c.end_of_last.ensures i;
      is_short = false;
    })
    c.declare.ensures)
