use Rattle.std.proofs.Common.{Some, ap}
use Rattle.tree.proofs.Views.{statement_form-Assign, statement_form-Define, statement_form-Decl}
use Rattle.meaning.specs.Mentions.{ordinary}
use Rattle.marks.proofs.FoundOut.{other_row}
use Rattle.marks.proofs.WalkSteps.{assigned_row, defined_row}
use Rattle.marks.proofs.rows.row_in.Goals as goal

pub returns-in-Assign : goal.returns-in-Assign
returns-in-Assign c =
    rw (c.in-Assign.is, statement_form-Assign)
    (ap Some
    (assigned_row ordinary c.args.statement.now.span.start _ _ _ _ c.deref.ensures.value c.deref-in-Assign.ensures.value))

pub returns-in-Define : goal.returns-in-Define
returns-in-Define c =
    rw (c.in-Define.is, statement_form-Define)
    (ap Some
    (defined_row ordinary c.args.statement.now.span.start _ _ _ _ c.deref-in-Define.ensures.value
    c.deref-in-Define-2.ensures.value))

pub returns-in-Decl : goal.returns-in-Decl
returns-in-Decl c =
    rw (c.in-Decl.is, statement_form-Decl, ← c.deref-in-Decl.ensures.value)
    c.last_row.ensures

pub returns-in_default : goal.returns-in_default
returns-in_default c =
    other_row c.args.statement.now.kind c.args.statement.now.span (λ d is. c.in_default.not-Decl _ is)
    (λ ls rs is. c.in_default.not-Assign _ _ is) (λ ns rs is. c.in_default.not-Define _ _ is)
