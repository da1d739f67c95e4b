use Rattle.std.proofs.Common.{sym, ◌∙◌}
use Rattle.std.proofs.lemmas.Result.{err_from_is_err_and}
use Rattle.parser_base.specs.Places.{cursor, parts_of, go_text}
use Rattle.parser_parts.proofs.ConstraintTerms.{constraint-read, no-constraint, constraint-fails}
use Rattle.parser_base.proofs.Faults.{is_stopped}
use Rattle.parser_parts.proofs.constraints.all_terms.Goals as goal

pub returns-in_err-read : goal.returns-in_err-read
returns-in_err-read g c =
    let p = err_from_is_err_and c.from_residual-in_err-read.result c.from_residual-in_err-read.ensures.1 in
    rw (p.1, p.2) (constraint-fails (go_text c.args.source) (parts_of c.args.source) (cursor c.args.source c.args.place) _ _ c.in_ok-first.ensures c.in_err-read.field-0.0 c.in_err-read.ensures)

pub returns-then-not-is_constraint : goal.returns-then-not-is_constraint
returns-then-not-is_constraint g c =
    is_stopped c.unexpected.result _ (no-constraint (go_text c.args.source) (parts_of c.args.source) (cursor c.args.source c.args.place) _ _ c.in_ok-first.ensures _ _ c.in_ok-read.ensures (sym c.is_constraint.ensures ∙ c.if-not-is_constraint.true))

pub returns : goal.returns
returns g c =
    constraint-read (go_text c.args.source) (parts_of c.args.source) (cursor c.args.source c.args.place) _ _ c.in_ok-first.ensures _ _ c.in_ok-read.ensures (sym c.is_constraint.ensures ∙ c.if-not-is_constraint.false)
