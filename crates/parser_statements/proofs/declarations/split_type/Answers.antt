use Rattle.std.proofs.Common.{◌≡◌, Bool, true, false, sym, ◌∙◌, ap, subst}
use Rattle.std.specs.Prelude.{not}
use Rattle.std.proofs.lemmas.Bool.{and_parts}
use Rattle.std.proofs.lemmas.Result.{err_from_is_err_and}
use Rattle.tree.specs.View.{expression_syntax, identifier_syntax, spec_and}
use Rattle.meaning.specs.Cursor.{start_at}
use Rattle.parser_base.specs.Gives.{Gives}
use Rattle.parser_base.specs.Places.{cursor, go_text, seen}
use Rattle.parser_statements.specs.SplitConstraint.{constraint_of, has_comma}
use Rattle.parser_statements.proofs.SplitParameters.{never_fails, not_true, IsSplit, length-split, name-made, split-generic}
use Rattle.parser_statements.proofs.declarations.split_type.Goals as goal

pub returns-in_err-constraint : goal.returns-in_err-constraint
returns-in_err-constraint g c =
    let plain = and_parts _ _ (sym c.ends_plainly.ensures ∙ c.if-not-ends_plainly.false) in
    let it = length-split (go_text c.args.source) c.args.source.below (cursor c.args.source c.args.length.from)
    (cursor c.args.source c.args.length.place) (expression_syntax c.args.length.first) c.requires.read
    c.requires.is_parameter (not_true _ plain.0) in
    let p = err_from_is_err_and c.from_residual.result c.from_residual.ensures.1 in
    rw (p.1, p.2) (never_fails c.in_err-constraint.field-0.0 _ _ _
    (ap (λ s. constraint_of s (expression_syntax c.args.length.first)) (c.start-start.ensures ∙ ap start_at c.behind.ensures)
    ∙ it.found) c.in_err-constraint.ensures)

pub returns-in_err-params : goal.returns-in_err-params
returns-in_err-params g c =
    let plain = and_parts _ _ (sym c.ends_plainly.ensures ∙ c.if-not-ends_plainly.false) in
    let made = name-made (go_text c.args.source) c.args.source.below (cursor c.args.source c.args.length.from)
    (cursor c.args.source c.args.length.place) (expression_syntax c.args.length.first) c.requires.read
    c.requires.is_parameter (not_true _ plain.0) (expression_syntax c.in_ok-constraint.constraint) in
    let p = err_from_is_err_and c.from_residual-in_err-params.result c.from_residual-in_err-params.ensures.1 in
    rw (p.1, p.2) (never_fails c.in_err-params.field-0.0 _ _ _ made c.in_err-params.ensures)

pub returns : goal.returns
returns g c =
    let plain = and_parts _ _ (sym c.ends_plainly.ensures ∙ c.if-not-ends_plainly.false) in
    subst (Gives (seen c.args.source spec_and) c.plain_type.result)
    (split-generic (go_text c.args.source) c.args.source.below (cursor c.args.source c.args.length.from)
    (cursor c.args.source c.args.length.place) (expression_syntax c.args.length.first) c.requires.read
    c.requires.is_parameter (not_true _ plain.0) (cursor c.args.source c.args.declared.place) c.requires.inner
    (expression_syntax c.in_ok-constraint.constraint)
    (ap (λ s. constraint_of s (expression_syntax c.args.length.first)) (sym (c.start-start.ensures ∙ ap start_at c.behind.ensures))
    ∙ c.in_ok-constraint.ensures) (sym c.is_constraint.ensures ∙ c.if-not-is_constraint.false)
    (cursor c.args.source c.args.declared.from) (identifier_syntax c.args.declared.first) _ c.requires.bracket plain.1
    c.in_ok-params.ensures) (rw c.behind-2.ensures at c.plain_type.ensures)
