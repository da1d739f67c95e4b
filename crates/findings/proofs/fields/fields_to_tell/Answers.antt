use Rattle.std.proofs.Common.{Contains, subst, sym}
use Rattle.findings.proofs.KeptFields.{told_fields}
use Rattle.findings.proofs.fields.fields_to_tell.Goals as goal

pub returns-clause-fields : goal.returns-clause-fields
returns-clause-fields c = λ seens tell field.
    let told = told_fields seens c.args.files.now tell field in
    let same = c.names_in_order.ensures.same field in
    let all = c.in_ok-fields.ensures in (
      λ h. told.0 (subst (λ fs. Contains fs field) all (same.0 h)),
      λ kept. same.1 (subst (λ fs. Contains fs field) (sym all) (told.1 kept)),
    )
