use Rattle.std.proofs.Common.{Some, rules, subst}
use Rattle.all_certificates.proofs.EntryOfBody.{entry_so}
use Rattle.certificates.specs.BodyRows.{AreLeastIf}
use Rattle.all_certificates.proofs.entries.entry_of.Goals as goal

pub returns-in_ok-of_lists-in-Some-2 : goal.returns-in_ok-of_lists-in-Some-2
returns-in_ok-of_lists-in-Some-2 c = λ number seen b told tells.
    entry_so _ _ number seen b c.args.body.now c.in-Some.file _ c.in-Some-2.lists.items tells (search rules)
    (subst (AreLeastIf seen b _) {x = c.in_ok-lists.field-0} {y = Some c.in-Some-2.lists} (search rules)
    (c.in_ok-lists.ensures number seen b told tells)) (search rules)
