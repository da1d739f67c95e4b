use Rattle.std.proofs.Common.{◌≡◌, IfOk, map, subst}
use Rattle.certificate_json.specs.Certificates.{rows_in}
use Rattle.certificate_json.proofs.rows.Rows.to_lists.Goals as goal

pub returns : goal.returns
returns c =
    subst (λ ms. IfOk c.lists_of.result (λ lists. map (λ list. list.items) lists.items ≡ rows_in c.args.self.now.widths.items ms))
    c.deref-2.ensures.value
    (subst (λ ws. IfOk c.lists_of.result (λ lists. map (λ list. list.items) lists.items ≡ rows_in ws c.deref-2.result.now))
    c.deref.ensures.value c.lists_of.ensures)
