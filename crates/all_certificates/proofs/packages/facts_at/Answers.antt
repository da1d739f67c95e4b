use Rattle.std.proofs.Common.{length, refl, sym, ◌∙◌, subst}
use Rattle.std.proofs.lemmas.Option.{none-some, same_Some, slice_get_past, slice_get_read}
use Rattle.std.proofs.lemmas.Result.{IfOk-weaker}
use Rattle.whole_packages.specs.LoadedViews.{TellsPackage}
use Rattle.all_certificates.proofs.packages.facts_at.Goals as goal

pub returns-in-Some : goal.returns-in-Some
returns-in-Some c =
    let packages = c.args.packages.now in
    let loaded = c.in-Some.loaded.now in
    let is = slice_get_read packages (length packages) c.args.place loaded refl c.in-Some.ensures.lookup.3.0
    c.in-Some.ensures.lookup.1 in
    IfOk-weaker c.package_table.result _ _
    (λ facts are k ps tables i p is_k tells is_table.
    are ps tables i p (subst (TellsPackage p) (same_Some k loaded (sym is_k ∙ is)) tells) is_table)
    c.package_table.ensures

pub returns-in-None : goal.returns-in-None
returns-in-None c = λ k ps tables i p is_k tells is_table.
    absurd (none-some k (sym (slice_get_past c.args.packages.now c.args.place c.in-None.ensures.lookup.3) ∙ is_k))
