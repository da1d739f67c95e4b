use Rattle.std.proofs.Common.{IsTrue, map, refl, sym, ap, ◌∙◌, subst}
use Rattle.std.specs.Prelude.{◌↔◌}
use Rattle.bodies.specs.Solutions.{cancel_arrives, group_arrives}
use Rattle.credits.proofs.ReliedOn.{unasked}
use Rattle.credits.specs.BodyPaths.{TellsPaths}
use Rattle.credits.specs.CreditViews.{has}
use Rattle.credits.specs.ReliedOn.{asks_return}
use Rattle.events.specs.VariableViews.{variable_view}
use Rattle.meaning.specs.Mentions.{BodyPlace}
use Rattle.mentions.specs.MarkViews.{body_view}
use Rattle.meaning.specs.Uses.{goes_off}
use Rattle.meaning_packages.specs.Credits.{MayComeBack, no_calls, promises_in}
use Rattle.meaning_packages.specs.PathFaults.{paths_of}
use Rattle.calls_flags.proofs.ComesBack.{back_alone}
use Rattle.verifier.proofs.LeftNumbers.{has_first}
use Rattle.verifier.specs.Verified.{nothing_known}
use Rattle.verifier.proofs.relied.comes_back.Goals as goal

pub returns-then-not-asks_return : goal.returns-then-not-asks_return
returns-then-not-asks_return c = λ file seen b tells is_kept.
    let asks =
    ap (λ e. asks_return e (goes_off (body_view c.args.body.now.place).literal)) tells.is_edition
    ∙ ap (λ (p : BodyPlace). asks_return seen.known.edition (goes_off p.literal)) tells.is_place in
    let back = unasked seen.known.edition (goes_off b.literal) (paths_of seen nothing_known b)
    (sym asks ∙ sym c.asks_return.ensures ∙ c.if-not-asks_return.true) in
    (λ e. back, λ h. refl)

pub returns : goal.returns
returns c = λ file seen b tells is_kept.
    let promises = promises_in no_calls (has c.args.credits.now) b.at in
    let paths = paths_of seen promises b in
    let answer = c.may_come_back.result in
    let first = has_first file seen b c.args.body.now tells c.args.kept.now is_kept in
    let told = c.may_come_back.ensures paths
    (subst (λ vs. TellsPaths paths c.args.kept.now.graph (map variable_view vs)
    (cancel_arrives c.in_ok-solution.solution) (group_arrives c.in_ok-solution.solution)) (sym c.deref.ensures.value)
    (c.in_ok-solution.ensures.paths file seen b tells is_kept)) first.0 first.1 in
    let so = subst (λ e. IsTrue answer ↔ MayComeBack e (goes_off b.literal) paths) tells.is_edition
    (subst (λ (p : BodyPlace). IsTrue answer ↔ MayComeBack c.args.body.now.edition (goes_off p.literal) paths) tells.is_place
    told) in (
      λ e. back_alone seen.known.edition (goes_off b.literal) seen promises nothing_known b (so.0 e),
      λ h. so.1 (back_alone seen.known.edition (goes_off b.literal) seen nothing_known promises b h),
    )
