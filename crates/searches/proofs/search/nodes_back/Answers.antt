use Rattle.std.proofs.Common.{◌<◌, ◌++◌, Option, Some, None, List, ℕ, get_or, refl, sym, subst}
use Rattle.std.proofs.lemmas.Option.{slice_get-get_or}
use Rattle.searches.proofs.Trails.{IsLeft, turns_left, goes_back, falls}
use Rattle.searches.specs.Searched.{IsTrail}
use Rattle.searches.specs.declared.search.Step.{Step}
use Rattle.searches.proofs.search.nodes_back.Goals as goal

pub loop-next-init : goal.loop-next-init
loop-next-init c = (
  c.requires.within,
  λ rest trail.
      subst (λ (ns : List ℕ). IsTrail c.args.steps.now c.args.last (ns ++ rest)) (sym c.new-nodes.ensures.items) trail,
)

pub loop-next-preserved : goal.loop-next-preserved
loop-next-preserved c =
    let steps = c.args.steps.now in
    let number = c.in-Some.number in
    let step : Step = get_or steps number record { node = 0; class = 0; before = None } in
    let left : IsLeft steps c.args.last c.loop-next.nodes.items (Some c.in-Some.number) =
    subst (λ (o : Option ℕ). IsLeft steps c.args.last c.loop-next.nodes.items o) c.in-Some.is c.loop-next.invariant in
    subst (λ (ns : List ℕ). IsLeft steps c.args.last ns step.before) (sym c.in_ok-push.ensures.items)
    (goes_back steps c.args.last c.requires.earlier c.loop-next.nodes.items number step
    (slice_get-get_or steps number record { node = 0; class = 0; before = None } left.0) left step.before refl)

pub loop-next-smaller : goal.loop-next-smaller
loop-next-smaller c =
    let steps = c.args.steps.now in
    let number = c.in-Some.number in
    let step : Step = get_or steps number record { node = 0; class = 0; before = None } in
    let left : IsLeft steps c.args.last c.loop-next.nodes.items (Some c.in-Some.number) =
    subst (λ (o : Option ℕ). IsLeft steps c.args.last c.loop-next.nodes.items o) c.in-Some.is c.loop-next.invariant in
    subst (λ (o : Option ℕ). turns_left step.before < turns_left o) (sym c.in-Some.is)
    (falls steps c.requires.earlier number step
    (slice_get-get_or steps number record { node = 0; class = 0; before = None } left.0) step.before refl)

pub returns : goal.returns
returns c =
    subst (λ (o : Option ℕ). IsLeft c.args.steps.now c.args.last c.loop-next.nodes.items o) c.in_default.is
    c.loop-next.invariant
