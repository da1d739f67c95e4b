use Rattle.std.proofs.Common.{◌≡◌, ◌+◌, suc, length, map, subst, sym, arith, ap, ◌∙◌, option_map}
use Rattle.std.proofs.lemmas.List.{length-map}
use Rattle.std.proofs.lemmas.Option.{slice_get-map, slice_get-get_or}
use Rattle.events.specs.VariableViews.{variable_view}
use Rattle.bodies.proofs.PlacedVariables.{placed, not_full}
use Rattle.bodies.specs.Places.{ArePlaced}
use Rattle.bodies.specs.declared.places.Places.{Places}
use Rattle.bodies.proofs.places.place_all.Goals as goal

pub loop-variable-preserved : goal.loop-variable-preserved
loop-variable-preserved c =
    let views = map variable_view c.args.variables.now in
    let index = c.loop-variable.variable-index in
    let next : suc c.loop-variable.variable-index ≡ c.loop-variable.variable-index + 1 = omega arith in
    subst (λ k. ArePlaced views k c.add.new.self) next
    (placed views index _ c.loop-variable.places c.add.new.self
    (slice_get-map variable_view c.args.variables.now index
    ∙ ap (option_map variable_view) (slice_get-get_or c.args.variables.now index _ c.loop-variable-test.true))
    c.loop-variable.invariant (c.in_ok-add.ensures.placed c.if-not-branch.false))

pub returns-then-not-branch : goal.returns-then-not-branch
returns-then-not-branch c =
    let views = map variable_view c.args.variables.now in
    let index = c.loop-variable.variable-index in
    let before = c.loop-variable.places in
    let so_far = c.loop-variable.invariant in
    record {
      placed =
          subst (λ (s : Places). ArePlaced views (length s.firsts.items) s)
          (sym (c.in_ok-add.ensures.kept c.if-not-branch.true))
          (subst (λ k. ArePlaced views k before) (sym so_far.counted) so_far);
      all = λ few.
          absurd (not_full views few index before so_far _
          (slice_get-map variable_view c.args.variables.now index
          ∙ ap (option_map variable_view) (slice_get-get_or c.args.variables.now index _ c.loop-variable-test.true))
          (c.in_ok-add.ensures.full c.if-not-branch.true));
    }

pub returns : goal.returns
returns c =
    let views = map variable_view c.args.variables.now in
    let so_far = c.loop-variable.invariant in
    let all : c.loop-variable.variable-index ≡ length c.args.variables.now =
    omega (arith, c.loop-variable.auto.variable-index-end, c.loop-variable-test.false) in
    record {
      placed = subst (λ k. ArePlaced views k c.loop-variable.places) (sym so_far.counted) so_far;
      all = λ few. so_far.counted ∙ all ∙ sym (length-map c.args.variables.now variable_view);
    }
