use Rattle.std.proofs.Common.{length, map, sym, ap, ◌∙◌, subst}
use Rattle.std.specs.Prelude.{IfSome, is_some}
use Rattle.events.specs.VariableViews.{variable_view}
use Rattle.checker.specs.Loaded.{AreLoaded}
use Rattle.checker.specs.NodeStates.{IsImageIf}
use Rattle.checker.proofs.Laid.{goes_as, none_loaded, goes_nowhere}
use Rattle.checker.proofs.edges.goes_into.Goals as goal

pub returns-in-Some-state_of : goal.returns-in-Some-state_of
returns-in-Some-state_of c = λ p e before laid of.
    let l = c.args.laid_out.now in
    let views = map variable_view l.variables.now in
    goes_as l p e before c.args.masks.now laid c.in-Some.image.words c.in-Some-state_of.state.words c.is_within.result
    (subst (IsImageIf l p e before) c.in-Some.is of)
    (subst (λ o. IfSome o (λ state. AreLoaded views c.args.masks.now (length views) state.words)) c.in-Some-state_of.is
    c.state_of.ensures.loaded)
    c.is_within.ensures

pub returns-in-None : goal.returns-in-None
returns-in-None c = λ p e before laid of.
    none_loaded c.args.laid_out.now p e before c.args.masks.now laid
    (sym c.state_of.ensures.there ∙ ap is_some c.in-None.is)

pub returns-in_default : goal.returns-in_default
returns-in_default c = λ p e before laid of.
    goes_nowhere c.args.laid_out.now p e before c.args.masks.now laid _
    (subst (IsImageIf c.args.laid_out.now p e before) c.in_default.is of)
