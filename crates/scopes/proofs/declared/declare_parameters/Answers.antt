use Rattle.std.proofs.Common.{◌≡◌, ◌+◌, drop, ap, ◌∙◌}
use Rattle.meaning.specs.Scopes.{parameters_declared}
use Rattle.tree.specs.declared.expression.Param.{Param}
use Rattle.tree.specs.View.{parameters_syntax, parameter_and}
use Rattle.tree.proofs.Depths.{drop_item}
use Rattle.tree.proofs.Views.{parameter_and-Named, parameter_and-Unnamed, parameter_and-NameAlone}
use Rattle.scopes.proofs.Adding.{adds_next, adds_nothing}
use Rattle.scopes.proofs.declared.declare_parameters.Goals as goal
use Rattle.scopes.proofs.declared.declare_parameters.Goals.{in-Named+in_ok-declare_parameter-in-Named, in-Unnamed, in-NameAlone+in_ok-declare_parameter-in-NameAlone}

pub loop-param-preserved : goal.loop-param-preserved
loop-param-preserved c =
    let at = c.args.block in
    let items = c.args.params.now in
    let i = c.loop-param.param-index in
    let rest = parameters_syntax (drop (i + 1) items) in
    let parts = ap (λ l. parameters_declared at (parameters_syntax l)) (drop_item items i c.param-item.result c.loop-param-test.true c.param-item.is) in
    let first : (p : Param) → c.param-item.result ≡ p
    → parameters_declared at (parameters_syntax (drop i items)) ≡ parameters_declared at (parameter_and p rest)
    = λ p e. parts ∙ ap (λ p. parameters_declared at (parameter_and p rest)) e in
    elim c.match-param.branch [
      | in-Named+in_ok-declare_parameter-in-Named w ↦
          rw w.namings-is (adds_next _ _ _ _ _ _ c.loop-param.invariant
          (first _ w.in-Named.is ∙ ap (parameters_declared at) (parameter_and-Named _ _ _ _)) w.in_ok-declare_parameter-in-Named.ensures)
      | in-Unnamed w ↦
          rw w.namings-is (adds_next _ _ _ _ _ _ c.loop-param.invariant
          (first _ w.in-Unnamed.is ∙ ap (parameters_declared at) (parameter_and-Unnamed _ _ _)) (adds_nothing _))
      | in-NameAlone+in_ok-declare_parameter-in-NameAlone w ↦
          rw w.namings-is (adds_next _ _ _ _ _ _ c.loop-param.invariant
          (first _ w.in-NameAlone.is ∙ ap (parameters_declared at) (parameter_and-NameAlone _ _)) w.in_ok-declare_parameter-in-NameAlone.ensures)
    ]
