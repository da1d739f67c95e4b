use Rattle.tree.specs.View.{parameters_syntax}
use Rattle.parser_base.proofs.Constrained.{none_before, param_named, param_alone, param_unnamed, params_end}
use Rattle.parser_base.proofs.shapes.end_constrained.Goals as goal
use Rattle.parser_base.proofs.shapes.end_constrained.Goals.{in-Named, in-NameAlone}

pub loop-param-init : goal.loop-param-init
loop-param-init c = none_before (parameters_syntax c.args.params.now)

pub loop-param-preserved : goal.loop-param-preserved
loop-param-preserved c =
    elim c.match-param.branch [
      | in-Named w ↦
          rw w.is_constrained-is
          (param_named c.args.params.now c.loop-param.param-index c.loop-param-test.true _ c.param-item.is _ _ c.loop-param.invariant _ _ _ w.in-Named.is)
      | in-NameAlone w ↦
          rw w.is_constrained-is
          (param_alone c.args.params.now c.loop-param.param-index c.loop-param-test.true _ c.param-item.is _ _ c.loop-param.invariant _ w.in-NameAlone.is)
    ]

pub returns-in-Unnamed : goal.returns-in-Unnamed
returns-in-Unnamed c =
    param_unnamed c.args.params.now c.loop-param.param-index c.loop-param-test.true _ c.param-item.is _ _ c.loop-param.invariant _ _ c.in-Unnamed.is

pub returns : goal.returns
returns c = params_end c.args.params.now c.loop-param.param-index _ _ c.loop-param.invariant c.loop-param-test.false
