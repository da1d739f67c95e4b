use Rattle.std.proofs.Common.{refl}
use Rattle.called_parameters.proofs.AddedParameters.{added}
use Rattle.called_parameters.proofs.called.Called.add.Goals as goal

pub returns-clause-ok : goal.returns-clause-ok
returns-clause-ok c = λ name k.
    added _ (λ x y. refl) c.args.self.now.parameters.keys c.insert.new.self.keys c.args.parameter
    c.in_ok-insert.ensures.updates.1 c.in_ok-insert.ensures.updates.3 name k
