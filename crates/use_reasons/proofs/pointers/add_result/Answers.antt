use Rattle.std.proofs.Common.{refl}
use Rattle.tree.proofs.Views.{parameter_and-Named, parameter_and-Unnamed, parameter_and-NameAlone}
use Rattle.use_reasons.specs.ReasonViews.{reason_in}
use Rattle.use_reasons.proofs.FirstReasons.{adds_none}
use Rattle.use_reasons.proofs.pointers.add_result.Goals as goal

pub returns-in-Named : goal.returns-in-Named
returns-in-Named c = rw (c.in-Named.is, parameter_and-Named) c.add_name.ensures

pub returns-in-Unnamed : goal.returns-in-Unnamed
returns-in-Unnamed c = rw (c.in-Unnamed.is, parameter_and-Unnamed) (adds_none (reason_in c.args.pointers.now) _ (λ n. refl))

pub returns-in-NameAlone : goal.returns-in-NameAlone
returns-in-NameAlone c = rw (c.in-NameAlone.is, parameter_and-NameAlone) c.add_name-in-NameAlone.ensures
