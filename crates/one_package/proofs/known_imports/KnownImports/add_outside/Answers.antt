use Rattle.std.proofs.Common.{subst}
use Rattle.imports.specs.Views.{text_views}
use Rattle.one_package.specs.Results.{told_by, KnowsAll}
use Rattle.one_package.proofs.known_imports.KnownImports.add_outside.Goals as goal

pub returns : goal.returns
returns c = λ js knows.
    subst (λ near. KnowsAll near (text_views c.args.paths.now) (told_by js) c.add_others.new.self) c.neighbours.ensures
    (c.in_ok-add_others.ensures (told_by js) knows)
