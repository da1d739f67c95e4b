use Rattle.std.proofs.Common.{subst}
use Rattle.one_package.specs.Results.{told_and, told_by, KnowsTold}
use Rattle.one_package.proofs.ToldImports.{told_more}
use Rattle.one_package.proofs.known_imports.KnownImports.add.Goals as goal

pub returns : goal.returns
returns c = λ js knows.
    let one = c.args.one.now in
    subst (λ told. KnowsTold told c.add_told.new.self) (told_more js one)
    (subst (λ b. KnowsTold (told_and (told_by js) one.report.path.now (record { table = one.table; is_yes = b })) c.add_told.new.self)
    c.is_yes.ensures (c.in_ok-add_told.ensures (told_by js) knows))
