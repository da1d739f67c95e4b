use Rattle.std.proofs.Common.{is_some, sym, ap, ◌∙◌}
use Rattle.vetx_tables.proofs.KeptFunctions.{fit_so}
use Rattle.vetx_tables.proofs.fits.kept_number.Goals as goal

pub returns-in-Some-clause-ok : goal.returns-in-Some-clause-ok
returns-in-Some-clause-ok c = fit_so c.args.number c.in-Some.kept (sym c.if_fits.ensures ∙ c.in-Some.is)

pub returns-in-None-clause-err : goal.returns-in-None-clause-err
returns-in-None-clause-err c = ap is_some (sym c.if_fits.ensures ∙ c.in-None.is)
