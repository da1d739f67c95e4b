use Rattle.code.proofs.Codes.{code_view-Leave}
use Rattle.body_code.proofs.site.leaving.Goals as goal

pub returns : goal.returns
returns g c = c.then.ensures _ _ c.site.ensures (code_view-Leave c.args.way)
