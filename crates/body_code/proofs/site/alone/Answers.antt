use Rattle.code.proofs.Codes.{code_view-Alone}
use Rattle.body_code.proofs.site.alone.Goals as goal

pub returns : goal.returns
returns g c = code_view-Alone record { at = c.args.at; order = 0; event = c.args.event }
