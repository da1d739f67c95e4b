use Rattle.sarif.proofs.SarifPieces.{kind_first, kind_second}
use Rattle.sarif.proofs.sarif_rules.run_kind.Goals as goal

pub returns-in-First : goal.returns-in-First
returns-in-First c = kind_first _ c.in-First.is

pub returns-in-Second : goal.returns-in-Second
returns-in-Second c = kind_second _ c.in-Second.is
