use Rattle.std.proofs.Common.{drop}
use Rattle.lexer.specs.Tokens.{mark_size}
use Rattle.lexer.proofs.Cuts.{one_cut}
use Rattle.lexer.proofs.laws.one_cut.Goals as goal

pub returns : goal.returns
returns c = λ text ps qs d e. one_cut (drop (mark_size text) text) qs ps e d
