use Rattle.lexer.proofs.Whole.{one_token_list}
use Rattle.lexer.proofs.laws.one_token_list.Goals as goal

pub returns : goal.returns
returns c = one_token_list
