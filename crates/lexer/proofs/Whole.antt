-- What the loop over the pieces gives at its ends, and laws of the tokens of a text.
use Rattle.std.proofs.Common.{◌≡◌, ℕ, List, drop, None, sym, ap, ◌∙◌}
use Rattle.lexer.specs.declared.token.Token.{Token}
use Rattle.lexer.specs.Semicolons.{tokens_from}
use Rattle.lexer.specs.Tokens.{mark_size, IsTokens}
use Rattle.lexer.proofs.Cuts.{one_cut}

-- a text has one token list
pub one_token_list : (text : List ℕ) (ts us : List Token) → IsTokens text ts → IsTokens text us → ts ≡ us
one_token_list text ts us t u =
    t.listed ∙ (ap (tokens_from (mark_size text) None) (one_cut (drop (mark_size text) text) u.pieces t.pieces u.cut t.cut) ∙ sym u.listed)
