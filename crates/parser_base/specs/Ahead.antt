-- In how many brackets the tokens stand that come, as a number that goes up and down.
use Rattle.std.specs.Prelude.{ℕ, suc, ◌-◌}
use Rattle.lexer.specs.declared.token.TokenKind.{TokenKind}
use Rattle.lexer.specs.declared.token.TokenKind.TheVariants.{LeftParenthesis, RightParenthesis, LeftBracket, RightBracket, LeftBrace, RightBrace}

-- in how many brackets the token behind one of this kind stands
abbrev pub nesting_past : TokenKind → ℕ → ℕ
nesting_past LeftParenthesis n = suc n
nesting_past LeftBracket n = suc n
nesting_past LeftBrace n = suc n
nesting_past RightParenthesis n = n - 1
nesting_past RightBracket n = n - 1
nesting_past RightBrace n = n - 1
nesting_past kind n = n
