-- The texts that a tree keeps of tokens: a name's, and what stands between a string's quotes. Each is UTF-8.
use Rattle.std.specs.Prelude.{◌≡◌, ℕ, ◌+◌, ◌-◌, ◌<◌, true, List, [], length, get_or, slice_range}
use Rattle.std.specs.Str.{is_utf8}
use Rattle.lexer.specs.declared.token.Token.{Token}
use Rattle.lexer.specs.declared.token.TokenKind.{TokenKind}
use Rattle.lexer.specs.declared.token.TokenKind.TheVariants.{Identifier, InterpretedString, RawString}

abbrev pub kept_between : List ℕ → TokenKind → ℕ → ℕ → List ℕ
kept_between text Identifier start end = slice_range text start end
kept_between text InterpretedString start end = slice_range text (start + 1) (end - 1)
kept_between text RawString start end = slice_range text (start + 1) (end - 1)
kept_between text kind start end = []

abbrev pub kept_text : List ℕ → Token → List ℕ
kept_text text t = kept_between text t.kind t.start t.end

abbrev pub HasWords : List ℕ → List Token → Type 0
HasWords text tokens =
    (i : ℕ) (t : Token) → i < length tokens → is_utf8 (kept_text text (get_or tokens i t)) ≡ true
