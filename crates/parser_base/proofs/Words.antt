-- The texts of tokens are UTF-8 where the source says so.
use Rattle.std.proofs.Common.{◌≡◌, ℕ, ◌+◌, ◌-◌, ◌<◌, true, List, [], ◌∷◌, length, get_or, drop, slice_range, refl, sym, ap, ◌∙◌, arith}
use Rattle.std.specs.Str.{is_utf8}
use Rattle.std.proofs.lemmas.List.{get_or-drop, length-drop}
use denote.Enum.Bare.{same_true}
use Rattle.lexer.specs.contracts.token.TokenKind.{the_type}
use Rattle.lexer.specs.Spelling.{same_kind}
use Rattle.lexer.specs.declared.token.Token.{Token}
use Rattle.lexer.specs.declared.token.TokenKind.{TokenKind}
use Rattle.lexer.specs.declared.token.TokenKind.TheVariants.{Identifier, InterpretedString, RawString}
use Rattle.tree.specs.declared.edition.Edition.{Edition}
use Rattle.meaning.specs.Cursor.{is_next, start_at, read_in}
use Rattle.tree_reader.specs.Reader.{is_string}
use Rattle.tree_reader.specs.Reading.{stands, behind, word_between}
use Rattle.parser_base.specs.Words.{kept_between, kept_text, HasWords}

abbrev pub FirstKept : List ℕ → List Token → Type 0
FirstKept text tokens = (t : Token) → 0 < length tokens → is_utf8 (kept_text text (get_or tokens 0 t)) ≡ true

first_kept : (text : List ℕ) (tokens : List Token) (at : ℕ) → HasWords text tokens → FirstKept text (drop at tokens)
first_kept text tokens at words t some =
    let here : at + 0 ≡ at = omega arith in
    let within : at < length tokens = omega (arith, length-drop at tokens) in
    ap (λ u. is_utf8 (kept_text text u)) (get_or-drop at tokens 0 t ∙ ap (λ i. get_or tokens i t) here) ∙ words at t within

kept-name : (text : List ℕ) (kind : TokenKind) (start end : ℕ) → same_kind kind Identifier ≡ true → kept_between text kind start end ≡ slice_range text start end
unfolding same_kind
kept-name text kind start end e = ap (λ k. kept_between text k start end) (same_true the_type tt kind Identifier e)

kept-string : (text : List ℕ) (kind : TokenKind) (start end : ℕ) → is_string kind ≡ true → kept_between text kind start end ≡ slice_range text (start + 1) (end - 1)
kept-string text InterpretedString start end e = refl
kept-string text RawString start end e = refl
kept-string text _ start end e = absurd cc

first-name : (edition : Edition) (text : List ℕ) (tokens : List Token) (end : ℕ) → FirstKept text tokens → stands Identifier (record { left = tokens; end = end }) ≡ true → is_utf8 (word_between (read_in edition text) (record { left = tokens; end = end }) (behind record { left = tokens; end = end })) ≡ true
unfolding stands
first-name edition text [] end kept e = absurd cc
first-name edition text (t ∷ rest) end kept e =
    ap is_utf8 (sym (kept-name text t.kind t.start t.end e)) ∙ kept t (omega arith)

first-string : (text : List ℕ) (tokens : List Token) (end : ℕ) → FirstKept text tokens → is_next is_string (record { left = tokens; end = end }) ≡ true → is_utf8 (slice_range text (start_at (record { left = tokens; end = end }) + 1) ((behind record { left = tokens; end = end }).end - 1)) ≡ true
first-string text [] end kept e = absurd cc
first-string text (t ∷ rest) end kept e =
    ap is_utf8 (sym (kept-string text t.kind t.start t.end e)) ∙ kept t (omega arith)

module _ (text : List ℕ) (tokens : List Token) (at end : ℕ) (words : HasWords text tokens) where
  pub name-utf8 : (edition : Edition) → stands Identifier (record { left = drop at tokens; end = end }) ≡ true → is_utf8 (word_between (read_in edition text) (record { left = drop at tokens; end = end }) (behind record { left = drop at tokens; end = end })) ≡ true
  name-utf8 edition e = first-name edition text (drop at tokens) end (first_kept text tokens at words) e

  pub string-utf8 : is_next is_string (record { left = drop at tokens; end = end }) ≡ true → is_utf8 (slice_range text (start_at (record { left = drop at tokens; end = end }) + 1) ((behind record { left = drop at tokens; end = end }).end - 1)) ≡ true
  string-utf8 e = first-string text (drop at tokens) end (first_kept text tokens at words) e
