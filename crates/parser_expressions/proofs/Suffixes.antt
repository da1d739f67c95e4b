-- What follows an operand.
use Rattle.std.proofs.Common.{◌≡◌, ℕ, ◌+◌, ◌-◌, ◌<◌, ◌≤◌, Bool, true, false, Option, Some, None, refl, sym, ◌∙◌}
use Rattle.std.specs.Prelude.{nat_le, not, ◌&&◌, ◌||◌, if◌then◌else◌, option_and_then}
use Rattle.lexer.specs.declared.token.TokenKind.TheVariants.{Dot, LeftBracket, LeftParenthesis, LeftBrace}
use Rattle.tree.specs.Syntax.{Expression}
use Rattle.tree.specs.Depth.{expression_depth}
use Rattle.meaning.specs.Cursor.{Cursor, GoText}
use Rattle.tree_reader.specs.Reader.{Readers, is_guard, takes_braces, read_suffix, read_suffixes, read_assertion, read_selector, read_index, read_call, read_composite}
use Rattle.tree_reader.specs.Reading.{Read, stands, behind}
use Rattle.parser_base.specs.declared.fault.Stop.{Stop}
use Rattle.parser_base.specs.Gives.{Stops}
use Rattle.parser_base.specs.Parts.{goes_on}
use Rattle.parser_base.proofs.Faults.{fails_too}
use Rattle.parser_expressions.proofs.GrownExpressions.{grown-runs-out, grown-ends, grown-too-deep, grown-fails, grown-goes-on}

-- the tests of a suffix, over any answers to them
abbrev pub goes_by : Bool → Bool → Bool → Bool → Bool → Bool → Bool → Bool
goes_by dot guard bracket parenthesis brace header named =
    if dot then not guard else if bracket || parenthesis then true else brace && (not header && named)

abbrev suffix_by : {A : Type 0} → Bool → Bool → Bool → Bool → Bool → Bool → Bool → Bool → A → A → A → A → A → Option A
suffix_by dot guard asks bracket parenthesis brace header named assertion selector index call composite =
    if dot then (if guard then None else if asks then Some assertion else Some selector)
    else if bracket then Some index
    else if parenthesis then Some call
    else if brace && (not header && named) then Some composite
    else None

module _ {A : Type 0} (assertion selector index call composite : A) where
  stays_by : (dot guard asks bracket parenthesis brace header named : Bool) → goes_by dot guard bracket parenthesis brace header named ≡ false → suffix_by dot guard asks bracket parenthesis brace header named assertion selector index call composite ≡ None
  stays_by true true asks bracket parenthesis brace header named h = refl
  stays_by true false asks bracket parenthesis brace header named h = absurd cc
  stays_by false guard asks true parenthesis brace header named h = absurd cc
  stays_by false guard asks false true brace header named h = absurd cc
  stays_by false guard asks false false true true named h = refl
  stays_by false guard asks false false true false true h = absurd cc
  stays_by false guard asks false false true false false h = refl
  stays_by false guard asks false false false header named h = refl

module _ {B : Type 0} (assertion selector index call composite : Option B) where
  grows_by : (dot guard asks bracket parenthesis brace header named : Bool) → goes_by dot guard bracket parenthesis brace header named ≡ true → suffix_by dot guard asks bracket parenthesis brace header named assertion selector index call composite ≡ Some (option_and_then (λ (read : Option B). read) (suffix_by dot guard asks bracket parenthesis brace false named assertion selector index call composite))
  grows_by true true asks bracket parenthesis brace header named h = absurd cc
  grows_by true false true bracket parenthesis brace header named h = refl
  grows_by true false false bracket parenthesis brace header named h = refl
  grows_by false guard asks true parenthesis brace header named h = refl
  grows_by false guard asks false true brace header named h = refl
  grows_by false guard asks false false true true named h = absurd cc
  grows_by false guard asks false false true false true h = refl
  grows_by false guard asks false false true false false h = absurd cc
  grows_by false guard asks false false false header named h = absurd cc

-- what a suffix is read as, where the expression goes on
abbrev pub suffix_read : GoText → Readers → ℕ → Cursor → Expression → Cursor → Read Expression
suffix_read text r below from e place =
    option_and_then (λ (read : Read Expression). read) (read_suffix text r below false from e place)

module _ (text : GoText) (r : Readers) (below : ℕ) (header : Bool) (from : Cursor) (count i : ℕ) (e : Expression) (rest : Cursor) (total : Read Expression) (so_far : read_suffixes text r below header from (count - i) e rest ≡ total) where
  pub suffixes-run-out : count ≤ i → total ≡ None
  unfolding read_suffixes
  suffixes-run-out le =
      grown-runs-out text r below (read_suffixes text r below header from) count i e rest total so_far refl le

  module _ (lt : i < count) where
    pub suffixes-end : (goes : Bool) → goes ≡ goes_on text.edition header e rest → goes ≡ false → total ≡ Some (e, rest)
    unfolding read_suffixes
    suffixes-end goes same stays =
        grown-ends text r below (read_suffixes text r below header from) count i e rest total so_far lt (read_suffix text r below header from e rest) (λ n. refl) (stays_by (read_assertion text r below from e rest) (read_selector text r below from e rest) (read_index text r from e rest) (read_call text r below from e rest) (read_composite text r below from e rest) (stands Dot rest) (is_guard rest) (stands LeftParenthesis (behind rest)) (stands LeftBracket rest) (stands LeftParenthesis rest) (stands LeftBrace rest) header (takes_braces text.edition e) (sym same ∙ stays))

    module _ (goes : Bool) (same : goes ≡ goes_on text.edition header e rest) (on : goes ≡ true) where
      grows : read_suffix text r below header from e rest ≡ Some (suffix_read text r below from e rest)
      grows =
          grows_by (read_assertion text r below from e rest) (read_selector text r below from e rest) (read_index text r from e rest) (read_call text r below from e rest) (read_composite text r below from e rest) (stands Dot rest) (is_guard rest) (stands LeftParenthesis (behind rest)) (stands LeftBracket rest) (stands LeftParenthesis rest) (stands LeftBrace rest) header (takes_braces text.edition e) (sym same ∙ on)

      pub suffixes-too-deep : (fits : Bool) → fits ≡ nat_le (expression_depth e) below → fits ≡ false → total ≡ None
      unfolding read_suffixes
      suffixes-too-deep fits fits-same deep =
          grown-too-deep text r below (read_suffixes text r below header from) count i e rest total so_far lt (read_suffix text r below header from e rest) (λ n. refl) (suffix_read text r below from e rest) grows (sym fits-same ∙ deep)

      module _ (fits : Bool) (fits-same : fits ≡ nat_le (expression_depth e) below) (shallow : fits ≡ true) where
        pub suffixes-fail : (stop : Stop) → Stops stop (suffix_read text r below from e rest) → Stops stop total
        unfolding read_suffixes
        suffixes-fail stop h =
            fails_too stop (suffix_read text r below from e rest) total h (λ none. grown-fails text r below (read_suffixes text r below header from) count i e rest total so_far lt (read_suffix text r below header from e rest) (λ n. refl) (suffix_read text r below from e rest) grows (sym fits-same ∙ shallow) none)

        pub suffixes-more : (x : Expression) (end : Cursor) → suffix_read text r below from e rest ≡ Some (x, end) → read_suffixes text r below header from (count - (i + 1)) x end ≡ total
        unfolding read_suffixes
        suffixes-more x end read =
            grown-goes-on text r below (read_suffixes text r below header from) count i e rest total so_far lt (read_suffix text r below header from e rest) (λ n. refl) (suffix_read text r below from e rest) grows (sym fits-same ∙ shallow) x end read
