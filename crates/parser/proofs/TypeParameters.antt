-- Where a function's name is followed by a square bracket, the first edition reads no function: it leaves out type
-- parameters.
use Rattle.std.proofs.Common.{◌≡◌, ℕ, true, false, List, [], ◌∷◌, Some, None, refl}
use Rattle.lexer.specs.Spelling.{same_kind}
use Rattle.lexer.specs.declared.token.Token.{Token}
use Rattle.lexer.specs.declared.token.TokenKind.TheVariants.{LeftBracket}
use Rattle.tree.specs.Syntax.{Identifier, Parameters, no_parameter}
use Rattle.std.specs.Prelude.{Option}
use Rattle.meaning.specs.Cursor.{Cursor, GoText}
use Rattle.tree_reader.specs.Reader.{Readers, read_parameters, read_signature, read_receiver, is_second, read_function_parameters, read_function_declaration, read_function_declaration_within}
use Rattle.tree_reader.specs.Reading.{stands, behind, take, read_identifier}
use Rattle.tree_reader.proofs.Steps.{same_kind_is}
use Rattle.tree_reader.proofs.Taken.{when_false, and_not}

module _ (text : GoText) (r : Readers) where
  bracket-first : (t : Token) (rest : List Token) (end : ℕ) → t.kind ≡ LeftBracket → read_signature text r (record { left = t ∷ rest; end = end }) ≡ None
  unfolding read_signature read_parameters take stands same_kind
  bracket-first t rest end e = rw e refl

  bracket-from : (tokens : List Token) (end : ℕ) → stands LeftBracket (record { left = tokens; end = end }) ≡ true → read_signature text r (record { left = tokens; end = end }) ≡ None
  unfolding stands
  bracket-from [] end e = absurd cc
  bracket-from (t ∷ rest) end e = bracket-first t rest end (same_kind_is t.kind LeftBracket e)

  pub no_signature : (place : Cursor) → stands LeftBracket place ≡ true → read_signature text r place ≡ None
  no_signature place e = bracket-from place.left place.end e

pub no_function : (text : GoText) → is_second text.edition ≡ false → (place : Cursor) (on : Option Parameters) (at_name : Cursor) (name : Identifier) (rest : Cursor) → read_receiver text (behind place) ≡ Some (on, at_name) → read_identifier text at_name ≡ Some (name, rest) → stands LeftBracket rest ≡ true → read_function_declaration text place ≡ None
unfolding read_function_declaration_within read_function_parameters
no_function text first place on at_name name rest receiver named bracket =
    rw (receiver, named, first, no_signature text _ rest bracket) refl

-- a method has none
pub none_of_methods : (text : GoText) (most : ℕ) (on : Parameters) (place : Cursor) → read_function_parameters text most (Some on) place ≡ Some (no_parameter, place)
unfolding read_function_parameters
none_of_methods text most on place = when_false _ (and_not (is_second text.edition) refl) refl
