-- A file is read in two steps: what it begins with, and its declarations.
use Rattle.std.proofs.Common.{◌≡◌, ℕ, List, Option, Some, None, refl, ◌∙◌}
use Rattle.std.specs.Prelude.{option_and_then}
use Rattle.tree.specs.Syntax.{Identifier, ImportDeclaration, TopLevelDeclaration, SourceFile}
use Rattle.lexer.specs.declared.token.TokenKind.TheVariants.{PackageKeyword}
use Rattle.meaning.specs.Cursor.{Cursor, GoText}
use Rattle.tree_reader.specs.Reader.{read_imports, read_top_levels, read_file, read_file_within}
use Rattle.tree_reader.specs.Reading.{Read, take, steps, span_between, take_semicolon, read_identifier}
use Rattle.parser.specs.FileParts.{read_front}

-- four steps, and then others, are one step and then others
module _ {N C I Z : Type 0} (g : (N × I) × C → Option Z) where
  rejoin_last : (n : N) (o : Option (I × C)) → option_and_then (λ (is : I × C). g ((n, is.0), is.1)) o ≡ option_and_then g (option_and_then (λ (is : I × C). Some ((n, is.0), is.1)) o)
  rejoin_last n None = refl
  rejoin_last n (Some is) = refl

  module _ {E : Type 0} (third : E → Option (I × C)) where
    rejoin_third : (n : N) (o : Option E) → option_and_then (λ (e : E). option_and_then (λ (is : I × C). g ((n, is.0), is.1)) (third e)) o ≡ option_and_then g (option_and_then (λ (e : E). option_and_then (λ (is : I × C). Some ((n, is.0), is.1)) (third e)) o)
    rejoin_third n None = refl
    rejoin_third n (Some e) = rejoin_last n (third e)

    module _ (second : C → Option E) where
      rejoin_second : (o : Option (N × C)) → option_and_then (λ (n : N × C). option_and_then (λ (e : E). option_and_then (λ (is : I × C). g ((n.0, is.0), is.1)) (third e)) (second n.1)) o ≡ option_and_then g (option_and_then (λ (n : N × C). option_and_then (λ (e : E). option_and_then (λ (is : I × C). Some ((n.0, is.0), is.1)) (third e)) (second n.1)) o)
      rejoin_second None = refl
      rejoin_second (Some n) = rejoin_third n.0 (second n.1)

      rejoin_first : {W : Type 0} (first : W → Option (N × C)) (o : Option W) → option_and_then (λ (w : W). option_and_then (λ (n : N × C). option_and_then (λ (e : E). option_and_then (λ (is : I × C). g ((n.0, is.0), is.1)) (third e)) (second n.1)) (first w)) o ≡ option_and_then g (option_and_then (λ (w : W). option_and_then (λ (n : N × C). option_and_then (λ (e : E). option_and_then (λ (is : I × C). Some ((n.0, is.0), is.1)) (third e)) (second n.1)) (first w)) o)
      rejoin_first first None = refl
      rejoin_first first (Some w) = rejoin_second (first w)

module _ (text : GoText) (place : Cursor) where
  abbrev file_of : Identifier × List ImportDeclaration → List TopLevelDeclaration × Cursor → SourceFile × Cursor
  file_of front ds =
      (record { package_name = front.0; imports = front.1; declarations = ds.0; span = span_between place ds.1 }, ds.1)

  abbrev after_file_front : (Identifier × List ImportDeclaration) × Cursor → Read SourceFile
  after_file_front front =
      option_and_then (λ (ds : List TopLevelDeclaration × Cursor). Some (file_of front.0 ds)) (read_top_levels text (steps front.1) front.1)

  in_two : read_file text place ≡ option_and_then after_file_front (read_front text place)
  unfolding read_file_within read_front
  in_two =
      rejoin_first after_file_front (λ (end : Cursor). read_imports text (steps end) end) take_semicolon (λ (word : Cursor). read_identifier text word) (take PackageKeyword place)

  pub no_front : read_front text place ≡ None → read_file text place ≡ None
  no_front e = in_two ∙ rw e refl

  module _ (front : Identifier × List ImportDeclaration) (rest : Cursor) (read : read_front text place ≡ Some (front, rest)) where
    pub no_declarations : read_top_levels text (steps rest) rest ≡ None → read_file text place ≡ None
    no_declarations e = in_two ∙ rw (read, e) refl

    pub whole_file : (ds : List TopLevelDeclaration) (end : Cursor) → read_top_levels text (steps rest) rest ≡ Some (ds, end) → read_file text place ≡ Some (file_of front (ds, end))
    whole_file ds end e = in_two ∙ rw (read, e) refl
