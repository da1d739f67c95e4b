-- The imports and the declarations of a file, as loops read them.
use Rattle.std.proofs.Common.{◌≡◌, ℕ, suc, ◌-◌, ◌+◌, ◌<◌, ◌≤◌, true, false, List, [], ◌∷◌, ◌++◌, map, Option, Some, None, refl, ap, ◌∙◌}
use Rattle.std.specs.Prelude.{option_and_then}
use Rattle.lexer.specs.declared.token.TokenKind.TheVariants.{ImportKeyword}
use Rattle.tree.specs.declared.file.ImportDecl.{ImportDecl}
use Rattle.tree.specs.declared.file.TopLevelDecl.{TopLevelDecl}
use Rattle.tree.specs.Syntax.{ImportDeclaration, TopLevelDeclaration}
use Rattle.tree.specs.View.{import_syntax, top_level_syntax}
use Rattle.meaning.specs.Cursor.{Cursor, GoText}
use Rattle.tree_reader.specs.Reader.{is_over, read_import, read_imports, read_top_level, read_top_levels, read_top_levels_within}
use Rattle.tree_reader.specs.Reading.{Read, stands, steps, take_semicolon}
use Rattle.parser_base.proofs.Growing.{prepend, prepend-all, after, starts, runs_out, ends, fails, goes_on}
use Rattle.parser_base.proofs.Faults.{fails_too}
use Rattle.parser_base.specs.declared.fault.Stop.{Stop}
use Rattle.parser_base.specs.Gives.{Stops}
use Rattle.parser.specs.FileParts.{read_declared}

abbrev pub and_import : ImportDecl → List ImportDeclaration → List ImportDeclaration
and_import i is = import_syntax i ∷ is

all_imports : (is : List ImportDecl) → prepend and_import is [] ≡ map import_syntax is
all_imports is = prepend-all and_import [] (map import_syntax) refl (λ x xs. refl) is

module _ (text : GoText) where
  pub imports-start : (place : Cursor) (count : ℕ) → count ≡ steps place → after and_import [] (read_imports text (count - 0) place) ≡ read_imports text (steps place) place
  imports-start place count same = starts and_import (read_imports text) count (steps place) place same

  -- in a round, after those imports, of so many rounds
  module _ (items : List ImportDecl) (count i : ℕ) (rest : Cursor) (total : Read (List ImportDeclaration)) (so_far : after and_import items (read_imports text (count - i) rest) ≡ total) where
    pub imports-run-out : count ≤ i → total ≡ None
    unfolding read_imports
    imports-run-out le =
        runs_out and_import (read_imports text) items count i rest total so_far (λ place. refl) le

    module _ (lt : i < count) where
      pub imports-end : stands ImportKeyword rest ≡ false → total ≡ Some (map import_syntax items, rest)
      unfolding read_imports
      imports-end e =
          ends and_import (read_imports text) items count i rest total so_far lt [] rest (λ n. rw e refl) ∙ ap (λ (is : List ImportDeclaration). Some (is, rest)) (all_imports items)

      module _ (word : stands ImportKeyword rest ≡ true) where
        pub import-fails : (e : Stop) → Stops e (read_import text rest) → Stops e total
        unfolding read_imports
        import-fails e h =
            fails_too e (read_import text rest) total h (λ none. fails and_import (read_imports text) items count i rest total so_far lt (λ n. rw (word, none) refl))

        module _ (x : ImportDecl) (end : Cursor) (read : read_import text rest ≡ Some (import_syntax x, end)) where
          pub import_semicolon-fails : (e : Stop) → Stops e (take_semicolon end) → Stops e total
          unfolding read_imports
          import_semicolon-fails e h =
              fails_too e (take_semicolon end) total h (λ none. fails and_import (read_imports text) items count i rest total so_far lt (λ n. rw (word, read, none) refl))

          pub imports-go-on : (next : Cursor) → take_semicolon end ≡ Some next → after and_import (items ++ x ∷ []) (read_imports text (count - (i + 1)) next) ≡ total
          unfolding read_imports
          imports-go-on next taken =
              goes_on and_import (read_imports text) items count i rest total so_far lt x next (λ n. rw (word, read, taken) refl)

abbrev pub and_top_level : TopLevelDecl → List TopLevelDeclaration → List TopLevelDeclaration
and_top_level d ds = top_level_syntax d ∷ ds

all_top_levels : (ds : List TopLevelDecl) → prepend and_top_level ds [] ≡ map top_level_syntax ds
all_top_levels ds = prepend-all and_top_level [] (map top_level_syntax) refl (λ x xs. refl) ds

-- two steps, and then others, are one step and then others
module _ {A C D : Type 0} (g : A → C → Option D) where
  rejoin-second : (x : A) (second : Option C) → option_and_then (λ (end : C). g x end) second ≡ option_and_then (λ (d : A × C). g d.0 d.1) (option_and_then (λ (end : C). Some (x, end)) second)
  rejoin-second x None = refl
  rejoin-second x (Some end) = refl

  rejoin : (first : Option (A × C)) (f : C → Option C) → option_and_then (λ (x : A × C). option_and_then (λ (end : C). g x.0 end) (f x.1)) first ≡ option_and_then (λ (d : A × C). g d.0 d.1) (option_and_then (λ (x : A × C). option_and_then (λ (end : C). Some (x.0, end)) (f x.1)) first)
  rejoin None f = refl
  rejoin (Some x) f = rejoin-second x.0 (f x.1)

module _ (text : GoText) where
  one_declared : (n : ℕ) (place : Cursor) → is_over text place ≡ false → read_top_levels text (suc n) place ≡ option_and_then (λ (d : TopLevelDeclaration × Cursor). option_and_then (λ (more : List TopLevelDeclaration × Cursor). Some (d.0 ∷ more.0, more.1)) (read_top_levels text n d.1)) (read_declared text place)
  unfolding read_top_levels_within read_declared
  one_declared n place left =
      rw left (rejoin (λ (x : TopLevelDeclaration) (end : Cursor). option_and_then (λ (more : List TopLevelDeclaration × Cursor). Some (x ∷ more.0, more.1)) (read_top_levels text n end)) (read_top_level text place) take_semicolon)

  pub top_levels-start : (place : Cursor) (count : ℕ) → count ≡ steps place → after and_top_level [] (read_top_levels text (count - 0) place) ≡ read_top_levels text (steps place) place
  top_levels-start place count same = starts and_top_level (read_top_levels text) count (steps place) place same

  -- in a round, after those declarations, of so many rounds
  module _ (items : List TopLevelDecl) (count i : ℕ) (rest : Cursor) (total : Read (List TopLevelDeclaration)) (so_far : after and_top_level items (read_top_levels text (count - i) rest) ≡ total) where
    pub top_levels-run-out : count ≤ i → total ≡ None
    unfolding read_top_levels_within
    top_levels-run-out le =
        runs_out and_top_level (read_top_levels text) items count i rest total so_far (λ place. refl) le

    module _ (lt : i < count) where
      pub top_levels-end : is_over text rest ≡ true → total ≡ Some (map top_level_syntax items, rest)
      unfolding read_top_levels_within
      top_levels-end e =
          ends and_top_level (read_top_levels text) items count i rest total so_far lt [] rest (λ n. rw e refl) ∙ ap (λ (ds : List TopLevelDeclaration). Some (ds, rest)) (all_top_levels items)

      module _ (left : is_over text rest ≡ false) where
        pub top_level-fails : (e : Stop) → Stops e (read_declared text rest) → Stops e total
        top_level-fails e h =
            fails_too e (read_declared text rest) total h (λ none. fails and_top_level (read_top_levels text) items count i rest total so_far lt (λ n. one_declared n rest left ∙ rw none refl))

        pub top_levels-go-on : (x : TopLevelDecl) (next : Cursor) → read_declared text rest ≡ Some (top_level_syntax x, next) → after and_top_level (items ++ x ∷ []) (read_top_levels text (count - (i + 1)) next) ≡ total
        top_levels-go-on x next read =
            goes_on and_top_level (read_top_levels text) items count i rest total so_far lt x next (λ n. one_declared n rest left ∙ rw read refl)
