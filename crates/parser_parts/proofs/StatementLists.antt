-- Lists of statements.
use Rattle.std.proofs.Common.{◌≡◌, ℕ, ◌-◌, ◌+◌, ◌<◌, ◌≤◌, true, false, List, [], ◌∷◌, ◌++◌, Some, None, refl, ap, ◌∙◌}
use Rattle.tree.specs.declared.statement.Stmt.{Stmt}
use Rattle.tree.specs.Syntax.{Statements, statement_and, no_statement}
use Rattle.tree.specs.View.{statement_syntax, statements_syntax}
use Rattle.meaning.specs.Cursor.{Cursor, is_next, GoText}
use Rattle.tree_reader.specs.Reader.{Readers, ends_statements, read_statements}
use Rattle.tree_reader.specs.Reading.{Read, skip_semicolons, steps, take_semicolon}
use Rattle.parser_base.proofs.Growing.{prepend, prepend-all, after, starts, runs_out, ends, fails, goes_on}
use Rattle.parser_base.proofs.Faults.{fails_too}
use Rattle.parser_base.specs.declared.fault.Stop.{Stop}
use Rattle.parser_base.specs.Gives.{Stops}

abbrev pub and_statement : Stmt → Statements → Statements
and_statement s ss = statement_and (statement_syntax s) ss

pub all_statements : (ss : List Stmt) → prepend and_statement ss no_statement ≡ statements_syntax ss
all_statements ss = prepend-all and_statement no_statement statements_syntax refl (λ s ss. refl) ss

module _ (text : GoText) (r : Readers) where
  pub statements-start : (count : ℕ) (place : Cursor) → count ≡ steps place → after and_statement [] (read_statements text r (count - 0) place) ≡ read_statements text r (steps place) place
  statements-start count place same = starts and_statement (read_statements text r) count (steps place) place same

  -- in a round, after those statements, of so many rounds
  module _ (items : List Stmt) (count i : ℕ) (rest : Cursor) (total : Read Statements) (so_far : after and_statement items (read_statements text r (count - i) rest) ≡ total) where
    pub statements-run-out : count ≤ i → total ≡ None
    unfolding read_statements
    statements-run-out le =
        runs_out and_statement (read_statements text r) items count i rest total so_far (λ place. refl) le

    -- with the next statement, behind the semicolons
    module _ (lt : i < count) (first : Cursor) (skipped : first ≡ skip_semicolons rest) where
      pub statements-end : is_next ends_statements first ≡ true → total ≡ Some (statements_syntax items, first)
      unfolding read_statements
      statements-end e =
          ends and_statement (read_statements text r) items count i rest total so_far lt no_statement first (λ n. rw (← skipped, e) refl) ∙ ap (λ (ss : Statements). Some (ss, first)) (all_statements items)

      module _ (going : is_next ends_statements first ≡ false) where
        pub statement-fails : (e : Stop) → Stops e (r.read_statement first) → Stops e total
        unfolding read_statements
        statement-fails e h =
            fails_too e (r.read_statement first) total h (λ none. fails and_statement (read_statements text r) items count i rest total so_far lt (λ n. rw (← skipped, going, none) refl))

        module _ (s : Stmt) (next : Cursor) (read : r.read_statement first ≡ Some (statement_syntax s, next)) where
          pub statement-unended : (e : Stop) → Stops e (take_semicolon next) → Stops e total
          unfolding read_statements
          statement-unended e h =
              fails_too e (take_semicolon next) total h (λ none. fails and_statement (read_statements text r) items count i rest total so_far lt (λ n. rw (← skipped, going, read, none) refl))

          pub statements-more : (end : Cursor) → take_semicolon next ≡ Some end → after and_statement (items ++ s ∷ []) (read_statements text r (count - (i + 1)) end) ≡ total
          unfolding read_statements
          statements-more end taken =
              goes_on and_statement (read_statements text r) items count i rest total so_far lt s end (λ n. rw (← skipped, going, read, taken) refl)
