-- Which statements give no occurrence, as the program tells it.
use Rattle.std.proofs.Common.{◌≡◌, ℕ, Bool, false, ◌==◌, ◌&&◌, List, [], ◌∷◌, length, refl, sym, ap, ◌∙◌, ne_eqb, arith}
use Rattle.reasons.specs.Branches.{is_silent_form, are_silent}
use Rattle.tree.specs.declared.operator.DeclKeyword.{DeclKeyword}
use Rattle.tree.specs.declared.declaration.Spec.{Spec, Value', Type'}
use Rattle.tree.specs.declared.span.Span.{Span}
use Rattle.tree.specs.declared.statement.Stmt.{Stmt}
use Rattle.tree.specs.Syntax.{declaration_statement, declaration_of, Specs}
use Rattle.tree.specs.View.{spec_and, specs_syntax, statement_form, statements_syntax}

module _ (keyword : DeclKeyword) (is_grouped : Bool) (span : Span) where
  abbrev silent : Specs → Bool
  silent ss = is_silent_form (declaration_statement (declaration_of keyword ss is_grouped span))

  one_spec : (s : Spec) (rest : Specs) → silent (spec_and s rest) ≡ false
  unfolding is_silent_form spec_and
  one_spec (Value' ns t shape es at) rest = refl
  one_spec (Type' n shape ps alias p t t_span at) rest = refl

  pub no_specs : (specs : List Spec) (n : ℕ) → n ≡ length specs → (n == 0) ≡ silent (specs_syntax specs)
  unfolding is_silent_form
  no_specs [] n e = ap (λ m. m == 0) e
  no_specs (s ∷ ss) n e =
      ap (λ m. m == 0) e ∙ ne_eqb (length (s ∷ ss)) 0 (λ none. omega (arith, none)) ∙ sym (one_spec s (specs_syntax ss))

pub silent_first : (s : Stmt) (rest : List Stmt)
    → are_silent (statements_syntax (s ∷ rest)) ≡ is_silent_form (statement_form s.kind) && are_silent (statements_syntax rest)
unfolding are_silent
silent_first s rest = refl
