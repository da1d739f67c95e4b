-- The facts of a function that can be meant, and of the first of several declarations.
use Rattle.std.proofs.Common.{◌≡◌, ℕ, Bool, true, false, ◌&&◌, if◌then◌else◌, List, [], ◌∷◌, Option, Some, None, Result, Ok, Err, OnOk, bytes_eq, refl, sym, ap, ◌∙◌, true≢false}
use Rattle.tree.specs.declared.edition.Edition.{Edition}
use Rattle.tree.specs.Syntax.{Function, TopLevelDeclaration, function_declaration, general_declaration}
use Rattle.meaning.specs.FunctionFacts.{Meanings, FunctionFacts, function_facts, facts_in}
use Rattle.meaning.specs.OuterBlocks.{can_be_meant, or_else}
use Rattle.first_values.specs.ValuesByName.{only_at}
use Rattle.names.proofs.Adding.{first_of}

module _ {A : Type 0} where
  meant : (b : Bool) → b ≡ true → (is_name : Bool) (found : A)
      → (if is_name then Some found else None) ≡ (if b && is_name then Some found else None)
  meant true e is_name found = refl
  meant false e is_name found = absurd (true≢false (sym e))

pub on_ok : {T E : Type 0} {P Q : Type 0} (r : Result T E) → (P → Q) → OnOk r P → OnOk r Q
on_ok (Ok t) f h = f h
on_ok (Err e) f h = h

module _ (edition : Edition) (means : Meanings) where
  pub function_added : (f : Function) → can_be_meant f ≡ true → (facts : FunctionFacts) → facts ≡ function_facts edition means f
      → (text : List ℕ) → text ≡ f.name.text → (before after : Option FunctionFacts) (name : List ℕ)
      → after ≡ or_else before (only_at text facts name)
      → after ≡ or_else before (facts_in edition means name (function_declaration f ∷ []))
  function_added f e facts are text same before after name h =
      h ∙ ap (or_else before)
      (ap (λ t. only_at t facts name) same
      ∙ (ap (λ x. only_at f.name.text x name) are
      ∙ meant (can_be_meant f) e (bytes_eq f.name.text name) (function_facts edition means f)))

  pub facts_split : (d : TopLevelDeclaration) (ds : List TopLevelDeclaration) (name : List ℕ)
      → facts_in edition means name (d ∷ ds) ≡ or_else (facts_in edition means name (d ∷ [])) (facts_in edition means name ds)
  facts_split (function_declaration f) ds name =
      first_of (can_be_meant f && bytes_eq f.name.text name) (function_facts edition means f) _ None _ refl
  facts_split (general_declaration d) ds name = refl
