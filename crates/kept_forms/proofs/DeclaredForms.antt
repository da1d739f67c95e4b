-- Rows that declare one name.
use Rattle.std.proofs.Common.{◌≡◌, ℕ, false, if◌then◌else◌, ◌&&◌, List, [], ◌∷◌, length, map, Option, Some, None, is_none, refl, ap, arith}
use Rattle.std.specs.Prelude.{◌==◌}
use Rattle.std.proofs.lemmas.Bool.{ne_eqb}
use Rattle.tree.specs.declared.operator.DeclKeyword.TheVariants.{Const, Var, «Type» as type_keyword}
use Rattle.tree.specs.Syntax.{Identifier, Expression, Expressions, no_expression, expression_and, missing_expression, present_expression}
use Rattle.tree.specs.View.{optional_expression_of}
use Rattle.tracked_rows.specs.RowViews.{only_value_of as only_one}
use Rattle.meaning.specs.Mentions.{RowForm, defines, assigns, declares}
use Rattle.meaning.specs.Kept.{only_value_of, some_fields, declared_fields}
use Rattle.kept_forms.specs.FormViews.{declares_one}

pub same_only : (es : Expressions) → only_one es ≡ only_value_of es
same_only no_expression = refl
same_only (expression_and e no_expression) = refl
same_only (expression_and e (expression_and f es)) = refl

pub more_than_one : (n : ℕ) → (Rattle.std.specs.Prelude.suc (Rattle.std.specs.Prelude.suc n) == 1) ≡ false
more_than_one n = ne_eqb _ 1 (λ e. omega (arith, e))

module _ {X : Type 0} (f : X → Identifier) where
  pub one_defined : (ns : List X) → (length ns == 1) ≡ declares_one (defines (map f ns))
  one_defined [] = refl
  one_defined (n ∷ []) = refl
  one_defined (n ∷ m ∷ ns) = more_than_one (length ns)

  pub one_declared : (ns : List X) (t : Option Expression)
      → ((length ns == 1) && is_none t) ≡ declares_one (declares Var (map f ns) (optional_expression_of t))
  one_declared [] t = refl
  one_declared (n ∷ []) None = refl
  one_declared (n ∷ []) (Some t) = refl
  one_declared (n ∷ m ∷ ns) t = ap (λ b. b && is_none t) (more_than_one (length ns))

pub declared_if : (form : RowForm) (es : Expressions)
    → declared_fields form es ≡ (if declares_one form then some_fields (only_value_of es) else [])
declared_if (defines []) es = refl
declared_if (defines (n ∷ [])) es = refl
declared_if (defines (n ∷ m ∷ ns)) es = refl
declared_if (assigns ls) es = refl
declared_if (declares Const ns t) es = refl
declared_if (declares Var [] t) es = refl
declared_if (declares Var (n ∷ []) missing_expression) es = refl
declared_if (declares Var (n ∷ []) (present_expression t)) es = refl
declared_if (declares Var (n ∷ m ∷ ns) t) es = refl
declared_if (declares type_keyword ns t) es = refl
