-- The items of a return, as the program keeps them.
use Rattle.std.proofs.Common.{◌≡◌, ◌≢◌, ◌⊎◌, inl, inr, ℕ, ◌<◌, ◌≤◌, eqb, Bool, true, false, ◌&&◌, ◌||◌, List, [], ◌∷◌, length, get_or, map, Option, Some, None, option_map, refl, sym, ap, ◌∙◌}
use Rattle.std.specs.Prelude.{slice_get, codes, ◌==◌}
use Rattle.std.proofs.lemmas.Bool.Decides.{eqb_tells}
use Rattle.std.proofs.lemmas.List.{length-map}
use Rattle.std.proofs.lemmas.Option.{slice_get-map, slice_get_read, slice_get_past}
use Rattle.tree.specs.declared.expression.Expr.{Expr}
use Rattle.tree.specs.View.{expression_syntax, expressions_syntax}
use Rattle.tree.specs.Syntax.{Expression}
use Rattle.meaning.specs.Mentions.{as_bare}
use Rattle.meaning.specs.FunctionFacts.{Meanings, Unless, listed, means_universe, is_nil_at, has_nil_at_one}

pub listed-map : (es : List Expr) → listed (expressions_syntax es) ≡ map expression_syntax es
listed-map [] = refl
listed-map (e ∷ es) = ap (λ l. expression_syntax e ∷ l) (listed-map es)

pub listed-length : (es : List Expr) → length es ≡ length (listed (expressions_syntax es))
listed-length es = sym (ap length (listed-map es) ∙ length-map es expression_syntax)

module _ (es : List Expr) (k : ℕ) where
  listed-get : slice_get (listed (expressions_syntax es)) k ≡ option_map expression_syntax (slice_get es k)
  listed-get = ap (λ l. slice_get l k) (listed-map es) ∙ slice_get-map expression_syntax es k

  pub item-there : (e : Expr) → k < length es → e ≡ get_or es k e
      → Some (expression_syntax e) ≡ slice_get (listed (expressions_syntax es)) k
  item-there e within is = sym (listed-get ∙ ap (option_map expression_syntax) (slice_get_read es (length es) k e refl within is))

  pub item-past : length es ≤ k → None ≡ slice_get (listed (expressions_syntax es)) k
  item-past past = sym (listed-get ∙ ap (option_map expression_syntax) (slice_get_past es k past))

-- whether an item is the universe's `nil`
abbrev pub nil_in : Meanings → Option Expression → Bool
nil_in means None = false
nil_in means (Some e) = means_universe means (codes "nil") (as_bare e)

-- a return has `nil` at one of two positions

or-first : (b g e : Bool) → b ≡ true → b ≡ g → b ≡ (g || e)
or-first b true e is same = is
or-first b false e is same = let bad : true ≡ false = sym is ∙ same in cc

or-second : (g e r : Bool) → g ≡ false → r ≡ e → r ≡ (g || e)
or-second false e r not same = same
or-second true e r not same = let bad : true ≡ false = not in cc

module _ (means : Meanings) (count : ℕ) (u : Unless) (es : List Expr) where
  abbrev items : List Expression
  items = listed (expressions_syntax es)

  as-many : length es ≡ count → (length items == count) ≡ true
  as-many same = ap (λ n. n == count) (sym (listed-length es) ∙ same) ∙ itself (eqb_tells count count)
    where
      itself : ((eqb count count ≡ true) × (count ≡ count)) ⊎ ((eqb count count ≡ false) × (count ≢ count)) → (count == count) ≡ true
      itself (inl both) = both.0
      itself (inr both) = absurd (both.1 refl)

  has : (r : Bool) → length es ≡ count → r ≡ (is_nil_at means u.given items || is_nil_at means u.error items)
      → r ≡ has_nil_at_one means count u items
  has r same is =
      is ∙ sym (ap (λ t. t && (is_nil_at means u.given items || is_nil_at means u.error items)) (as-many same))

  pub given-nil : (r : Bool) → length es ≡ count → r ≡ true → r ≡ is_nil_at means u.given items → r ≡ has_nil_at_one means count u items
  given-nil r same nil is =
      has r same (or-first r (is_nil_at means u.given items) (is_nil_at means u.error items) nil is)

  pub error-nil : (g r : Bool) → length es ≡ count → g ≡ false → g ≡ is_nil_at means u.given items
      → r ≡ is_nil_at means u.error items → r ≡ has_nil_at_one means count u items
  error-nil g r same none isnt is =
      has r same (or-second (is_nil_at means u.given items) (is_nil_at means u.error items) r (sym isnt ∙ none) is)

  pub other-many : (length es ≡ count → ⊥) → (length es == count) ≡ has_nil_at_one means count u items
  other-many differ = by (eqb_tells (length es) count)
    where
      by : ((eqb (length es) count ≡ true) × (length es ≡ count)) ⊎ ((eqb (length es) count ≡ false) × (length es ≢ count))
          → (length es == count) ≡ has_nil_at_one means count u items
      by (inl both) = absurd (differ both.1)
      by (inr both) =
          both.0 ∙ sym (ap (λ n. (n == count) && (is_nil_at means u.given items || is_nil_at means u.error items)) (sym (listed-length es))
          ∙ ap (λ t. t && (is_nil_at means u.given items || is_nil_at means u.error items)) both.0)
