-- Left sides, by their number.
use Rattle.std.proofs.Common.{◌≡◌, ℕ, ◌<◌, ◌≤◌, zero, suc, List, [], ◌∷◌, length, get_or, map, Some, None, option_map, refl, sym, ap, ◌∙◌}
use Rattle.std.specs.Prelude.{slice_get}
use Rattle.std.proofs.lemmas.List.{length-map}
use Rattle.std.proofs.lemmas.Option.{slice_get-map, slice_get_read, slice_get_past}
use Rattle.tree.specs.declared.expression.Expr.{Expr}
use Rattle.tree.specs.declared.span.Identifier.{Identifier as KeptIdentifier}
use Rattle.tree.specs.View.{identifier_syntax, expression_syntax, expressions_syntax}
use Rattle.meaning.specs.Tracked.{Left, left_of_name, left_of_expression, lefts_of_expressions}

abbrev pub left_in : Expr → Left
left_in e = left_of_expression (expression_syntax e)

pub lefts-map : (es : List Expr) → lefts_of_expressions (expressions_syntax es) ≡ map left_in es
lefts-map [] = refl
lefts-map (e ∷ es) = ap (λ ls. left_in e ∷ ls) (lefts-map es)

pub lefts-length : (es : List Expr) → length es ≡ length (lefts_of_expressions (expressions_syntax es))
lefts-length es = sym (length-map es left_in) ∙ ap length (sym (lefts-map es))

pub name-get : (ns : List KeptIdentifier) (k : ℕ)
    → slice_get (map left_of_name (map identifier_syntax ns)) k ≡ option_map (λ n. left_of_name (identifier_syntax n)) (slice_get ns k)
name-get [] k = refl
name-get (n ∷ ns) zero = refl
name-get (n ∷ ns) (suc k) = name-get ns k

pub left-get : (es : List Expr) (k : ℕ)
    → slice_get (lefts_of_expressions (expressions_syntax es)) k ≡ option_map left_in (slice_get es k)
left-get es k = ap (λ ls. slice_get ls k) (lefts-map es) ∙ slice_get-map left_in es k

module _ (ns : List KeptIdentifier) (k : ℕ) where
  pub name-there : (n : KeptIdentifier) → k < length ns → n ≡ get_or ns k n
      → Some (left_of_name (identifier_syntax n)) ≡ slice_get (map left_of_name (map identifier_syntax ns)) k
  name-there n within is =
      sym (name-get ns k ∙ ap (option_map (λ n. left_of_name (identifier_syntax n))) (slice_get_read ns (length ns) k n refl within is))

  pub name-past : length ns ≤ k → None ≡ slice_get (map left_of_name (map identifier_syntax ns)) k
  name-past past = sym (name-get ns k ∙ ap (option_map (λ n. left_of_name (identifier_syntax n))) (slice_get_past ns k past))

module _ (es : List Expr) (k : ℕ) where
  pub left-there : (e : Expr) → k < length es → e ≡ get_or es k e
      → Some (left_in e) ≡ slice_get (lefts_of_expressions (expressions_syntax es)) k
  left-there e within is = sym (left-get es k ∙ ap (option_map left_in) (slice_get_read es (length es) k e refl within is))

  pub left-past : length es ≤ k → None ≡ slice_get (lefts_of_expressions (expressions_syntax es)) k
  left-past past = sym (left-get es k ∙ ap (option_map left_in) (slice_get_past es k past))
