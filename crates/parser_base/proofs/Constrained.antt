-- Type parameters, each with a constraint, its own or that of the next one.
use Rattle.std.proofs.Common.{◌≡◌, ℕ, ◌+◌, ◌<◌, ◌≤◌, Bool, true, false, List, [], ◌∷◌, drop, length, get_or, refl, sym, ap, ◌∙◌, arith}
use Rattle.std.specs.Prelude.{◌&&◌}
use Rattle.tree.specs.declared.expression.Expr.{Expr}
use Rattle.tree.specs.declared.expression.Param.{Param, Named, Named', Unnamed, Unnamed', NameAlone}
use Rattle.tree.specs.declared.span.Identifier.{Identifier as KeptIdentifier}
use Rattle.tree.specs.Syntax.{Identifier, Expression, Parameters, no_parameter, named_and, unnamed_and, name_alone_and}
use Rattle.tree.specs.View.{identifier_syntax, expression_syntax, parameter_and, parameters_syntax}
use Rattle.meaning.specs.TypeParameters.{has_type, joins, is_one_parameter}
use Rattle.tree.proofs.Views.{parameter_and-Named, parameter_and-Unnamed, parameter_and-NameAlone}
use Rattle.tree.proofs.Depths.{drop_item, drop_past}
use Rattle.meaning.specs.WellFormed.{end_constrained}

-- whether the last one has a constraint, where the one before these has one or not
abbrev pub ends_so : Bool → Parameters → Bool
ends_so before no_parameter = before
ends_so before ps = end_constrained ps

pub none_before : (ps : Parameters) → ends_so false ps ≡ end_constrained ps
none_before no_parameter = refl
none_before (named_and n ellipsis t ps) = refl
none_before (unnamed_and ellipsis t ps) = refl
none_before (name_alone_and n ps) = refl

named_ends : (before : Bool) (n : Identifier) (ellipsis : Bool) (t : Expression) (ps : Parameters) → ends_so before (named_and n ellipsis t ps) ≡ ends_so true ps
named_ends before n ellipsis t no_parameter = refl
named_ends before n ellipsis t (named_and m dots u ps) = refl
named_ends before n ellipsis t (unnamed_and dots u ps) = refl
named_ends before n ellipsis t (name_alone_and m ps) = refl

module _ (params : List Param) (i : ℕ) (lt : i < length params) (x : Param) (is : x ≡ get_or params i x) (before : Bool) (total : Bool) (so_far : ends_so before (parameters_syntax (drop i params)) ≡ total) where
  here : ends_so before (parameter_and x (parameters_syntax (drop (i + 1) params))) ≡ total
  here = sym (ap (λ l. ends_so before (parameters_syntax l)) (drop_item params i x lt is)) ∙ so_far

  pub param_named : (n : KeptIdentifier) (ellipsis : Bool) (t : Expr) → x ≡ Named n ellipsis t → ends_so true (parameters_syntax (drop (i + 1) params)) ≡ total
  param_named n ellipsis t named =
      sym (ap (λ p. ends_so before (parameter_and p (parameters_syntax (drop (i + 1) params)))) named
      ∙ (ap (ends_so before) (parameter_and-Named n ellipsis t (parameters_syntax (drop (i + 1) params))) ∙ named_ends before (identifier_syntax n) ellipsis (expression_syntax t) (parameters_syntax (drop (i + 1) params)))) ∙ here

  pub param_alone : (n : KeptIdentifier) → x ≡ NameAlone n → ends_so false (parameters_syntax (drop (i + 1) params)) ≡ total
  param_alone n alone =
      none_before (parameters_syntax (drop (i + 1) params))
      ∙ (sym (ap (λ p. ends_so before (parameter_and p (parameters_syntax (drop (i + 1) params)))) alone
      ∙ ap (ends_so before) (parameter_and-NameAlone n (parameters_syntax (drop (i + 1) params)))) ∙ here)

  pub param_unnamed : (ellipsis : Bool) (t : Expr) → x ≡ Unnamed ellipsis t → false ≡ total
  param_unnamed ellipsis t unnamed =
      sym (ap (λ p. ends_so before (parameter_and p (parameters_syntax (drop (i + 1) params)))) unnamed
      ∙ ap (ends_so before) (parameter_and-Unnamed ellipsis t (parameters_syntax (drop (i + 1) params)))) ∙ here

pub params_end : (params : List Param) (i : ℕ) (before : Bool) (total : Bool) → ends_so before (parameters_syntax (drop i params)) ≡ total → length params ≤ i → before ≡ total
params_end params i before total so_far past = sym (ap (λ l. ends_so before (parameters_syntax l)) (drop_past params i past)) ∙ so_far

-- one type parameter with a constraint of its own, and other lists

two_named : (n : Identifier) (ellipsis : Bool) (t : Expression) (p : Param) (ps : Parameters) → false ≡ is_one_parameter (named_and n ellipsis t (parameter_and p ps))
unfolding parameter_and
two_named n ellipsis t (Named' m dots u span) ps = refl
two_named n ellipsis t (Unnamed' dots u span) ps = refl
two_named n ellipsis t (NameAlone m) ps = refl

no_one_of : (p : Param) → ((n : KeptIdentifier) (ellipsis : Bool) (t : Expr) → p ≡ Named n ellipsis t → ⊥) → (ps : Parameters) → false ≡ is_one_parameter (parameter_and p ps)
unfolding parameter_and
no_one_of (Named' n ellipsis t span) other ps = absurd (other n ellipsis record { kind = t; span = span } refl)
no_one_of (Unnamed' ellipsis t span) other ps = refl
no_one_of (NameAlone n) other ps = refl

more_than_one : (p q : Param) (ps : Parameters) → false ≡ is_one_parameter (parameter_and p (parameter_and q ps))
unfolding parameter_and
more_than_one (Named' n ellipsis t span) q ps = two_named (identifier_syntax n) ellipsis (expression_syntax record { kind = t; span = span }) q ps
more_than_one (Unnamed' ellipsis t span) q ps = refl
more_than_one (NameAlone n) q ps = refl

pub none_or_more : (params : List Param) → (length params ≡ 1 → ⊥) → false ≡ is_one_parameter (parameters_syntax params)
none_or_more [] other = refl
none_or_more (p ∷ []) other = absurd (other refl)
none_or_more (p ∷ q ∷ params) other = more_than_one p q (parameters_syntax params)

pub one_other : (params : List Param) (p : Param) → length params ≡ 1 → p ≡ get_or params 0 p → ((n : KeptIdentifier) (ellipsis : Bool) (t : Expr) → p ≡ Named n ellipsis t → ⊥) → false ≡ is_one_parameter (parameters_syntax params)
one_other [] p one is other = absurd (omega (arith, one))
one_other (q ∷ []) p one is other = no_one_of q (λ n ellipsis t named. other n ellipsis t (is ∙ named)) no_parameter
one_other (q ∷ r ∷ params) p one is other = absurd (omega (arith, one))

pub one_named : (params : List Param) (p : Param) → length params ≡ 1 → p ≡ get_or params 0 p → (n : KeptIdentifier) (ellipsis : Bool) (t : Expr) → p ≡ Named n ellipsis t → (joins (expression_syntax t) && has_type (expression_syntax t)) ≡ is_one_parameter (parameters_syntax params)
one_named [] p one is n ellipsis t named = absurd (omega (arith, one))
one_named (q ∷ []) p one is n ellipsis t named =
    sym (ap (λ x. is_one_parameter (parameter_and x no_parameter)) (sym is ∙ named) ∙ ap is_one_parameter (parameter_and-Named n ellipsis t no_parameter))
one_named (q ∷ r ∷ params) p one is n ellipsis t named = absurd (omega (arith, one))
