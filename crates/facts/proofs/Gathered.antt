-- Items, gathered from the last one on.
use Rattle.std.proofs.Common.{◌≡◌, ℕ, ◌+◌, ◌<◌, ◌≤◌, false, List, [], ◌∷◌, ◌++◌, length, drop, get_or, reverse, map, Option, Some, None, option_map, refl, sym, ap, ◌∙◌, arith}
use Rattle.std.specs.Prelude.{slice_get}
use Rattle.std.proofs.lemmas.List.{reverse-append}
use Rattle.tree.specs.declared.expression.Param.{Param}
use Rattle.tree.specs.Syntax.{Identifier, missing_expression, Parameters}
use Rattle.tree.specs.View.{parameter_and, parameters_syntax}
use Rattle.tree.proofs.Depths.{drop_item}
use Rattle.meaning.specs.FunctionFacts.{Item, alone, items_of}
use Rattle.facts.specs.declared.items.Item.{Item as KeptItem}
use Rattle.facts.specs.FactViews.{item_view}

-- a name alone, before an item and at the end
pub alone_before : (n : Identifier) (i : Item) (is : List Item) → Some i ≡ slice_get is 0
    → record { name = Some n; is_variadic = i.is_variadic; type = i.type } ∷ is ≡ alone n is ∷ is
alone_before n i [] e = absurd cc
alone_before n i (j ∷ js) e =
    let same : i ≡ j = cc in
    ap (λ (k : Item). record { name = Some n; is_variadic = k.is_variadic; type = k.type } ∷ j ∷ js) same

pub alone_last : (n : Identifier) (is : List Item) → None ≡ slice_get is 0
    → record { name = Some n; is_variadic = false; type = missing_expression } ∷ is ≡ alone n is ∷ is
alone_last n [] e = refl
alone_last n (i ∷ is) e = absurd cc

-- those of all parameters from the number on, last first, and the first of them
pub record AreGathered (items : List KeptItem) (next : Option KeptItem) (params : List Param) (start : ℕ) : Type 0 where
  pub gathered : map item_view (reverse items) ≡ items_of (parameters_syntax (drop start params))
  pub follows : option_map item_view next ≡ slice_get (items_of (parameters_syntax (drop start params))) 0
  pub within : start ≤ length params

drop_all : (ps : List Param) → drop (length ps) ps ≡ []
drop_all [] = refl
drop_all (p ∷ ps) = drop_all ps

pub gathered-init : (items : List KeptItem) → items ≡ [] → (ps : List Param) → AreGathered items None ps (length ps)
gathered-init items none ps = record {
  gathered = ap (λ (l : List KeptItem). map item_view (reverse l)) none
      ∙ ap (λ (l : List Param). items_of (parameters_syntax l)) (sym (drop_all ps));
  follows = ap (λ (l : List Param). slice_get (items_of (parameters_syntax l)) 0) (sym (drop_all ps));
  within = omega arith;
}

pub gathered-more : (items : List KeptItem) (next : Option KeptItem) (ps : List Param) (start : ℕ)
    → AreGathered items next ps start → (i : ℕ) → start ≡ i + 1 → (p : Param) → p ≡ get_or ps i p → (item : KeptItem)
    → ((rest : Parameters) → option_map item_view next ≡ slice_get (items_of rest) 0
    → item_view item ∷ items_of rest ≡ items_of (parameter_and p rest))
    → (after : List KeptItem) → after ≡ items ++ item ∷ [] → AreGathered after (Some item) ps i
gathered-more items next ps start before i above p is item adds after pushed =
    let within : i < length ps = omega (arith, before.within) in
    let here : drop i ps ≡ p ∷ drop (i + 1) ps = drop_item ps i p within is in
    let rest : Parameters = parameters_syntax (drop start ps) in
    let first : item_view item ∷ items_of rest ≡ items_of (parameter_and p rest) = adds rest before.follows in
    let same : items_of (parameter_and p rest) ≡ items_of (parameters_syntax (drop i ps)) =
    ap (λ (k : ℕ). items_of (parameter_and p (parameters_syntax (drop k ps)))) above
    ∙ ap (λ (l : List Param). items_of (parameters_syntax l)) (sym here) in
    record {
      gathered = ap (λ (l : List KeptItem). map item_view (reverse l)) pushed
          ∙ ap (map item_view) (reverse-append items (item ∷ []))
          ∙ ap (λ (l : List Item). item_view item ∷ l) before.gathered ∙ first ∙ same;
      follows = ap (λ (l : List Item). slice_get l 0) (first ∙ same);
      within = omega (arith, within);
    }
