-- Faults of named results: those of a list of items, one after the other, and none of parameters.
use Rattle.std.proofs.Common.{◌≡◌, ℕ, ◌+◌, Bool, true, false, ◌&&◌, if◌then◌else◌, List, [], ◌∷◌, ◌++◌, Option, Some, None, option_map, refl, sym, ap, ◌∙◌}
use Rattle.std.proofs.lemmas.List.{append-nil}
use Rattle.tree.specs.Syntax.{Identifier, signature_of, Parameters}
use Rattle.meaning.specs.FunctionFacts.{TrackedType, kind_of_type, Item, items_of, item_type}
use Rattle.meaning.specs.Mentions.{BodyPlace}
use Rattle.meaning.specs.Scopes.{is_blank}
use Rattle.meaning.specs.Tracked.{Known, LocalRole, parameter, receiver, variadic, Local, item_local, parameter_role, parameter_locals, receiver_locals, receiver_items, only_cancel, result_locals, body_locals}
use Rattle.meaning.specs.Uses.{UseFault, fault_at, bound_again, is_cancel, is_result, result_faults}

faults_step : (l : Local) (t : Bool) (xs ys zs : List UseFault) → zs ≡ xs ++ ys
    → (if t then fault_at l.at bound_again l.name ++ zs else zs)
    ≡ (if t then fault_at l.at bound_again l.name ++ xs else xs) ++ ys
faults_step l true xs ys zs e = ap (λ fs. fault_at l.at bound_again l.name ++ fs) e
faults_step l false xs ys zs e = e

pub faults-append : (xs ys : List Local) → result_faults (xs ++ ys) ≡ result_faults xs ++ result_faults ys
faults-append [] ys = refl
faults-append (l ∷ ls) ys =
    faults_step l (is_result l.role && is_cancel (option_map kind_of_type l.typed)) (result_faults ls) (result_faults ys) _ (faults-append ls ys)

module _ (b : BodyPlace) (role : LocalRole) (typed : Option TrackedType) (none : is_result role ≡ false) where
  if_no_result : (at : ℕ) (name : List ℕ) (test : Bool) → test ≡ false
      → (if test && is_cancel (option_map kind_of_type typed) then fault_at at bound_again name ++ [] else []) ≡ []
  if_no_result at name true e = absurd cc
  if_no_result at name false e = refl

  item_none : (name : Option Identifier) → result_faults (item_local b role typed name) ≡ []
  item_none None = refl
  item_none (Some n) = by (is_blank n.text)
    where
      by : (blank : Bool)
          → result_faults (if blank then [] else record { number = n.span.start; name = n.text; at = n.span.start; role = role; typed = typed; body = b.at } ∷ [])
          ≡ []
      by true = refl
      by false = if_no_result n.span.start n.text (is_result role) none

role_none : (role : LocalRole) → is_result role ≡ false → (i : Item) → is_result (parameter_role role i) ≡ false
role_none role none i = by i.is_variadic
  where
    by : (b : Bool) → is_result (if b then variadic else role) ≡ false
    by true = refl
    by false = none

module _ (known : Known) (b : BodyPlace) where
  parameters_none : (k : ℕ) (is : List Item) → result_faults (parameter_locals known b k is) ≡ []
  parameters_none k [] = refl
  parameters_none k (i ∷ is) =
      faults-append (item_local b (parameter_role (parameter k) i) (item_type known.means i) i.name) (parameter_locals known b (k + 1) is)
      ∙ ap (λ fs. fs ++ result_faults (parameter_locals known b (k + 1) is))
      (item_none b (parameter_role (parameter k) i) (item_type known.means i) (role_none (parameter k) refl i) i.name)
      ∙ parameters_none (k + 1) is

  receivers_none : (is : List Item) → result_faults (receiver_locals known b is) ≡ []
  receivers_none [] = refl
  receivers_none (i ∷ is) =
      faults-append (item_local b (parameter_role receiver i) (item_type known.means i) i.name) (receiver_locals known b is)
      ∙ ap (λ fs. fs ++ result_faults (receiver_locals known b is))
      (item_none b (parameter_role receiver i) (item_type known.means i) (role_none receiver refl i) i.name)
      ∙ receivers_none is

  pub only_results : (ps rs : Parameters) (brackets : Bool) → b.signature ≡ signature_of ps rs brackets
      → result_faults (body_locals known b) ≡ result_faults (result_locals known b (items_of rs))
  only_results ps rs brackets e =
      rw e
      (faults-append (receiver_locals known b (receiver_items b.receiver)) (parameter_locals known b 0 (items_of ps) ++ result_locals known b (items_of rs))
      ∙ ap (λ fs. fs ++ result_faults (parameter_locals known b 0 (items_of ps) ++ result_locals known b (items_of rs)))
      (receivers_none (receiver_items b.receiver))
      ∙ faults-append (parameter_locals known b 0 (items_of ps)) (result_locals known b (items_of rs))
      ∙ ap (λ fs. fs ++ result_faults (result_locals known b (items_of rs))) (parameters_none 0 (items_of ps)))

  -- one item, and then the others
  pub results_split : (i : Item) (is : List Item)
      → result_faults (result_locals known b (i ∷ is))
      ≡ result_faults (result_locals known b (i ∷ [])) ++ result_faults (result_locals known b is)
  results_split i is =
      let here = item_local b Rattle.meaning.specs.Tracked.result (only_cancel (item_type known.means i)) i.name in
      faults-append here (result_locals known b is)
      ∙ ap (λ ls. result_faults ls ++ result_faults (result_locals known b is)) (sym (append-nil here))
