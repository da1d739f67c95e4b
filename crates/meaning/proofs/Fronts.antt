-- Each front of a list of events is a list that is stopped.
use Rattle.std.proofs.Common.{◌≡◌, ◌≢◌, ◌⊎◌, inl, inr, List, [], ◌∷◌, ◌++◌, refl, sym, ap, ◌∙◌, subst, append-nil}
use Rattle.meaning.specs.Code.{Occurrence, Way, Code}
use Rattle.meaning.specs.Lists.{Exit, stopped, falls, leaves, Lists, not_begun, skipped, done, just_done, left, ends_in_first, goes_on, in_first, in_second, ends_in_turn, turns_again, arrives, passes}
use Rattle.meaning.specs.Laws.{EachFrontStops}

pub stopped≢falls : stopped ≢ falls
stopped≢falls e = cc

pub stopped≢leaves : (w : Way) → stopped ≢ leaves w
stopped≢leaves w e = cc

-- the front of two lists is one of the first, or the first and a front of the second
data FrontOf {A : Type 0} (t u p q : List A) : Type 0 where
  within_first : (r : List A) → t ≡ p ++ r → FrontOf t u p q
  past_first : (r : List A) → p ≡ t ++ r → u ≡ r ++ q → FrontOf t u p q

front_of_both : {A : Type 0} (t u p q : List A) → t ++ u ≡ p ++ q → FrontOf t u p q
front_of_both [] u p q e = past_first p refl e
front_of_both (a ∷ t) u [] q e = within_first (a ∷ t) refl
front_of_both (a ∷ t) u (b ∷ p) q e =
    let same : a ≡ b = cc in
    let rest : t ++ u ≡ p ++ q = cc in
    elim (front_of_both t u p q rest) [
      | within_first r f ↦ within_first r (ap (λ l. a ∷ l) f ∙ ap (λ x. x ∷ (p ++ r)) same)
      | past_first r f g ↦ past_first r (ap (λ l. b ∷ l) f ∙ ap (λ x. x ∷ (t ++ r)) (sym same)) g
    ]

front_of_nil : {A : Type 0} (p q : List A) → [] ≡ p ++ q → p ≡ []
front_of_nil [] q e = refl
front_of_nil (a ∷ p) q e = cc

front_of_one : {A : Type 0} (o : A) (p q : List A) → o ∷ [] ≡ p ++ q → (p ≡ []) ⊎ (p ≡ o ∷ [])
front_of_one o [] q e = inl refl
front_of_one o (a ∷ p) q e =
    let same : o ≡ a = cc in
    let rest : [] ≡ p ++ q = cc in
    inr (ap (λ l. a ∷ l) (front_of_nil p q rest) ∙ ap (λ x. x ∷ []) (sym same))

stops_in_one : {E : Type 0} (c : Code E) (o : Occurrence E) (p q : List (Occurrence E)) → Lists c (o ∷ []) stopped → o ∷ [] ≡ p ++ q → Lists c p stopped
stops_in_one c o p q l e =
    elim (front_of_one o p q e) [
      | inl f ↦ subst (λ r. Lists c r stopped) (sym f) not_begun
      | inr f ↦ subst (λ r. Lists c r stopped) (sym f) l
    ]

stops_in_nil : {E : Type 0} (c : Code E) (p q : List (Occurrence E)) → [] ≡ p ++ q → Lists c p stopped
stops_in_nil c p q e = subst (λ r. Lists c r stopped) (sym (front_of_nil p q e)) not_begun

front_stops : {E : Type 0} {c : Code E} {t : List (Occurrence E)} {x : Exit} → Lists c t x → (p q : List (Occurrence E)) → t ≡ p ++ q → Lists c p stopped
front_stops not_begun p q e = stops_in_nil _ p q e
front_stops skipped p q e = stops_in_nil _ p q e
front_stops done p q e = stops_in_one _ _ p q just_done e
front_stops just_done p q e = stops_in_one _ _ p q just_done e
front_stops left p q e = stops_in_nil _ p q e
front_stops (ends_in_first l h) p q e = ends_in_first (front_stops l p q e) stopped≢falls
front_stops (goes_on {t = t} {u = u} l m f) p q e =
    elim (front_of_both t u p q (sym f ∙ e)) [
      | within_first r g ↦ ends_in_first (front_stops l p r g) stopped≢falls
      | past_first r g h ↦ goes_on l (front_stops m r q h) g
    ]
front_stops (in_first l) p q e = in_first (front_stops l p q e)
front_stops (in_second l) p q e = in_second (front_stops l p q e)
front_stops (ends_in_turn l h) p q e = ends_in_turn (front_stops l p q e) stopped≢falls
front_stops (turns_again {t = t} {u = u} l m f) p q e =
    elim (front_of_both t u p q (sym f ∙ e)) [
      | within_first r g ↦ ends_in_turn (front_stops l p r g) stopped≢falls
      | past_first r g h ↦ turns_again l (front_stops m r q h) g
    ]
front_stops (arrives {w} l) p q e = passes (front_stops l p q e) (stopped≢leaves w)
front_stops (passes {w} l h) p q e = passes (front_stops l p q e) (stopped≢leaves w)

-- a list may stop where it ends
pub stops : {E : Type 0} {c : Code E} {t : List (Occurrence E)} {x : Exit} → Lists c t x → Lists c t stopped
stops {t = t} l = front_stops l t [] (sym (append-nil t))

pub each_front_stops : (E : Type 0) → EachFrontStops E
each_front_stops E c t p q x l e = front_stops l p q e
