-- A local that a body declares in its block, and that is tracked as a cancel variable, is one of the body's variables,
-- and no parameter has its number.
use Rattle.std.proofs.Common.{◌≡◌, ℕ, Bool, true, false, cond, ◌⊎◌, inl, inr, List, [], ◌∷◌, map, Option, Some, None, Contains, refl, sym, ap, ◌∙◌, subst}
use Rattle.std.specs.Prelude.{◌==◌, ◌&&◌, ◌||◌, if◌then◌else◌, not, is_some}
use Rattle.std.specs.List.{list_any, filter}
use Rattle.std.proofs.lemmas.Bool.{eq-eqb, cases_eq}
use Rattle.std.proofs.lemmas.List.Elements.{Contains-append_cases, Contains-append_left, Contains-append_right}
use Rattle.std.proofs.lemmas.Option.{same_Some}
use Rattle.meaning.specs.FunctionFacts.{VariableKind}
use Rattle.meaning.specs.Tracked.{Local, find_local}
use Rattle.meaning.specs.Uses.{Seen, found, tracked_kind, VariableAt}
use Rattle.meaning.specs.BodyEvents.{Variable, own_parameter, declared_in_body, captured, role_in, role_in_own, first_in, first_occurrence, is_captured_there, is_variable_of, variable_there, variable_found, variables_among, distinct, comes_before, put_in, in_their_order}
use Rattle.meaning.proofs.Membership.{contains_here, contains_there, contains_cases, contains_nil, contains_map}
use Rattle.meaning_packages.specs.PathFaults.{is_declared}
use Rattle.meaning_runs.specs.Bodies.{Body, variables_in}
use Rattle.meaning_runs.specs.EventSources.{IsBound}
use Rattle.meaning_runs.proofs.OwnBindings.{BindsVariable}
use Rattle.meaning_runs.proofs.Places.{eqb_is}

-- lists that are put in order
put_has : (v : Variable) (vs : List Variable) (x : Variable) → Contains (v ∷ vs) x → Contains (put_in v vs) x
put_has v [] x h = h
put_has v (u ∷ us) x h = by (comes_before u v) (put_has v us x)
  where
    first_or : (Contains (v ∷ us) x → Contains (put_in v us) x) → (v ≡ x) ⊎ Contains (u ∷ us) x → Contains (u ∷ put_in v us) x
    first_or f (inl q) = contains_there u x (put_in v us) (f (subst (λ y. Contains (v ∷ us) y) q (contains_here v us)))
    first_or f (inr k) = elim (contains_cases u x us k) [
      | inl q ↦ subst (λ y. Contains (u ∷ put_in v us) y) q (contains_here u (put_in v us))
      | inr n ↦ contains_there u x (put_in v us) (f (contains_there v x us n))
    ]

    by : (b : Bool) → (Contains (v ∷ us) x → Contains (put_in v us) x) → Contains (if b then u ∷ put_in v us else v ∷ u ∷ us) x
    by true f = first_or f (contains_cases v x (u ∷ us) h)
    by false f = h

put_from : (v : Variable) (vs : List Variable) (x : Variable) → Contains (put_in v vs) x → Contains (v ∷ vs) x
put_from v [] x h = h
put_from v (u ∷ us) x h = by (comes_before u v) (put_from v us x) h
  where
    by : (b : Bool) → (Contains (put_in v us) x → Contains (v ∷ us) x) → Contains (if b then u ∷ put_in v us else v ∷ u ∷ us) x → Contains (v ∷ u ∷ us) x
    by true f k = elim (contains_cases u x (put_in v us) k) [
      | inl q ↦ contains_there v x (u ∷ us) (subst (λ y. Contains (u ∷ us) y) q (contains_here u us))
      | inr n ↦ elim (contains_cases v x us (f n)) [
        | inl q ↦ subst (λ y. Contains (v ∷ u ∷ us) y) q (contains_here v (u ∷ us))
        | inr m ↦ contains_there v x (u ∷ us) (contains_there u x us m)
      ]
    ]
    by false f k = k

order_has : (vs : List Variable) (x : Variable) → Contains vs x → Contains (in_their_order vs) x
order_has [] x h = h
order_has (v ∷ vs) x h =
    put_has v (in_their_order vs) x (elim (contains_cases v x vs h) [
      | inl q ↦ subst (λ y. Contains (v ∷ in_their_order vs) y) q (contains_here v (in_their_order vs))
      | inr n ↦ contains_there v x (in_their_order vs) (order_has vs x n)
    ])

pub order_from : (vs : List Variable) (x : Variable) → Contains (in_their_order vs) x → Contains vs x
order_from [] x h = h
order_from (v ∷ vs) x h =
    elim (contains_cases v x (in_their_order vs) (put_from v (in_their_order vs) x h)) [
      | inl q ↦ subst (λ y. Contains (v ∷ vs) y) q (contains_here v vs)
      | inr n ↦ contains_there v x vs (order_from vs x n)
    ]

-- each number once
kept : (n : ℕ) (ns : List ℕ) (m : ℕ) → Contains ns m → (m ≡ n → ⊥) → Contains (filter (λ k. not (k == n)) ns) m
kept n [] m h ne = absurd (contains_nil m h)
kept n (k ∷ ks) m h ne = by (k == n) refl (λ r. kept n ks m r ne)
  where
    by : (b : Bool) → (k == n) ≡ b → (Contains ks m → Contains (filter (λ j. not (j == n)) ks) m) → Contains (if not b then k ∷ filter (λ j. not (j == n)) ks else filter (λ j. not (j == n)) ks) m
    by true q f = elim (contains_cases k m ks h) [
      | inl e ↦ absurd (ne (sym e ∙ eqb_is k n q))
      | inr r ↦ f r
    ]
    by false q f = elim (contains_cases k m ks h) [
      | inl e ↦ subst (λ y. Contains (k ∷ filter (λ j. not (j == n)) ks) y) e (contains_here k (filter (λ j. not (j == n)) ks))
      | inr r ↦ contains_there k m (filter (λ j. not (j == n)) ks) (f r)
    ]

distinct_has : (ns : List ℕ) (m : ℕ) → Contains ns m → Contains (distinct ns) m
distinct_has [] m h = h
distinct_has (n ∷ ns) m h = by (cases_eq m n) (distinct_has ns m)
  where
    by : (m ≡ n) ⊎ (m ≡ n → ⊥) → (Contains ns m → Contains (distinct ns) m) → Contains (n ∷ filter (λ k. not (k == n)) (distinct ns)) m
    by (inl q) f = subst (λ y. Contains (n ∷ filter (λ k. not (k == n)) (distinct ns)) y) (sym q) (contains_here n (filter (λ k. not (k == n)) (distinct ns)))
    by (inr ne) f =
        contains_there n m (filter (λ k. not (k == n)) (distinct ns)) (kept n (distinct ns) m (f (elim (contains_cases n m ns h) [ inl q ↦ absurd (ne (sym q)) | inr r ↦ r ])) ne)

among_has : (seen : Seen) (body : ℕ) (ns : List ℕ) (n : ℕ) (x : Variable) → Contains ns n → Contains (variable_found seen body (found seen (Some n))) x → Contains (variables_among seen body ns) x
among_has seen body [] n x h k = absurd (contains_nil n h)
among_has seen body (m ∷ ms) n x h k =
    elim (contains_cases m n ms h) [
      | inl q ↦ Contains-append_left (variable_found seen body (found seen (Some m))) (variables_among seen body ms) x (subst (λ y. Contains (variable_found seen body (found seen (Some y))) x) (sym q) k)
      | inr r ↦ Contains-append_right (variable_found seen body (found seen (Some m))) (variables_among seen body ms) x (among_has seen body ms n x r k)
    ]

pub among_from : (seen : Seen) (body : ℕ) (ns : List ℕ) (x : Variable) → Contains (variables_among seen body ns) x → (n : ℕ) × Contains (variable_found seen body (found seen (Some n))) x
among_from seen body [] x h = absurd (contains_nil x h)
among_from seen body (m ∷ ms) x h =
    elim (Contains-append_cases (variable_found seen body (found seen (Some m))) (variables_among seen body ms) x h) [ inl k ↦ (m, k) | inr k ↦ among_from seen body ms x k ]

-- the local of a number
pub find_is : (ls : List Local) (n : ℕ) (l : Local) → find_local ls n ≡ Some l → Contains ls l × (l.number ≡ n)
find_is [] n l e = let bad : None ≡ Some l = e in cc
find_is (x ∷ xs) n l e = by (x.number == n) refl e (find_is xs n l)
  where
    by : (b : Bool) → (x.number == n) ≡ b → (if b then Some x else find_local xs n) ≡ Some l → (find_local xs n ≡ Some l → Contains xs l × (l.number ≡ n)) → Contains (x ∷ xs) l × (l.number ≡ n)
    by true q is f =
        let same = same_Some x l is in
        (subst (λ y. Contains (x ∷ xs) y) same (contains_here x xs), ap (λ (y : Local). y.number) (sym same) ∙ eqb_is x.number n q)
    by false q is f = let r = f is in (contains_there x l xs r.0, r.1)

pub found_is : (seen : Seen) (o : Option ℕ) (l : Local) → found seen o ≡ Some l → (found seen (Some l.number) ≡ Some l) × Contains seen.locals l
found_is seen None l e = let bad : None ≡ Some l = e in cc
found_is seen (Some n) l e =
    let r = find_is seen.locals n l e in (ap (find_local seen.locals) r.1 ∙ e, r.0)

-- what is found of a number has that number, and the role of its local
of_found : (seen : Seen) (body : ℕ) (o : Option Local) (x : Variable) → Contains (variable_found seen body o) x → (l : Local) × (o ≡ Some l) × (x.number ≡ l.number) × (x.role ≡ role_in body l)
of_found seen body None x h = absurd (contains_nil x h)
of_found seen body (Some l) x h = by (is_variable_of seen body l) (tracked_kind seen (Some l)) h
  where
    by : (b : Bool) (kind : Option VariableKind) → Contains (if b then variable_there seen body l kind else []) x → (k : Local) × (Some l ≡ Some k) × (x.number ≡ k.number) × (x.role ≡ role_in body k)
    by false kind k = absurd (contains_nil x k)
    by true None k = absurd (contains_nil x k)
    by true (Some kind) k = elim (contains_cases _ x [] k) [
      | inl q ↦ (l, refl, ap (λ (y : Variable). y.number) (sym q), ap (λ (y : Variable). y.role) (sym q))
      | inr n ↦ absurd (contains_nil x n)
    ]

-- a local that is tracked is among the variables of each body that declares it, or mentions it
module _ (b : Body) (l : Local) (kind : VariableKind) (is : found b.file (Some l.number) ≡ Some l)
    (tracked : tracked_kind b.file (Some l) ≡ Some kind) where
  abbrev pub as_variable : Variable
  as_variable = record {
    number = l.number;
    name = l.name;
    kind = kind;
    role = role_in b.place.at l;
    first = first_in (role_in b.place.at l) l (first_occurrence b.file.known b.place.at l b.file.marks);
  }

  abbrev occurs : Bool
  occurs = list_any (λ p. is_captured_there b.file.known b.place.at l p.bodies p.mark) b.file.marks

  -- the body declares it, or a mention in the body or in a literal in it is one of it
  pub is_its : ((l.body == b.place.at) || occurs) ≡ true → is_variable_of b.file b.place.at l ≡ true
  is_its h = ap (λ k. is_some k && ((l.body == b.place.at) || occurs)) tracked ∙ h

  found_there : is_variable_of b.file b.place.at l ≡ true
      → Contains (variable_found b.file b.place.at (found b.file (Some l.number))) as_variable
  found_there its =
      subst (λ o. Contains (variable_found b.file b.place.at o) as_variable) (sym is)
      (subst (λ x. Contains (if x then variable_there b.file b.place.at l (tracked_kind b.file (Some l)) else []) as_variable) (sym its)
      (subst (λ k. Contains (variable_there b.file b.place.at l k) as_variable) (sym tracked) (contains_here as_variable [])))

  pub is_listed : is_variable_of b.file b.place.at l ≡ true → Contains (variables_in b) as_variable
  is_listed its =
      let numbers = map (λ (x : Local). x.number) b.file.locals in
      let among = contains_map (λ (x : Local). x.number) b.file.locals l (found_is b.file (Some l.number) l is).1 in
      order_has _ as_variable (among_has b.file b.place.at (distinct numbers) l.number as_variable
      (distinct_has numbers l.number among) (found_there its))

module _ (b : Body) (u : VariableAt) (h : IsBound b u) where
  is_found : found b.file (Some h.local.number) ≡ Some h.local
  is_found = (found_is b.file (Some u.number) h.local h.is_found).0

  role_is : role_in b.place.at h.local ≡ declared_in_body
  role_is =
      ap (λ x. cond x (role_in_own h.local.role) captured) (eq-eqb h.local.body b.place.at h.is_declared_here)
      ∙ ap role_in_own h.is_in_block

  never : (v : Variable) (k : ℕ) → Contains (variables_in b) v → v.number ≡ u.number → v.role ≡ own_parameter k → ⊥
  never v k among same role =
      let m = among_from b.file b.place.at (distinct (map (λ (l : Local). l.number) b.file.locals)) v (order_from _ v among) in
      let r = of_found b.file b.place.at (found b.file (Some m.0)) v m.1 in
      let f = found_is b.file (Some m.0) r.0 r.1 in
      let number : r.0.number ≡ h.local.number = sym r.2 ∙ same ∙ sym h.is_it in
      let one : r.0 ≡ h.local = same_Some r.0 h.local (sym f.0 ∙ ap (λ n. found b.file (Some n)) number ∙ is_found) in
      let bad : own_parameter k ≡ declared_in_body = sym role ∙ r.3 ∙ ap (λ (l : Local). role_in b.place.at l) one ∙ role_is in
      cc

  pub binds_variable : (kind : VariableKind) → tracked_kind b.file (Some h.local) ≡ Some kind → BindsVariable kind b u
  binds_variable kind tracked =
      let occurring = occurs b h.local kind is_found tracked in
      record {
        variable = as_variable b h.local kind is_found tracked;
        is_of_body = is_listed b h.local kind is_found tracked
            (is_its b h.local kind is_found tracked (ap (λ x. x || occurring) (eq-eqb h.local.body b.place.at h.is_declared_here)));
        is_it = h.is_it;
        is_of_kind = refl;
        is_declared_here = ap is_declared role_is;
        is_no_parameter = never;
      }
