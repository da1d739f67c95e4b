-- A local that is a variable of a body, by where it is mentioned, is among the body's variables; so the number of a group
-- is among those of the body's groups.
use Rattle.std.proofs.Common.{◌≡◌, ℕ, Bool, true, false, ◌⊎◌, inl, inr, List, [], ◌∷◌, map, Option, Some, Contains, refl, sym, ◌∙◌, subst}
use Rattle.std.specs.Prelude.{◌==◌, if◌then◌else◌, not}
use Rattle.std.specs.List.{filter}
use Rattle.std.proofs.lemmas.Bool.Decides.{Decides-eqb}
use Rattle.std.proofs.lemmas.List.Elements.{Contains-append_left, Contains-append_right}
use Rattle.bodies.specs.OwnGroups.{group_number, groups_of}
use Rattle.meaning.proofs.Membership.{contains_here, contains_there, contains_cases, contains_nil, contains_map}
use Rattle.meaning.specs.BodyEvents.{Variable, role_in, first_in, first_occurrence, is_variable_of, variable_there, variable_found, variables_among, variables_of, distinct, comes_before, put_in, in_their_order}
use Rattle.meaning.specs.FunctionFacts.{VariableKind, cancel, group}
use Rattle.meaning.specs.Tracked.{Local}
use Rattle.meaning.specs.Uses.{Seen, found, tracked_kind}
use Rattle.meaning_runs.proofs.OwnVariables.{found_is}

-- lists that are put in order
put_has : (v : Variable) (vs : List Variable) (x : Variable) → Contains (v ∷ vs) x → Contains (put_in v vs) x
put_has v [] x h = h
put_has v (u ∷ us) x h = by (comes_before u v) (put_has v us x)
  where
    first_or : (Contains (v ∷ us) x → Contains (put_in v us) x) → (v ≡ x) ⊎ Contains (u ∷ us) x
        → Contains (u ∷ put_in v us) x
    first_or f (inl q) = contains_there u x (put_in v us) (f (subst (Contains (v ∷ us)) q (contains_here v us)))
    first_or f (inr k) = elim (contains_cases u x us k) [
      | inl q ↦ subst (Contains (u ∷ put_in v us)) q (contains_here u (put_in v us))
      | inr n ↦ contains_there u x (put_in v us) (f (contains_there v x us n))
    ]

    by : (b : Bool) → (Contains (v ∷ us) x → Contains (put_in v us) x)
        → Contains (if b then u ∷ put_in v us else v ∷ u ∷ us) x
    by true f = first_or f (contains_cases v x (u ∷ us) h)
    by false f = h

order_has : (vs : List Variable) (x : Variable) → Contains vs x → Contains (in_their_order vs) x
order_has [] x h = h
order_has (v ∷ vs) x h =
    put_has v (in_their_order vs) x (elim (contains_cases v x vs h) [
      | inl q ↦ subst (Contains (v ∷ in_their_order vs)) q (contains_here v (in_their_order vs))
      | inr n ↦ contains_there v x (in_their_order vs) (order_has vs x n)
    ])

-- each number once
kept : (n : ℕ) (ns : List ℕ) (m : ℕ) → Contains ns m → (m ≡ n → ⊥) → Contains (filter (λ k. not (k == n)) ns) m
kept n [] m h apart = absurd (contains_nil m h)
kept n (k ∷ ks) m h apart = by (k == n) (Decides-eqb k n).0 (λ r. kept n ks m r apart)
  where
    by : (b : Bool) → (b ≡ true → k ≡ n) → (Contains ks m → Contains (filter (λ j. not (j == n)) ks) m)
        → Contains (if not b then k ∷ filter (λ j. not (j == n)) ks else filter (λ j. not (j == n)) ks) m
    by true q f = elim (contains_cases k m ks h) [ inl e ↦ absurd (apart (sym e ∙ q refl)) | inr r ↦ f r ]
    by false q f = elim (contains_cases k m ks h) [
      | inl e ↦ subst (Contains (k ∷ filter (λ j. not (j == n)) ks)) e (contains_here k (filter (λ j. not (j == n)) ks))
      | inr r ↦ contains_there k m (filter (λ j. not (j == n)) ks) (f r)
    ]

distinct_has : (ns : List ℕ) (m : ℕ) → Contains ns m → Contains (distinct ns) m
distinct_has [] m h = h
distinct_has (n ∷ ns) m h = by (m == n) (Decides-eqb m n).0 (Decides-eqb m n).1 (distinct_has ns m)
  where
    by : (b : Bool) → (b ≡ true → m ≡ n) → (m ≡ n → b ≡ true) → (Contains ns m → Contains (distinct ns) m)
        → Contains (n ∷ filter (λ k. not (k == n)) (distinct ns)) m
    by true q back f =
        subst (Contains (n ∷ filter (λ k. not (k == n)) (distinct ns))) (sym (q refl))
        (contains_here n (filter (λ k. not (k == n)) (distinct ns)))
    by false q back f =
        let apart : m ≡ n → ⊥ = λ e. (let bad : false ≡ true = back e in cc) in
        contains_there n m (filter (λ k. not (k == n)) (distinct ns))
        (kept n (distinct ns) m (f (elim (contains_cases n m ns h) [ inl e ↦ absurd (apart (sym e)) | inr r ↦ r ])) apart)

among_has : (seen : Seen) (body : ℕ) (ns : List ℕ) (n : ℕ) (x : Variable) → Contains ns n
    → Contains (variable_found seen body (found seen (Some n))) x
    → Contains (variables_among seen body ns) x
among_has seen body [] n x h k = absurd (contains_nil n h)
among_has seen body (m ∷ ms) n x h k =
    elim (contains_cases m n ms h) [
      | inl q ↦
          Contains-append_left (variable_found seen body (found seen (Some m))) (variables_among seen body ms) x
          (subst (λ y. Contains (variable_found seen body (found seen (Some y))) x) (sym q) k)
      | inr r ↦
          Contains-append_right (variable_found seen body (found seen (Some m))) (variables_among seen body ms) x
          (among_has seen body ms n x r k)
    ]

-- the number of a group variable is one of those of the groups
numbered : (kind : VariableKind) (n : ℕ) → kind ≡ group → Contains (group_number kind n) n
numbered cancel n e = cc
numbered group n e = contains_here n []

pub among_groups : (vs : List Variable) (v : Variable) → Contains vs v → v.kind ≡ group → Contains (groups_of vs) v.number
among_groups [] v h is = absurd (contains_nil v h)
among_groups (u ∷ us) v h is =
    elim (contains_cases u v us h) [
      | inl same ↦
          Contains-append_left (group_number u.kind u.number) (groups_of us) v.number
          (subst (λ (w : Variable). Contains (group_number w.kind w.number) v.number) (sym same) (numbered v.kind v.number is))
      | inr later ↦
          Contains-append_right (group_number u.kind u.number) (groups_of us) v.number (among_groups us v later is)
    ]

module _ (seen : Seen) (body : ℕ) (l : Local) (kind : VariableKind) (tracked : tracked_kind seen (Some l) ≡ Some kind)
    (is_its : is_variable_of seen body l ≡ true) where
  abbrev pub its_variable : Variable
  its_variable = record {
    number = l.number;
    name = l.name;
    kind = kind;
    role = role_in body l;
    first = first_in (role_in body l) l (first_occurrence seen.known body l seen.marks);
  }

  there : found seen (Some l.number) ≡ Some l
      → Contains (variable_found seen body (found seen (Some l.number))) its_variable
  there is =
      subst (λ o. Contains (variable_found seen body o) its_variable) (sym is)
      (subst (λ b. Contains (if b then variable_there seen body l (tracked_kind seen (Some l)) else []) its_variable)
      (sym is_its)
      (subst (λ k. Contains (variable_there seen body l k) its_variable) (sym tracked) (contains_here its_variable [])))

  pub is_listed : (o : Option ℕ) → found seen o ≡ Some l → Contains (variables_of seen body) its_variable
  is_listed o is =
      let f = found_is seen o l is in
      order_has (variables_among seen body (distinct (map (λ (x : Local). x.number) seen.locals))) its_variable
      (among_has seen body (distinct (map (λ (x : Local). x.number) seen.locals)) l.number its_variable
      (distinct_has (map (λ (x : Local). x.number) seen.locals) l.number
      (contains_map (λ (x : Local). x.number) seen.locals l f.1))
      (there f.0))

pub group_listed : (seen : Seen) (body : ℕ) (l : Local) (o : Option ℕ) → found seen o ≡ Some l
    → tracked_kind seen (Some l) ≡ Some group
    → is_variable_of seen body l ≡ true
    → Contains (groups_of (variables_of seen body)) l.number
group_listed seen body l o is tracked its =
    among_groups (variables_of seen body) (its_variable seen body l group tracked its)
    (is_listed seen body l group tracked its o is) refl
