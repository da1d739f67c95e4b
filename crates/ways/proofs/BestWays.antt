-- The best way of some variables of a body: it comes to the fault, and no list does so for one of them that is shorter.
use Rattle.std.proofs.Common.{◌≡◌, ℕ, suc, ◌<◌, ◌≤◌, ◌⊎◌, inl, inr, Bool, true, false, if◌then◌else◌, List, [], ◌∷◌, ◌++◌, length, map, take, get_or, ◌+◌, Option, Some, None, Contains, refl, sym, ap, ◌∙◌, subst, true≢false, ltb-true, ltb-false, arith}
use Rattle.std.specs.Prelude.{nat_lt, option_map}
use Rattle.std.specs.Str.{bytes_eq}
use Rattle.std.proofs.lemmas.Option.{slice_get-map, slice_get-get_or}
use Rattle.std.proofs.lemmas.Slice.Eq.{bytes_eq-Decides}
use Rattle.path_faults.proofs.Places.{contains_at}
use Rattle.std.proofs.lemmas.List.{length-append, take_more, map-append}
use Rattle.std.proofs.lemmas.List.Elements.{Contains-append_cases}
use Rattle.events.specs.VariableViews.{variable_view}
use Rattle.events.specs.declared.variable.Variable.{Variable as KeptVariable}
use Rattle.flow.specs.Walks.{Graph}
use Rattle.meaning.proofs.Membership.{contains_nil, contains_cases}
use Rattle.meaning.specs.BodyEvents.{Variable}
use Rattle.meaning.specs.Code.{Occurrence}
use Rattle.meaning.specs.Uses.{Event}
use Rattle.meaning_packages.specs.PathFaults.{Paths, PathFault}
use Rattle.ways.proofs.FaultLists.{faults_have_lists}
use Rattle.ways.specs.Found.{StandFor, none, more, Tells, FoundWay, IsFoundOf, TellsWayOf, ComesToOf, TellsWayOfVariable, shorter}
use Rattle.ways.specs.Ways.{IsFaultAfter, rebinds, remakes, leaves_live, leaves_open, leaves_kept, leaves_pending, ComesTo}

-- the fault has the variable's name, and the variable is the body's
pub fault_name : (b : Paths) (v : Variable) (t : List (Occurrence Event)) (o : Occurrence Event) (f : PathFault)
    → IsFaultAfter b v t o f
    → v.name ≡ f.name
fault_name b v t o f (rebinds u of_body kind is same lost) = refl
fault_name b v t o f (remakes u s is same live) = refl
fault_name b v t o f (leaves_live handed is declared live) = refl
fault_name b v t o f (leaves_open handed is owes class) = refl
fault_name b v t o f (leaves_kept handed is owes class not_handed) = refl
fault_name b v t o f (leaves_pending handed is owes left) = refl

fault_variable : (b : Paths) (v : Variable) (t : List (Occurrence Event)) (o : Occurrence Event) (f : PathFault)
    → IsFaultAfter b v t o f
    → Contains b.variables v
fault_variable b v t o f (rebinds u of_body kind is same lost) = of_body
fault_variable b v t o f (remakes u s is same live) = live.is_of_body
fault_variable b v t o f (leaves_live handed is declared live) = live.is_of_body
fault_variable b v t o f (leaves_open handed is owes class) = owes.is_of_body
fault_variable b v t o f (leaves_kept handed is owes class not_handed) = owes.is_of_body
fault_variable b v t o f (leaves_pending handed is owes left) = owes.is_of_body

as_long : (g : Graph Event) (ns : List ℕ) (t : List (Occurrence Event)) → StandFor g ns t → length ns ≡ length t
as_long g ns t none = refl
as_long g ns t (more {ns = ms} {o = o} {t = u} there rest) =
    let same = as_long g ms u rest in
    let long = length-append u (o ∷ []) in
    omega (arith, same, long)

module _ (b : Paths) (f : PathFault) (g : Graph Event) where
  abbrev pub Of : Type 1
  Of = Variable → Type 0

  -- of the variables of which this is so
  pub record IsBest (Is : Of) (w : FoundWay) (t : List (Occurrence Event)) (o : Occurrence Event) : Type 0 where
    pub comes : ComesTo b f t o
    pub is_of : IsFoundOf b f w comes.variable t
    pub is_shortest : (v : Variable) → Is v
        → (u : List (Occurrence Event)) (p : Occurrence Event)
        → ComesToOf b v f u p
        → length t ≤ length u

  abbrev pub TellsBest : Of → Option FoundWay → Type 0
  TellsBest Is None = (v : Variable) → Is v
      → (t : List (Occurrence Event)) (o : Occurrence Event)
      → ComesToOf b v f t o
      → ⊥
  TellsBest Is (Some w) = Tells g w.nodes (IsBest Is w)

  -- fewer variables, or others of which nothing comes there

  pub fewer : (Is Are : Of) (m : Option FoundWay)
      → ((v : Variable) (t : List (Occurrence Event)) (o : Occurrence Event) → Are v → ComesToOf b v f t o → Is v)
      → TellsBest Is m
      → TellsBest Are m
  fewer Is Are None all h = λ v are t o comes. h v (all v t o are comes) t o comes
  fewer Is Are (Some w) all h = record {
    node = h.node;
    before = h.before;
    are_nodes = h.are_nodes;
    list = h.list;
    there = h.there;
    is_there = h.is_there;
    stand = h.stand;
    is = record {
      comes = h.is.comes;
      is_of = h.is.is_of;
      is_shortest = λ v are u p comes. h.is.is_shortest v (all v u p are comes) u p comes;
    };
  }

  -- the way of one variable

  pub of_one : (v : Variable) (m : Option FoundWay) → TellsWayOfVariable b v f g m → TellsBest (λ w. v ≡ w) m
  of_one v None h = λ w same t o comes. h t o (subst (λ x. ComesToOf b x f t o) (sym same) comes)
  of_one v (Some w) h = record {
    node = h.node;
    before = h.before;
    are_nodes = h.are_nodes;
    list = h.list;
    there = h.there;
    is_there = h.is_there;
    stand = h.stand;
    is = record {
      comes = record { variable = v; reaches = h.is.comes.reaches; is_fault = h.is.comes.is_fault };
      is_of = h.is.is_of;
      is_shortest = λ w same u p comes. h.is.is_shortest u p (subst (λ x. ComesToOf b x f u p) (sym same) comes);
    };
  }

  -- the shorter of two

  nodes_long : (Is : Of) (w : FoundWay) (h : Tells g w.nodes (IsBest Is w)) → length w.nodes ≡ suc (length h.list)
  nodes_long Is w h = ap length h.are_nodes ∙ ap suc (as_long g h.before h.list h.stand)

  with_shortest : (Is Are : Of) (w : FoundWay) (h : Tells g w.nodes (IsBest Is w))
      → ((v : Variable) → Are v
      → (u : List (Occurrence Event)) (p : Occurrence Event)
      → ComesToOf b v f u p
      → length h.list ≤ length u)
      → Tells g w.nodes (IsBest (λ v. Is v ⊎ Are v) w)
  with_shortest Is Are w h less = record {
    node = h.node;
    before = h.before;
    are_nodes = h.are_nodes;
    list = h.list;
    there = h.there;
    is_there = h.is_there;
    stand = h.stand;
    is = record {
      comes = h.is.comes;
      is_of = h.is.is_of;
      is_shortest = λ v one u p comes.
          elim one [ inl is ↦ h.is.is_shortest v is u p comes | inr are ↦ less v are u p comes ];
    };
  }

  turned : {Is Are : Of} (w : FoundWay) → Tells g w.nodes (IsBest (λ v. Are v ⊎ Is v) w)
      → Tells g w.nodes (IsBest (λ v. Is v ⊎ Are v) w)
  turned {Is} {Are} w h =
      fewer (λ v. Are v ⊎ Is v) (λ v. Is v ⊎ Are v) (Some w)
      (λ v t o one comes. elim one [ inl is ↦ inr is | inr are ↦ inl are ]) h

  pub best_of_two : (Is Are : Of) (one two : Option FoundWay)
      → TellsBest Is one
      → TellsBest Are two
      → TellsBest (λ v. Is v ⊎ Are v) (shorter one two)
  best_of_two Is Are None None h k =
      λ v one t o comes. elim one [ inl is ↦ h v is t o comes | inr are ↦ k v are t o comes ]
  best_of_two Is Are None (Some x) h k =
      turned {Is = Is} {Are = Are} x (with_shortest Are Is x k (λ v is u p comes. absurd (h v is u p comes)))
  best_of_two Is Are (Some w) None h k = with_shortest Is Are w h (λ v are u p comes. absurd (k v are u p comes))
  best_of_two Is Are (Some w) (Some x) h k = by (nat_lt (length x.nodes) (length w.nodes)) refl
    where
      by : (t : Bool) → nat_lt (length x.nodes) (length w.nodes) ≡ t
          → TellsBest (λ v. Is v ⊎ Are v) (if t then Some x else Some w)
      by true is =
          let less = ltb-true (length x.nodes) (length w.nodes) is in
          let one = nodes_long Is w h in
          let two = nodes_long Are x k in
          turned {Is = Is} {Are = Are} x
          (with_shortest Are Is x k
          (λ v is u p comes. let short = h.is.is_shortest v is u p comes in omega (arith, less, one, two, short)))
      by false is =
          let most = ltb-false (length x.nodes) (length w.nodes) is in
          let one = nodes_long Is w h in
          let two = nodes_long Are x k in
          with_shortest Is Are w h
          (λ v are u p comes. let short = k.is.is_shortest v are u p comes in omega (arith, most, one, two, short))

  -- of all variables of the body

  pub best_of_all : (m : Option FoundWay) → TellsBest (Contains b.variables) m → TellsWayOf b f g m
  best_of_all None h = λ is.
      let w = (faults_have_lists b f).0 is in
      let v = w.comes.variable in
      h v (fault_variable b v w.list w.there f w.comes.is_fault) w.list w.there
      record { reaches = w.comes.reaches; is_fault = w.comes.is_fault }
  best_of_all (Some w) h = record {
    node = h.node;
    before = h.before;
    are_nodes = h.are_nodes;
    list = h.list;
    there = h.there;
    is_there = h.is_there;
    stand = h.stand;
    is = record {
      is_way = record {
        comes = h.is.comes;
        is_shortest = λ u p comes.
            h.is.is_shortest comes.variable (fault_variable b comes.variable u p f comes.is_fault) u p
            record { reaches = comes.reaches; is_fault = comes.is_fault };
      };
      is_of = h.is.is_of;
    };
  }

-- One variable more

one_more : (vs : List KeptVariable) (i : ℕ) (d : KeptVariable)
    → i < length vs
    → (w : Variable)
    → Contains (map variable_view (take (i + 1) vs)) w
    → Contains (map variable_view (take i vs)) w ⊎ (variable_view (get_or vs i d) ≡ w)
one_more vs i d less w there =
    let x = get_or vs i d in
    let split : map variable_view (take (i + 1) vs) ≡ map variable_view (take i vs) ++ variable_view x ∷ [] =
    ap (map variable_view) (take_more vs i d less) ∙ map-append variable_view (take i vs) (x ∷ []) in
    elim (Contains-append_cases (map variable_view (take i vs)) (variable_view x ∷ []) w
    (subst (λ ws. Contains ws w) split there)) [
      | inl before ↦ inl before
      | inr last ↦
          elim (contains_cases (variable_view x) w [] last) [
            | inl same ↦ inr same
            | inr bad ↦ absurd (contains_nil w bad)
          ]
    ]

pub in_body : (b : Paths) (vs : List KeptVariable) (i : ℕ) (d : KeptVariable)
    → b.variables ≡ map variable_view vs
    → i < length vs
    → Contains b.variables (variable_view (get_or vs i d))
in_body b vs i d are less =
    subst (λ ws. Contains ws (variable_view (get_or vs i d))) (sym are)
    (contains_at (map variable_view vs) i (variable_view (get_or vs i d))
    (slice_get-map variable_view vs i ∙ ap (option_map variable_view) (slice_get-get_or vs i d less)))

module _ (b : Paths) (f : PathFault) (g : Graph Event) (vs : List KeptVariable) (i : ℕ) (d : KeptVariable)
    (less : i < length vs) (best : Option FoundWay)
    (h : TellsBest b f g (Contains (map variable_view (take i vs))) best) where
  pub with_one : (found : Option FoundWay)
      → TellsWayOfVariable b (variable_view (get_or vs i d)) f g found
      → TellsBest b f g (Contains (map variable_view (take (i + 1) vs))) (shorter best found)
  with_one found k =
      fewer b f g (λ w. Contains (map variable_view (take i vs)) w ⊎ (variable_view (get_or vs i d) ≡ w))
      (Contains (map variable_view (take (i + 1) vs))) (shorter best found)
      (λ w t o there comes. one_more vs i d less w there)
      (best_of_two b f g (Contains (map variable_view (take i vs))) (λ w. variable_view (get_or vs i d) ≡ w) best found h
      (of_one b f g (variable_view (get_or vs i d)) found k))

  pub without : bytes_eq (get_or vs i d).name.now f.name ≡ false
      → TellsBest b f g (Contains (map variable_view (take (i + 1) vs))) best
  without other =
      fewer b f g (Contains (map variable_view (take i vs))) (Contains (map variable_view (take (i + 1) vs))) best
      (λ w t o there comes.
      elim (one_more vs i d less w there) [
        | inl before ↦ before
        | inr same ↦
            absurd (true≢false
            (sym ((bytes_eq-Decides (get_or vs i d).name.now f.name).1
            (ap (λ (x : Variable). x.name) same ∙ fault_name b w t o f comes.is_fault)) ∙ other))
      ])
      h
