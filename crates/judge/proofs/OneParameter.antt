-- A body has one parameter at a position, where no two bodies of the file begin at one offset.
use Rattle.std.proofs.Common.{◌≡◌, ℕ, ◌+◌, ◌≤◌, ◌⊎◌, Bool, true, false, inl, inr, List, [], ◌∷◌, Option, Some, None, Contains, refl, sym, ap, ◌∙◌, subst, arith}
use Rattle.std.specs.Prelude.{◌==◌, if◌then◌else◌}
use Rattle.std.proofs.lemmas.Bool.Decides.{Decides-eqb}
use Rattle.std.proofs.lemmas.List.Elements.{Contains-append_cases, Contains-append_left, Contains-append_right}
use Rattle.meaning.proofs.Membership.{contains_here, contains_cases, contains_nil}
use Rattle.meaning.specs.BodyEvents.{Variable, own_parameter, captured, role_in, role_in_own, opened_by, opened_in, bodies_of, variables_of, seen_file}
use Rattle.meaning.specs.FunctionFacts.{TrackedType, cancel_type, Item, items_of, item_type}
use Rattle.meaning.specs.Mentions.{BodyPlace, Mention, Mark, mentions, of_fields, runs_literal, returns, opens, closes}
use Rattle.meaning.specs.Objects.{ObjectKind, new_object, outer_object, ObjectRow, object_rows, first_place, field_local, field_locals}
use Rattle.meaning.specs.Scopes.{is_blank}
use Rattle.meaning.specs.Tracked.{Known, Placed, LocalRole, parameter, receiver, variadic, result, in_block, Local, item_local, parameter_role, parameter_locals, receiver_locals, only_cancel, result_locals, receiver_items, signature_locals, body_locals, declared_by, declared_local, locals_there, locals_of}
use Rattle.meaning.specs.Uses.{Seen}
use Rattle.meaning_packages.proofs.BodyPlaces.{placed_only}
use Rattle.meaning_runs.proofs.Captured.{of_variable}
use Rattle.meaning_runs.proofs.OwnVariables.{found_is}
use Rattle.tree.specs.Syntax.{Identifier, Signature, signature_of, SourceFile}

-- the position of a parameter
abbrev pub position : LocalRole → Option ℕ
position (parameter k) = Some k
position receiver = None
position variadic = None
position result = None
position in_block = None

-- Locals of a signature

item_role : (b : BodyPlace) (role : LocalRole) (typed : Option TrackedType) (o : Option Identifier) (l : Local)
    → Contains (item_local b role typed o) l
    → (l.role ≡ role) × (l.body ≡ b.at)
item_role b role typed None l h = absurd (contains_nil l h)
item_role b role typed (Some n) l h = by (is_blank n.text) h
  where
    it : Local
    it = record {
      number = n.span.start;
      name = n.text;
      at = n.span.start;
      role = role;
      typed = typed;
      body = b.at;
    }

    by : (t : Bool) → Contains (if t then [] else it ∷ []) l → (l.role ≡ role) × (l.body ≡ b.at)
    by true k = absurd (contains_nil l k)
    by false k = elim (contains_cases it l [] k) [
      | inl same ↦ (ap (λ (x : Local). x.role) (sym same), ap (λ (x : Local). x.body) (sym same))
      | inr none ↦ absurd (contains_nil l none)
    ]

-- an item has one local
one_of_item : (b : BodyPlace) (role : LocalRole) (typed : Option TrackedType) (o : Option Identifier) (l m : Local)
    → Contains (item_local b role typed o) l
    → Contains (item_local b role typed o) m
    → l ≡ m
one_of_item b role typed None l m h k = absurd (contains_nil l h)
one_of_item b role typed (Some n) l m h k = by (is_blank n.text) h k
  where
    it : Local
    it = record {
      number = n.span.start;
      name = n.text;
      at = n.span.start;
      role = role;
      typed = typed;
      body = b.at;
    }

    only : (x : Local) → Contains (it ∷ []) x → it ≡ x
    only x g = elim (contains_cases it x [] g) [ inl same ↦ same | inr none ↦ absurd (contains_nil x none) ]

    by : (t : Bool) → Contains (if t then [] else it ∷ []) l → Contains (if t then [] else it ∷ []) m → l ≡ m
    by true g j = absurd (contains_nil l g)
    by false g j = sym (only l g) ∙ only m j

its_position : (j : ℕ) (i : Item) (k : ℕ) → position (parameter_role (parameter j) i) ≡ Some k → j ≡ k
its_position j i k e = by i.is_variadic e
  where
    by : (t : Bool) → position (if t then variadic else parameter j) ≡ Some k → j ≡ k
    by true q = cc
    by false q = cc

module _ (known : Known) (b : BodyPlace) where
  -- a parameter stands at one of the items that are left
  at_or_behind : (j : ℕ) (is : List Item) (l : Local) (k : ℕ) → Contains (parameter_locals known b j is) l
      → position l.role ≡ Some k
      → j ≤ k
  at_or_behind j [] l k h e = absurd (contains_nil l h)
  at_or_behind j (i ∷ is) l k h e =
      elim (Contains-append_cases (item_local b (parameter_role (parameter j) i) (item_type known.means i) i.name)
      (parameter_locals known b (j + 1) is) l h) [
        | inl here ↦
            let role = (item_role b (parameter_role (parameter j) i) (item_type known.means i) i.name l here).0 in
            let same = its_position j i k (ap position (sym role) ∙ e) in
            omega (arith, same)
        | inr later ↦ let behind = at_or_behind (j + 1) is l k later e in omega (arith, behind)
      ]

  one_parameter : (j : ℕ) (is : List Item) (l m : Local) (k : ℕ) → Contains (parameter_locals known b j is) l
      → Contains (parameter_locals known b j is) m
      → position l.role ≡ Some k
      → position m.role ≡ Some k
      → l ≡ m
  one_parameter j [] l m k h g e d = absurd (contains_nil l h)
  one_parameter j (i ∷ is) l m k h g e d =
      by (Contains-append_cases first rest l h) (Contains-append_cases first rest m g)
      (λ x y. one_parameter (j + 1) is l m k x y e d)
    where
      first : List Local
      first = item_local b (parameter_role (parameter j) i) (item_type known.means i) i.name

      rest : List Local
      rest = parameter_locals known b (j + 1) is

      apart : (x y : Local) → Contains first x → Contains rest y → position x.role ≡ Some k → position y.role ≡ Some k → ⊥
      apart x y here later p q =
          let role = (item_role b (parameter_role (parameter j) i) (item_type known.means i) i.name x here).0 in
          let same = its_position j i k (ap position (sym role) ∙ p) in
          let behind = at_or_behind (j + 1) is y k later q in
          omega (arith, same, behind)

      by : Contains first l ⊎ Contains rest l → Contains first m ⊎ Contains rest m
          → (Contains rest l → Contains rest m → l ≡ m)
          → l ≡ m
      by (inl x) (inl y) go =
          one_of_item b (parameter_role (parameter j) i) (item_type known.means i) i.name l m x y
      by (inl x) (inr y) go = absurd (apart l m x y e d)
      by (inr x) (inl y) go = absurd (apart m l y x d e)
      by (inr x) (inr y) go = go x y

  -- others have no position
  receiver_none : (is : List Item) (l : Local) (k : ℕ) → Contains (receiver_locals known b is) l
      → position l.role ≡ Some k
      → ⊥
  receiver_none [] l k h e = contains_nil l h
  receiver_none (i ∷ is) l k h e =
      elim (Contains-append_cases (item_local b (parameter_role receiver i) (item_type known.means i) i.name)
      (receiver_locals known b is) l h) [
        | inl here ↦
            none i.is_variadic
            (ap position (sym (item_role b (parameter_role receiver i) (item_type known.means i) i.name l here).0) ∙ e)
        | inr later ↦ receiver_none is l k later e
      ]
    where
      none : (t : Bool) → position (if t then variadic else receiver) ≡ Some k → ⊥
      none true q = cc
      none false q = cc

  result_none : (is : List Item) (l : Local) (k : ℕ) → Contains (result_locals known b is) l
      → position l.role ≡ Some k
      → ⊥
  result_none [] l k h e = contains_nil l h
  result_none (i ∷ is) l k h e =
      elim (Contains-append_cases (item_local b result (only_cancel (item_type known.means i)) i.name)
      (result_locals known b is) l h) [
        | inl here ↦
            let bad : position result ≡ Some k =
            ap position (sym (item_role b result (only_cancel (item_type known.means i)) i.name l here).0) ∙ e in
            cc
        | inr later ↦ result_none is l k later e
      ]

  among_parameters : (s : Signature) (l : Local) (k : ℕ) → Contains (signature_locals known b s) l
      → position l.role ≡ Some k
      → (is : List Item) × Contains (parameter_locals known b 0 is) l
      × ((m : Local) → Contains (signature_locals known b s) m → position m.role ≡ Some k
      → Contains (parameter_locals known b 0 is) m)
  among_parameters (signature_of ps rs brackets) l k h e = (items_of ps, its l h e, λ m g d. its m g d)
    where
      its : (m : Local) → Contains (signature_locals known b (signature_of ps rs brackets)) m → position m.role ≡ Some k
          → Contains (parameter_locals known b 0 (items_of ps)) m
      its m g d =
          elim (Contains-append_cases (parameter_locals known b 0 (items_of ps)) (result_locals known b (items_of rs)) m g) [
            | inl here ↦ here
            | inr later ↦ absurd (result_none (items_of rs) m k later d)
          ]

  in_signature : (l : Local) (k : ℕ) → Contains (body_locals known b) l → position l.role ≡ Some k
      → Contains (signature_locals known b b.signature) l
  in_signature l k h e =
      elim (Contains-append_cases (receiver_locals known b (receiver_items b.receiver))
      (signature_locals known b b.signature) l h) [
        | inl here ↦ absurd (receiver_none (receiver_items b.receiver) l k here e)
        | inr later ↦ later
      ]

  pub one_of_body : (l m : Local) (k : ℕ) → Contains (body_locals known b) l → Contains (body_locals known b) m
      → position l.role ≡ Some k
      → position m.role ≡ Some k
      → l ≡ m
  one_of_body l m k h g e d =
      let w = among_parameters b.signature l k (in_signature l k h e) e in
      one_parameter 0 w.0 l m k w.1 (w.2 m (in_signature m k g d) d) e d

-- Locals of a file

-- a parameter is one of the body that is opened there
record OfOpened (known : Known) (marks : List Placed) (l : Local) : Type 0 where
  body : BodyPlace
  is_opened : Contains (opened_in marks) body
  is_its : Contains (body_locals known body) l

receiver_body : (known : Known) (b : BodyPlace) (is : List Item) (l : Local) → Contains (receiver_locals known b is) l
    → l.body ≡ b.at
receiver_body known b [] l h = absurd (contains_nil l h)
receiver_body known b (i ∷ is) l h =
    elim (Contains-append_cases (item_local b (parameter_role receiver i) (item_type known.means i) i.name)
    (receiver_locals known b is) l h) [
      | inl here ↦ (item_role b (parameter_role receiver i) (item_type known.means i) i.name l here).1
      | inr later ↦ receiver_body known b is l later
    ]

parameter_body : (known : Known) (b : BodyPlace) (j : ℕ) (is : List Item) (l : Local)
    → Contains (parameter_locals known b j is) l
    → l.body ≡ b.at
parameter_body known b j [] l h = absurd (contains_nil l h)
parameter_body known b j (i ∷ is) l h =
    elim (Contains-append_cases (item_local b (parameter_role (parameter j) i) (item_type known.means i) i.name)
    (parameter_locals known b (j + 1) is) l h) [
      | inl here ↦ (item_role b (parameter_role (parameter j) i) (item_type known.means i) i.name l here).1
      | inr later ↦ parameter_body known b (j + 1) is l later
    ]

result_body : (known : Known) (b : BodyPlace) (is : List Item) (l : Local) → Contains (result_locals known b is) l
    → l.body ≡ b.at
result_body known b [] l h = absurd (contains_nil l h)
result_body known b (i ∷ is) l h =
    elim (Contains-append_cases (item_local b result (only_cancel (item_type known.means i)) i.name)
    (result_locals known b is) l h) [
      | inl here ↦ (item_role b result (only_cancel (item_type known.means i)) i.name l here).1
      | inr later ↦ result_body known b is l later
    ]

signature_body : (known : Known) (b : BodyPlace) (s : Signature) (l : Local) → Contains (signature_locals known b s) l
    → l.body ≡ b.at
signature_body known b (signature_of ps rs brackets) l h =
    elim (Contains-append_cases (parameter_locals known b 0 (items_of ps)) (result_locals known b (items_of rs)) l h) [
      | inl here ↦ parameter_body known b 0 (items_of ps) l here
      | inr later ↦ result_body known b (items_of rs) l later
    ]

its_body : (known : Known) (b : BodyPlace) (l : Local) → Contains (body_locals known b) l → l.body ≡ b.at
its_body known b l h =
    elim (Contains-append_cases (receiver_locals known b (receiver_items b.receiver))
    (signature_locals known b b.signature) l h) [
      | inl here ↦ receiver_body known b (receiver_items b.receiver) l here
      | inr later ↦ signature_body known b b.signature l later
    ]

declared_none : (known : Known) (m : Mention) (bodies : List BodyPlace) (o : Option ℕ) (l : Local) (k : ℕ)
    → Contains (declared_local known m bodies o) l
    → position l.role ≡ Some k
    → ⊥
declared_none known m [] o l k h e = contains_nil l h
declared_none known m (b ∷ bs) None l k h e = contains_nil l h
declared_none known m (b ∷ bs) (Some number) l k h e =
    elim (contains_cases _ l [] h) [
      | inl same ↦
          let bad : position in_block ≡ Some k = ap (λ (x : Local). position x.role) same ∙ e in
          cc
      | inr none ↦ contains_nil l none
    ]

of_mark : (known : Known) (bodies : List BodyPlace) (mark : Mark) (l : Local) (k : ℕ)
    → Contains (locals_there known bodies mark) l
    → position l.role ≡ Some k
    → (b : BodyPlace) × Contains (opened_by mark) b × Contains (body_locals known b) l
of_mark known bodies (mentions m) l k h e = absurd (declared_none known m bodies (declared_by known m) l k h e)
of_mark known bodies (of_fields site m) l k h e = absurd (contains_nil l h)
of_mark known bodies (runs_literal moment site at) l k h e = absurd (contains_nil l h)
of_mark known bodies (returns at es) l k h e = absurd (contains_nil l h)
of_mark known bodies (opens b) l k h e = (b, contains_here b [], h)
of_mark known bodies closes l k h e = absurd (contains_nil l h)

of_opened : (known : Known) (marks : List Placed) (l : Local) (k : ℕ) → Contains (locals_of known marks) l
    → position l.role ≡ Some k
    → OfOpened known marks l
unfolding locals_of
of_opened known [] l k h e = absurd (contains_nil l h)
of_opened known (p ∷ ps) l k h e =
    elim (Contains-append_cases (locals_there known p.bodies p.mark) (locals_of known ps) l h) [
      | inl here ↦
          let w = of_mark known p.bodies p.mark l k here e in
          record {
            body = w.0;
            is_opened = Contains-append_left (opened_by p.mark) (opened_in ps) w.0 w.1;
            is_its = w.2;
          }
      | inr later ↦
          let w = of_opened known ps l k later e in
          record {
            body = w.body;
            is_opened = Contains-append_right (opened_by p.mark) (opened_in ps) w.body w.is_opened;
            is_its = w.is_its;
          }
    ]

-- a field that is a variable of its own is no parameter

by_field : (kind : ObjectKind) (r : ObjectRow) (number : ℕ) (l : Local) (k : ℕ) → position l.role ≡ Some k
    → Contains (field_local kind r number) l
    → ⊥
by_field outer_object r number l k e h = contains_nil l h
by_field new_object r number l k e h = by (r.field.span.start == number) h
  where
    its : Local
    its = record {
      number = number;
      name = r.field.text;
      at = number;
      role = in_block;
      typed = Some (cancel_type r.type);
      body = r.body;
    }

    by : (t : Bool) → Contains (if t then its ∷ [] else []) l → ⊥
    by true among = elim (contains_cases its l [] among) [
      | inl same ↦
          let bad : position in_block ≡ Some k = ap (λ (x : Local). position x.role) same ∙ e in
          cc
      | inr none ↦ contains_nil l none
    ]
    by false among = contains_nil l among

no_field : (all rows : List ObjectRow) (l : Local) (k : ℕ) → position l.role ≡ Some k
    → Contains (field_locals all rows) l
    → ⊥
no_field all [] l k e h = contains_nil l h
no_field all (r ∷ rs) l k e h =
    elim (Contains-append_cases (field_local r.kind r (first_place r all)) (field_locals all rs) l h) [
      | inl here ↦ by_field r.kind r (first_place r all) l k e here
      | inr later ↦ no_field all rs l k e later
    ]

-- each parameter among these locals has a name of its own
abbrev pub AreNamed : Known → Seen → Type 0
AreNamed known seen = (l : Local) (k : ℕ) → position l.role ≡ Some k → Contains seen.locals l
    → Contains (locals_of known seen.marks) l

pub named_there : (known : Known) (tree : SourceFile) → AreNamed known (seen_file known tree)
named_there known tree l k e h =
    let marks = (seen_file known tree).marks in
    let rows = object_rows known marks in
    elim (Contains-append_cases (locals_of known marks) (field_locals rows rows) l h) [
      | inl own ↦ own
      | inr field ↦ absurd (no_field rows rows l k e field)
    ]

-- Variables of a body

role_of : (body : ℕ) (l : Local) (k : ℕ) → own_parameter k ≡ role_in body l → (l.body ≡ body) × (position l.role ≡ Some k)
role_of body l k e = by (l.body == body) (Decides-eqb l.body body).0 e
  where
    its : (r : LocalRole) → own_parameter k ≡ role_in_own r → position r ≡ Some k
    its (parameter j) q = cc
    its receiver q = cc
    its variadic q = cc
    its result q = cc
    its in_block q = cc

    by : (t : Bool) → (t ≡ true → l.body ≡ body) → own_parameter k ≡ (if t then role_in_own l.role else captured)
        → (l.body ≡ body) × (position l.role ≡ Some k)
    by true same q = (same refl, its l.role q)
    by false same q = cc

module _ (seen : Seen) (known : Known) (b : BodyPlace) (named : AreNamed known seen)
    (one_each : (c d : BodyPlace) → Contains (opened_in seen.marks) c → Contains (opened_in seen.marks) d → c.at ≡ d.at → c ≡ d)
    (there : Contains (bodies_of seen) b) where
  record OfBody (v : Variable) (k : ℕ) : Type 0 where
    local : Local
    is_numbered : local.number ≡ v.number
    is_its : Contains (body_locals known b) local
    is_parameter : position local.role ≡ Some k

  of_body : (v : Variable) (k : ℕ) → Contains (variables_of seen b.at) v → v.role ≡ own_parameter k → OfBody v k
  of_body v k h role =
      let w = of_variable seen b.at v h in
      let r = role_of b.at w.0 k (sym role ∙ w.3) in
      let among = named w.0 k r.1 (found_is seen (Some v.number) w.0 w.1).1 in
      let o = of_opened known seen.marks w.0 k among r.1 in
      let same : o.body ≡ b =
      one_each o.body b o.is_opened (placed_only (opened_in seen.marks) b there)
      (sym (its_body known o.body w.0 o.is_its) ∙ r.0) in
      record {
        local = w.0;
        is_numbered = w.2;
        is_its = subst (λ c. Contains (body_locals known c) w.0) same o.is_its;
        is_parameter = r.1;
      }

  -- two variables at one position have one number
  pub one_number : (v u : Variable) (k : ℕ) → Contains (variables_of seen b.at) v → Contains (variables_of seen b.at) u
      → v.role ≡ own_parameter k
      → u.role ≡ own_parameter k
      → v.number ≡ u.number
  one_number v u k h g role too =
      let a = of_body v k h role in
      let c = of_body u k g too in
      let same = one_of_body known b a.local c.local k a.is_its c.is_its a.is_parameter c.is_parameter in
      sym a.is_numbered ∙ (ap (λ (l : Local). l.number) same ∙ c.is_numbered)
