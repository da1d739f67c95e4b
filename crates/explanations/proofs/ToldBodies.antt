-- What is told of bodies, one after the other.
use Rattle.std.proofs.Common.{◌≡◌, ℕ, Bool, inl, inr, List, [], ◌∷◌, ◌++◌, map, Contains, None, sym, ap, ◌∙◌, subst}
use Rattle.std.specs.Prelude.{is_some}
use Rattle.std.proofs.lemmas.Bool.{false≢true}
use Rattle.std.proofs.lemmas.List.{append_assoc, append-nil, map-append}
use Rattle.std.proofs.lemmas.List.Elements.{Contains-append_left, Contains-append_right, Contains-append_cases}
use Rattle.body_ways.specs.BodyWays.{ToldWay, AreToldWays}
use Rattle.bodies.specs.Bodies.{TellsBody}
use Rattle.bodies.specs.declared.body.Body.{Body as KeptBody}
use Rattle.credits.proofs.SettledBodies.{paths_there}
use Rattle.explanations.specs.Ways.{AddsTold, AreToldOf}
use Rattle.findings.specs.FoundEntries.{known_paths}
use Rattle.meaning.proofs.Membership.{contains_nil, contains_here, contains_there, contains_cases}
use Rattle.meaning.specs.BodyEvents.{Variable, unfollowed_faults}
use Rattle.meaning.specs.Mentions.{BodyPlace}
use Rattle.meaning.specs.Uses.{Callee}
use Rattle.meaning_packages.specs.CallsFlags.{FileWithCredits}
use Rattle.meaning_packages.specs.PathFaults.{Paths, PathFault, IsPathFault, loses_cancel, loses_group, returns_live, returns_open, returns_kept, returns_pending}
use Rattle.reasons.specs.Branches.{branches_of}

-- a fault of a path is of a variable of the body
pub variable_of_fault : (paths : Paths) (f : PathFault) → IsPathFault paths f → (v : Variable) × Contains paths.variables v
variable_of_fault paths f (loses_cancel v u t o is_there is_cancel reaches binds same is_lost) = (v, is_there)
variable_of_fault paths f (loses_group g u state t o reaches makes same live) = (g, live.is_of_body)
variable_of_fault paths f (returns_live g handed t o comes is_declared live) = (g, live.is_of_body)
variable_of_fault paths f (returns_open v handed t o comes owes is_open) = (v, owes.is_of_body)
variable_of_fault paths f (returns_kept v handed t o comes owes is_kept elsewhere) = (v, owes.is_of_body)
variable_of_fault paths f (returns_pending v handed t o comes owes left) = (v, owes.is_of_body)

module _ (calls : Callee → ℕ → Bool) (file : FileWithCredits) where
  -- one body of which this is told
  pub adds_body : (b : BodyPlace) (before added after : List ToldWay) → after ≡ before ++ added
      → AreToldWays (known_paths calls file b) (branches_of b.statements) added
      → AddsTold calls file (b ∷ []) before after
  adds_body b before added after is_added told = record {
    added = added;
    is_added = is_added;
    are_told = record {
      each = λ t h. record { body = b; is_body = contains_here b []; is_told = told.each t h };
      all = λ c f is_c followed fault.
          elim (contains_cases b c [] is_c) [
            | inl same ↦
                told.all f (subst (λ x. IsPathFault (known_paths calls file x) f) (sym same) fault)
            | inr bad ↦ absurd (contains_nil c bad)
          ];
    };
  }

  -- a body without a graph has no fault of a path
  pub adds_nothing : (number : ℕ) (b : BodyPlace) (body : KeptBody) (told : List ToldWay)
      → TellsBody number file.seen b body
      → body.graph ≡ None
      → AddsTold calls file (b ∷ []) told told
  adds_nothing number b body told tells none = record {
    added = [];
    is_added = sym (append-nil told);
    are_told = record {
      each = λ t h. absurd (contains_nil t h);
      all = λ c f is_c followed fault.
          elim (contains_cases b c [] is_c) [
            | inl same ↦
                let at_b = subst (λ x. unfollowed_faults file.seen x ≡ []) (sym same) followed in
                let v = variable_of_fault (known_paths calls file b) f
                (subst (λ x. IsPathFault (known_paths calls file x) f) (sym same) fault) in
                absurd (false≢true
                (ap is_some (sym none) ∙ tells.has_graph ∙ paths_there file.seen b v.0 v.1 at_b))
            | inr bad ↦ absurd (contains_nil c bad)
          ];
    };
  }

  -- What is added with what is left

  -- what the rest adds to what was added so far makes it all
  abbrev pub AddsOn : List ToldWay → List ToldWay → List BodyPlace → List BodyPlace → Type 0
  AddsOn before so_far left bodies = (after : List ToldWay)
      → AddsTold calls file left so_far after
      → AddsTold calls file bodies before after

  both_told : (b : BodyPlace) (left : List BodyPlace) (first rest : List ToldWay) → AreToldOf calls file (b ∷ []) first
      → AreToldOf calls file left rest
      → AreToldOf calls file (b ∷ left) (first ++ rest)
  both_told b left first rest one others = record {
    each = λ t h.
        elim (Contains-append_cases first rest t h) [
          | inl new ↦
              let w = one.each t new in
              let is_body : Contains (b ∷ left) w.body = elim (contains_cases b w.body [] w.is_body) [
                | inl same ↦ subst (Contains (b ∷ left)) same (contains_here b left)
                | inr bad ↦ absurd (contains_nil w.body bad)
              ] in
              record { body = w.body; is_body = is_body; is_told = w.is_told }
          | inr later ↦
              let w = others.each t later in
              record { body = w.body; is_body = contains_there b w.body left w.is_body; is_told = w.is_told }
        ];
    all = λ c f is_c followed fault.
        subst (λ fs. Contains fs f) (sym (map-append (λ (t : ToldWay). t.fault) first rest))
        (elim (contains_cases b c left is_c) [
          | inl same ↦
              Contains-append_left (map (λ (t : ToldWay). t.fault) first) (map (λ (t : ToldWay). t.fault) rest) f
              (one.all c f (subst (Contains (b ∷ [])) same (contains_here b [])) followed fault)
          | inr later ↦
              Contains-append_right (map (λ (t : ToldWay). t.fault) first) (map (λ (t : ToldWay). t.fault) rest) f
              (others.all c f later followed fault)
        ]);
  }

  pub adds_next : (before so_far next : List ToldWay) (b : BodyPlace) (left here bodies : List BodyPlace)
      → here ≡ b ∷ left
      → AddsTold calls file (b ∷ []) so_far next
      → AddsOn before so_far here bodies
      → AddsOn before next left bodies
  adds_next before so_far next b left here bodies is_here one on = λ after rest.
      on after (subst (λ bs. AddsTold calls file bs so_far after) (sym is_here)
      (record {
        added = one.added ++ rest.added;
        is_added = rest.is_added
            ∙ (ap (λ ts. ts ++ rest.added) one.is_added ∙ append_assoc so_far one.added rest.added);
        are_told = both_told b left one.added rest.added one.are_told rest.are_told;
      }))

  pub adds_all : (before so_far : List ToldWay) (left bodies : List BodyPlace) → left ≡ []
      → AddsOn before so_far left bodies
      → AddsTold calls file bodies before so_far
  adds_all before so_far left bodies none on =
      on so_far (record {
        added = [];
        is_added = sym (append-nil so_far);
        are_told = record {
          each = λ t h. absurd (contains_nil t h);
          all = λ b f h followed fault. absurd (contains_nil b (subst (λ bs. Contains bs b) none h));
        };
      })

  pub all_told : (before told : List ToldWay) (bodies : List BodyPlace) → before ≡ []
      → AddsTold calls file bodies before told
      → AreToldOf calls file bodies told
  all_told before told bodies none adds =
      subst (AreToldOf calls file bodies) (sym (adds.is_added ∙ ap (λ ts. ts ++ adds.added) none)) adds.are_told
