-- What the program keeps of the variables of bodies, and what it stands for.
use Rattle.std.specs.Prelude.{ℕ, ◌≡◌, ◌==◌, not, ◌&&◌, ◌||◌, Bool, true, false, if◌then◌else◌, List, [], ◌∷◌, ◌++◌, Option, Some, None, option_map, map, nat_eq}
use Rattle.std.specs.List.{list_any}
use Rattle.indexmap.specs.IndexMap.{IndexMap, get, IsUnique}
use Rattle.lists.specs.declared.Lists.{Lists}
use Rattle.events.specs.ToldViews.{if_there}
use Rattle.lists.specs.ListViews.{items_at}
use Rattle.facts.specs.FactViews.{kind_view}
use Rattle.uses.specs.declared.faults.UseFault.{UseFault as KeptFault}
use Rattle.uses.specs.OutcomeViews.{fault_view}
use Rattle.events.specs.declared.sightings.Sighting.{Sighting}
use Rattle.events.specs.declared.variable.VariableRole.{VariableRole as KeptRole}
use Rattle.events.specs.declared.variable.VariableRole.TheVariants.{OwnParameter, OwnReceiver, DeclaredInBody, Captured}
use Rattle.events.specs.declared.variable.Variable.{Variable as KeptVariable}
use Rattle.events.specs.declared.by_variables.SeenBodies.{SeenBodies}
use Rattle.events.specs.declared.found.Variables.{Variables}
use Rattle.kept_events.specs.KeptEventViews.{MayKeep}
use Rattle.tracked.specs.declared.seen.Seen.{Seen as KeptSeen}
use Rattle.tracked.specs.LocalViews.{seen_view, Sees}
use Rattle.meaning.specs.FunctionFacts.{VariableKind}
use Rattle.meaning.specs.Mentions.{BodyPlace, Mark, mentions, of_fields, runs_literal, returns, opens, closes}
use Rattle.meaning.specs.Tracked.{variable_of, is_variable, Placed, Local}
use Rattle.meaning.specs.Uses.{Seen, found, is_tracked, UseFault}
use Rattle.meaning.specs.BodyEvents.{lesser, VariableRole, own_parameter, own_receiver, declared_in_body, captured, Variable, role_in_own, first_in, in_their_order, variables_of, is_cancel_variable}

abbrev pub variable_role_view : KeptRole → VariableRole
variable_role_view (OwnParameter k) = own_parameter k
variable_role_view OwnReceiver = own_receiver
variable_role_view DeclaredInBody = declared_in_body
variable_role_view Captured = captured

abbrev pub variable_view : KeptVariable → Variable
variable_view v = record {
  number = v.number;
  name = v.name.now;
  kind = kind_view v.kind;
  role = variable_role_view v.role;
  first = v.first;
}

-- Sightings of a local

-- a mention at this offset of a local that a body declares, as each of these bodies sees it, the outermost first
abbrev pub body_sightings : ℕ → ℕ → List BodyPlace → List Sighting
body_sightings declaring at [] = []
body_sightings declaring at (b ∷ bs) =
    body_sightings declaring at bs
    ++ record { body = b.at; first = at; is_captured = list_any (λ c. c.at == declaring) bs } ∷ []

abbrev pub tracked_local : Seen → Option ℕ → Option Local
tracked_local seen number = if is_tracked seen number then found seen number else None

abbrev pub local_sightings : Option Local → ℕ → List BodyPlace → List Sighting
local_sightings None at bodies = []
local_sightings (Some l) at bodies = body_sightings l.body at bodies

abbrev pub mark_sightings : Seen → ℕ → List BodyPlace → Mark → List Sighting
mark_sightings seen n bodies (mentions m) =
    if_there (is_variable (variable_of seen.known m) n)
    (local_sightings (tracked_local seen (Some n)) m.named.at bodies)
mark_sightings seen n bodies (of_fields site m) = []
mark_sightings seen n bodies (runs_literal moment site at) = []
mark_sightings seen n bodies (returns at es) = []
mark_sightings seen n bodies (opens b) = []
mark_sightings seen n bodies closes = []

-- the sightings of the local of that number, if it is tracked
abbrev pub sightings_of : Seen → ℕ → List Placed → List Sighting
sightings_of seen n [] = []
sightings_of seen n (p ∷ ps) = mark_sightings seen n p.bodies p.mark ++ sightings_of seen n ps

abbrev pub AddsSightings : Seen → List BodyPlace → Mark → Lists Sighting → Lists Sighting → Type 0
AddsSightings seen bodies mark before after =
    (n : ℕ) → items_at after n ≡ items_at before n ++ mark_sightings seen n bodies mark

-- One sighting for each body

abbrev pub joined : Sighting → Sighting → Sighting
joined s t = record {
  body = s.body;
  first = lesser s.first t.first;
  is_captured = s.is_captured || t.is_captured;
}

abbrev pub both : Option Sighting → Option Sighting → Option Sighting
both None o = o
both (Some s) None = Some s
both (Some s) (Some t) = Some (joined s t)

abbrev pub merged_of : ℕ → List Sighting → Option Sighting
merged_of body [] = None
merged_of body (s ∷ ss) = if s.body == body then both (Some s) (merged_of body ss) else merged_of body ss

-- the map has one sighting for each body that is among these
pub record Merges {S : Type 0} (bodies : IndexMap ℕ Sighting S) (ss : List Sighting) : Type 0 where
  pub merged : (body : ℕ) → get nat_eq bodies body ≡ merged_of body ss
  pub unique : IsUnique nat_eq bodies

-- Variables

abbrev pub first_of : Option Sighting → Option ℕ
first_of = option_map (λ s. s.first)

abbrev pub own_variable : Local → VariableKind → Option Sighting → Variable
own_variable l kind sighting = record {
  number = l.number;
  name = l.name;
  kind = kind;
  role = role_in_own l.role;
  first = first_in (role_in_own l.role) l (first_of sighting);
}

abbrev pub captured_variable : Local → VariableKind → ℕ → Variable
captured_variable l kind first = record {
  number = l.number;
  name = l.name;
  kind = kind;
  role = captured;
  first = first;
}

abbrev pub captured_in : Local → VariableKind → ℕ → Sighting → List Variable
captured_in l kind body s =
    if_there (s.is_captured && not (l.body == body)) (captured_variable l kind s.first ∷ [])

abbrev pub captured_entry : Local → VariableKind → ℕ → Option (ℕ × Sighting) → List Variable
captured_entry l kind body None = []
captured_entry l kind body (Some e) = if_there (nat_eq e.0 body) (captured_in l kind e.0 e.1)

abbrev pub captured_among : Local → VariableKind → ℕ → List (ℕ × Sighting) → List Variable
captured_among l kind body [] = []
captured_among l kind body (e ∷ es) =
    if_there (nat_eq e.0 body) (captured_in l kind e.0 e.1) ++ captured_among l kind body es

abbrev pub captured_by : Local → VariableKind → ℕ → Option Sighting → List Variable
captured_by l kind body None = []
captured_by l kind body (Some s) = captured_in l kind body s

abbrev pub own_in : Local → VariableKind → ℕ → Option Sighting → List Variable
own_in l kind body sighting = if_there (nat_eq l.body body) (own_variable l kind sighting ∷ [])

abbrev pub variables_in : Lists KeptVariable → ℕ → List Variable
variables_in lists body = map variable_view (items_at lists body)

abbrev pub AddsVariables : Lists KeptVariable → Lists KeptVariable → (ℕ → List Variable) → Type 0
AddsVariables before after variables =
    (body : ℕ) → variables_in after body ≡ variables_in before body ++ variables body

abbrev pub AddsOwn : Local → VariableKind → Option Sighting → Lists KeptVariable → Lists KeptVariable → Type 0
AddsOwn l kind sighting before after = AddsVariables before after (λ body. own_in l kind body sighting)

abbrev pub AddsAsCaptured : Local → VariableKind → ℕ → Sighting → Lists KeptVariable → Lists KeptVariable → Type 0
AddsAsCaptured l kind body s before after =
    AddsVariables before after (λ b. if_there (nat_eq body b) (captured_in l kind body s))

abbrev pub AddsCaptured
    : Local → VariableKind → List (ℕ × Sighting) → Lists KeptVariable → Lists KeptVariable → Type 0
AddsCaptured l kind entries before after = AddsVariables before after (λ body. captured_among l kind body entries)

-- a local with these sightings, as a variable of each body that it is one of
abbrev pub AddsLocal : Local → VariableKind → List Sighting → Lists KeptVariable → Lists KeptVariable → Type 0
AddsLocal l kind ss before after =
    AddsVariables before after
    (λ body. own_in l kind body (merged_of l.body ss) ++ captured_by l kind body (merged_of body ss))

abbrev pub ordered_in : Variables → ℕ → List Variable
ordered_in found body = in_their_order (variables_in found.lists body)

-- the file was looked at, and these are the variables of its bodies
pub record SeesBodies (seen : KeptSeen) (variables : Variables) : Type 0 where
  pub sees : Sees seen
  pub are_variables : (body : ℕ) → ordered_in variables body ≡ variables_of (seen_view seen) body

-- besides, it is known what is kept in it
pub record KnowsBodies (file : SeenBodies) : Type 0 where
  pub bodies : SeesBodies file.seen.now file.variables.now
  pub keeps : MayKeep file.seen.now file.kept.now

-- Faults

abbrev pub is_of_kind : Bool → Variable → Bool
is_of_kind true v = is_cancel_variable v
is_of_kind false v = not (is_cancel_variable v)

abbrev pub faults_view : Option KeptFault → List UseFault
faults_view None = []
faults_view (Some f) = fault_view f ∷ []
