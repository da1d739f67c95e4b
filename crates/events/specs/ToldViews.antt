-- What the program keeps of the events of a file, and what it stands for.
use Rattle.std.specs.Prelude.{ℕ, ◌≡◌, ◌==◌, ◌&&◌, ◌||◌, Bool, true, false, if◌then◌else◌, List, [], ◌∷◌, ◌++◌, Option, Some, None, map, flat_map, codes, nat_eq}
use Rattle.std.specs.Borrow.{Bor}
use Rattle.std.specs.List.{list_any}
use Rattle.lists.specs.declared.Lists.{Lists}
use Rattle.lists.specs.ListViews.{items_at}
use Rattle.tree.specs.declared.edition.Edition.{Edition}
use Rattle.tree.specs.declared.edition.Edition.TheVariants.{First, Second}
use Rattle.events.specs.declared.told.SiteEvent.{SiteEvent}
use Rattle.events.specs.declared.told.Told.{Told}
use Rattle.kept_events.specs.KeptEventViews.{AddsNames}
use Rattle.tracked_rows.specs.EventViews.{event_view}
use Rattle.mentions.specs.MarkViews.{body_view}
use Rattle.uses.specs.declared.faults.UseFault.{UseFault as KeptFault}
use Rattle.uses.specs.OutcomeViews.{fault_view}
use Rattle.meaning.specs.Mentions.{BodyPlace, Mention, Mark, mentions, of_fields, runs_literal, returns, opens, closes}
use Rattle.meaning_packages.specs.Credits.{binds_there, binds_captured}
use Rattle.meaning.specs.Tracked.{Known, Placed}
use Rattle.meaning.specs.Uses.{Seen, Event, UseFault, fault_at, goto_used, recover_faults, is_body, is_outside}
use Rattle.meaning.specs.KeepingFields.{fields_kept_there, fields_kept}
use Rattle.meaning.specs.BodyEvents.{is_around, opened_by, bodies_of, forbids_recover, jump_faults, mark_faults, outer_faults_of, faults_of, mark_events, events_at, is_site, panics_there}

abbrev pub faults_at : Lists KeptFault → ℕ → List UseFault
faults_at lists body = map fault_view (items_at lists body)

-- the events at a site, of a list of events with their sites
abbrev pub events_of_site : ℕ → List SiteEvent → List Event
events_of_site at [] = []
events_of_site at (e ∷ es) = if e.site == at then event_view e.event ∷ events_of_site at es else events_of_site at es

abbrev pub events_in : Lists SiteEvent → ℕ → ℕ → List Event
events_in lists body at = events_of_site at (items_at lists body)

abbrev pub has_panic : Lists ℕ → ℕ → ℕ → Bool
has_panic lists body at = list_any (λ site. site == at) (items_at lists body)

-- the number is among those that are kept of the body at that offset
abbrev pub has_bound : Lists ℕ → ℕ → ℕ → Bool
has_bound lists body number = list_any (λ n. n == number) (items_at lists body)

-- What one mark in these bodies adds

abbrev pub if_there : {A : Type 0} → Bool → List A → List A
if_there b xs = if b then xs else []

-- the fault of a mention of `recover`, where it is forbidden
abbrev pub recover_there : Seen → List BodyPlace → Mention → List UseFault
recover_there seen bodies m =
    if forbids_recover seen.known.edition seen bodies then recover_faults seen.known m else []

-- the faults of `goto`s at these offsets
abbrev pub faults_of_jumps : List ℕ → List UseFault
faults_of_jumps = flat_map (λ at. fault_at at goto_used (codes "-"))

-- the faults of a mark that go by the variables of bodies
abbrev pub faults_by_variables : Seen → List BodyPlace → Mark → List UseFault
faults_by_variables seen bodies (mentions m) = recover_there seen bodies m
faults_by_variables seen bodies (of_fields site m) = []
faults_by_variables seen bodies (runs_literal moment site at) = []
faults_by_variables seen bodies (returns at es) = []
faults_by_variables seen bodies (opens b) = jump_faults seen b
faults_by_variables seen bodies closes = []

-- nothing is told of any body of a file that is judged by that edition
pub record TellsNothing (judging : Edition) (told : Told) : Type 0 where
  pub outer : told.outer.items ≡ []
  pub faults : (body : ℕ) → items_at told.faults body ≡ []
  pub events : (body : ℕ) → items_at told.events body ≡ []
  pub panics : (body : ℕ) → items_at told.panics body ≡ []
  pub bound : (body : ℕ) → items_at told.bound body ≡ []
  pub keeping : told.keeping.items ≡ []
  pub opened : told.opened.items ≡ []
  pub edition : told.edition ≡ judging

abbrev pub AddsInner : ℕ → List UseFault → Lists KeptFault → Lists KeptFault → Type 0
AddsInner number faults before after =
    (body : ℕ) → faults_at after body ≡ faults_at before body ++ if_there (nat_eq number body) faults

pub record AddsFaultsOf (bodies : List BodyPlace) (faults : List UseFault) (outer outer_after : List KeptFault)
    (before after : Lists KeptFault) : Type 0 where
  pub outside : map fault_view outer_after ≡ map fault_view outer ++ if_there (is_outside bodies) faults
  pub inside : (body : ℕ) → faults_at after body ≡ faults_at before body ++ if_there (is_body body bodies) faults

abbrev pub is_at : Option ℕ → ℕ → Bool
is_at None at = false
is_at (Some site) at = site == at

-- the event is added at that site to those of the body of that number
abbrev pub AddsSiteEvent : ℕ → ℕ → Event → Lists SiteEvent → Lists SiteEvent → Type 0
AddsSiteEvent number site event before after = (body at : ℕ)
    → events_in after body at ≡ events_in before body at ++ if_there (nat_eq number body && (site == at)) (event ∷ [])

abbrev pub AddsEvent : List BodyPlace → Mark → List Event → Lists SiteEvent → Lists SiteEvent → Type 0
AddsEvent bodies mark events before after = (body at : ℕ)
    → events_in after body at ≡ events_in before body at ++ if_there (is_body body bodies && is_site mark at) events

-- the site is added to those of the body of that number, if it panics
abbrev pub AddsSite : ℕ → ℕ → Bool → Lists ℕ → Lists ℕ → Type 0
AddsSite number site panics before after = (body at : ℕ)
    → has_panic after body at ≡ (has_panic before body at || (nat_eq number body && ((site == at) && panics)))

abbrev pub AddsPanic : Known → List BodyPlace → Mark → Lists ℕ → Lists ℕ → Type 0
AddsPanic known bodies mark before after = (body at : ℕ)
    → has_panic after body at ≡ (has_panic before body at || panics_there known body at bodies mark)

-- the number is added to those of the body at that offset
abbrev pub AddsNumber : ℕ → ℕ → Lists ℕ → Lists ℕ → Type 0
AddsNumber at number before after = (body other : ℕ)
    → has_bound after body other ≡ (has_bound before body other || (nat_eq at body && (number == other)))

-- to those of each of these bodies
abbrev pub AddsAround : List BodyPlace → ℕ → Lists ℕ → Lists ℕ → Type 0
AddsAround bodies number before after = (body other : ℕ)
    → has_bound after body other ≡ (has_bound before body other || (is_around body bodies && (number == other)))

-- the number of what the mark may bind
abbrev pub AddsBoundThere : Seen → List BodyPlace → Mark → Lists ℕ → Lists ℕ → Type 0
AddsBoundThere seen bodies mark before after = (body number : ℕ)
    → has_bound after body number ≡ (has_bound before body number || binds_there seen body number bodies mark)

abbrev pub is_second : Edition → Bool
is_second First = false
is_second Second = true

-- in the second edition
abbrev pub AddsBound : Seen → List BodyPlace → Mark → Lists ℕ → Lists ℕ → Type 0
AddsBound seen bodies mark before after = (body number : ℕ)
    → has_bound after body number
    ≡ (has_bound before body number || (binds_there seen body number bodies mark && is_second seen.known.edition))

pub record AddsMark (seen : Seen) (bodies : List BodyPlace) (mark : Mark) (before after : Told) : Type 0 where
  pub outer : map fault_view after.outer.items
      ≡ map fault_view before.outer.items ++ if_there (is_outside bodies) (mark_faults seen bodies mark)
  pub faults : (body : ℕ) → faults_at after.faults body
      ≡ faults_at before.faults body ++ if_there (is_body body bodies) (mark_faults seen bodies mark)
  pub events : AddsEvent bodies mark (mark_events seen bodies mark) before.events after.events
  pub panics : AddsPanic seen.known bodies mark before.panics after.panics
  pub bound : AddsBound seen bodies mark before.bound after.bound
  pub keeping : AddsNames before.keeping.items after.keeping.items (fields_kept_there seen bodies mark)
  pub opened : map body_view after.opened.items ≡ map body_view before.opened.items ++ opened_by mark
  pub edition : after.edition ≡ before.edition

-- What is told of a file

abbrev pub panics_in : Known → ℕ → ℕ → List Placed → Bool
panics_in known body at = list_any (λ p. panics_there known body at p.bodies p.mark)

-- a mark of these may bind it, in the second edition
abbrev pub binds_in : Seen → ℕ → ℕ → List Placed → Bool
binds_in seen body number =
    list_any (λ p. binds_there seen body number p.bodies p.mark && is_second seen.known.edition)

pub record TellsFile (seen : Seen) (told : Told) : Type 0 where
  pub outer : map fault_view told.outer.items ≡ outer_faults_of seen seen.marks
  pub faults : (body : ℕ) → faults_at told.faults body ≡ faults_of seen body seen.marks
  pub events : (body at : ℕ) → events_in told.events body at ≡ events_at seen body seen.marks at
  pub panics : (body at : ℕ) → has_panic told.panics body at ≡ panics_in seen.known body at seen.marks
  pub bound : (body number : ℕ) → has_bound told.bound body number ≡ binds_captured seen.known.edition seen body number
  -- the fields that it keeps
  pub keeping : map (λ (n : Bor (List ℕ)). n.now) told.keeping.items ≡ fields_kept seen
  pub opened : map body_view told.opened.items ≡ bodies_of seen
  pub edition : told.edition ≡ seen.known.edition
