-- Lists and tests that grow: what there was, then what one adds, then what the rest adds, is the whole.
use Rattle.std.proofs.Common.{◌≡◌, ℕ, nat_eq, Option, Some, Bool, true, false, true≢false, ◌&&◌, ◌||◌, if◌then◌else◌, List, [], ◌∷◌, ◌++◌, map, refl, sym, ap, ◌∙◌, append_assoc}
use Rattle.std.specs.Prelude.{◌==◌}
use Rattle.std.specs.List.{list_any}
use Rattle.std.proofs.lemmas.List.{map-append, append-nil}
use Rattle.uses.specs.declared.faults.UseFault.{UseFault as KeptFault}
use Rattle.uses.specs.OutcomeViews.{fault_view}
use Rattle.tracked_rows.specs.EventViews.{events_view}
use Rattle.meaning.specs.Uses.{Event, UseFault, is_body}
use Rattle.meaning.specs.Mentions.{BodyPlace, Mention, Mark, mentions}
use Rattle.meaning.specs.Tracked.{Known}
use Rattle.meaning.specs.BodyEvents.{is_site, is_panic, panics_there}
use Rattle.tracked_rows.specs.declared.event.Event.{Event as KeptEvent}
use Rattle.tracked_rows.specs.EventViews.{event_view}
use Rattle.lists.specs.declared.Lists.{Lists}
use Rattle.events.specs.declared.told.SiteEvent.{SiteEvent}
use Rattle.events.specs.ToldViews.{if_there, events_of_site, events_in, has_panic, is_at, AddsSiteEvent, AddsEvent, AddsSite, AddsPanic}

module _ {X : Type 0} where
  pub then_or_none : (b : Bool) (xs rest : List X) → (if b then xs ++ rest else rest) ≡ if_there b xs ++ rest
  then_or_none true xs rest = refl
  then_or_none false xs rest = refl

  pub nothing_there : (b : Bool) (rest : List X) → rest ≡ if_there b [] ++ rest
  nothing_there true rest = refl
  nothing_there false rest = refl

  pub grows : (before after adds all rest whole : List X) → after ≡ before ++ adds → all ≡ adds ++ rest
      → before ++ all ≡ whole → after ++ rest ≡ whole
  grows before after adds all rest whole added split so_far =
      ap (λ l. l ++ rest) added ∙ append_assoc before adds rest ∙ ap (λ l. before ++ l) (sym split) ∙ so_far

  pub grown : (all rest whole : List X) → rest ≡ [] → all ++ rest ≡ whole → all ≡ whole
  grown all rest whole none so_far = sym (append-nil all) ∙ ap (λ l. all ++ l) (sym none) ∙ so_far

or_assoc : (a b c : Bool) → ((a || b) || c) ≡ (a || (b || c))
or_assoc true b c = refl
or_assoc false b c = refl

or_false : (a : Bool) → a ≡ (a || false)
or_false true = refl
or_false false = refl

pub holds_on : (before after test all rest whole : Bool) → after ≡ (before || test) → all ≡ (test || rest)
    → (before || all) ≡ whole → (after || rest) ≡ whole
holds_on before after test all rest whole added split so_far =
    ap (λ b. b || rest) added ∙ or_assoc before test rest ∙ ap (λ b. before || b) (sym split) ∙ so_far

pub holds_at_end : (all rest whole : Bool) → rest ≡ false → (all || rest) ≡ whole → all ≡ whole
holds_at_end all rest whole none so_far = or_false all ∙ ap (λ b. all || b) (sym none) ∙ so_far

-- one fault, added to the list of one number
pub one_there : (b : Bool) (before after rest : List KeptFault) (fault : KeptFault) (whole : List UseFault)
    → after ≡ (if b then before ++ fault ∷ [] else before)
    → map fault_view before ++ if_there b (fault_view fault ∷ map fault_view rest) ≡ whole
    → map fault_view after ++ if_there b (map fault_view rest) ≡ whole
one_there true before after rest fault whole added so_far =
    grows (map fault_view before) (map fault_view after) (fault_view fault ∷ []) (fault_view fault ∷ map fault_view rest)
    (map fault_view rest) whole (ap (map fault_view) added ∙ map-append fault_view before (fault ∷ [])) refl so_far
one_there false before after rest fault whole added so_far =
    ap (λ l. map fault_view l ++ []) added ∙ so_far

-- a site, added to the list of one number
sites-append : (sites : List ℕ) (site at : ℕ)
    → list_any (λ s. s == at) (sites ++ site ∷ []) ≡ (list_any (λ s. s == at) sites || ((site == at) && true))
sites-append [] site at = last (site == at)
  where
    last : (b : Bool) → (b || false) ≡ (b && true)
    last true = refl
    last false = refl
sites-append (s ∷ ss) site at = by (s == at) _ _ _ (sites-append ss site at)
  where
    by : (b x y z : Bool) → x ≡ (y || z) → (b || x) ≡ ((b || y) || z)
    by true x y z e = refl
    by false x y z e = e

pub site_there : (b : Bool) (before after : List ℕ) (site at : ℕ) (panics : Bool) → panics ≡ true
    → after ≡ (if b then before ++ site ∷ [] else before)
    → list_any (λ s. s == at) after ≡ (list_any (λ s. s == at) before || (b && ((site == at) && panics)))
site_there b before after site at false e added = absurd (true≢false (sym e))
site_there true before after site at true e added =
    ap (list_any (λ s. s == at)) added ∙ sites-append before site at
site_there false before after site at true e added = ap (list_any (λ s. s == at)) added ∙ or_false _

pub site_missing : (b : Bool) (before : Bool) (test panics : Bool) → panics ≡ false
    → before ≡ (before || (b && (test && panics)))
site_missing b before test true e = absurd (true≢false e)
site_missing true before true false e = or_false before
site_missing true before false false e = or_false before
site_missing false before test false e = or_false before

-- an event at a site, added to the list of one number

one_event : (b : Bool) (e : Event) (rest : List Event) → (if b then e ∷ rest else rest) ≡ if_there b (e ∷ []) ++ rest
one_event true e rest = refl
one_event false e rest = refl

events-append : (at : ℕ) (es : List SiteEvent) (e : SiteEvent)
    → events_of_site at (es ++ e ∷ []) ≡ events_of_site at es ++ if_there (e.site == at) (event_view e.event ∷ [])
events-append at [] e = one_event (e.site == at) (event_view e.event) [] ∙ append-nil (if_there (e.site == at) (event_view e.event ∷ []))
events-append at (f ∷ es) e = by (f.site == at) _ _ (events-append at es e)
  where
    by : (b : Bool) (xs ys : List Event) → xs ≡ ys ++ if_there (e.site == at) (event_view e.event ∷ [])
        → (if b then event_view f.event ∷ xs else xs)
        ≡ (if b then event_view f.event ∷ ys else ys) ++ if_there (e.site == at) (event_view e.event ∷ [])
    by true xs ys h = ap (λ l. event_view f.event ∷ l) h
    by false xs ys h = h

pub event_there : (b : Bool) (before after : List SiteEvent) (e : SiteEvent) (at : ℕ)
    → after ≡ (if b then before ++ e ∷ [] else before)
    → events_of_site at after
    ≡ events_of_site at before ++ if_there (b && (e.site == at)) (event_view e.event ∷ [])
event_there true before after e at added = ap (events_of_site at) added ∙ events-append at before e
event_there false before after e at added = ap (events_of_site at) added ∙ sym (append-nil (events_of_site at before))

-- what one mark adds to the innermost of these bodies
module _ (bodies : List BodyPlace) (mark : Mark) (o : Option ℕ) (number : ℕ) (inside : o ≡ Some number)
    (same_body : (body : ℕ) → is_at o body ≡ is_body body bodies) where
  pub mark_event : (p : Option ℕ) (site : ℕ) → p ≡ Some site → ((at : ℕ) → is_at p at ≡ is_site mark at)
      → (event : Option KeptEvent) (e : KeptEvent) → event ≡ Some e → (before after : Lists SiteEvent)
      → AddsSiteEvent number site (event_view e) before after → AddsEvent bodies mark (events_view event) before after
  mark_event p site there same_site event e is before after adds = λ body at.
      let same : (nat_eq number body && (site == at)) ≡ (is_body body bodies && is_site mark at) =
      ap (λ x. is_at x body && (site == at)) (sym inside) ∙ ap (λ t. t && (site == at)) (same_body body)
      ∙ ap (λ x. is_body body bodies && is_at x at) (sym there) ∙ ap (λ t. is_body body bodies && t) (same_site at) in
      adds body at
      ∙ ap (λ t. events_in before body at ++ if_there t (event_view e ∷ [])) same
      ∙ ap (λ x. events_in before body at ++ if_there (is_body body bodies && is_site mark at) (events_view x)) (sym is)

  pub mark_panics : (known : Known) (m : Mention) → mark ≡ mentions m → (panics : Bool) → panics ≡ is_panic known m m.role
      → (before after : Lists ℕ) → AddsSite number m.site panics before after → AddsPanic known bodies mark before after
  mark_panics known m is panics tells before after adds = λ body at.
      let same : nat_eq number body ≡ is_body body bodies = ap (λ x. is_at x body) (sym inside) ∙ same_body body in
      adds body at
      ∙ ap (λ t. has_panic before body at || (t && ((m.site == at) && panics))) same
      ∙ ap (λ t. has_panic before body at || (is_body body bodies && ((m.site == at) && t))) tells
      ∙ ap (λ x. has_panic before body at || panics_there known body at bodies x) (sym is)
