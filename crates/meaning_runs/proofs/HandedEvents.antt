-- An event of a body's code that passes a cancel variable or lends a group stands at a site of the body.
use Rattle.std.proofs.Common.{◌≡◌, ℕ, ◌⊎◌, inl, inr, Bool, true, false, List, [], ◌∷◌, ◌++◌, Contains, refl, sym, ap, subst, ◌∙◌}
use Rattle.std.specs.Prelude.{◌&&◌, if◌then◌else◌}
use Rattle.std.proofs.lemmas.Bool.{eq-eqb, false≢true}
use Rattle.std.proofs.lemmas.List.Elements.{Contains-append_left, Contains-append_right}
use Rattle.meaning.specs.Code.{Occurrence}
use Rattle.meaning.specs.Lists.{Reaches}
use Rattle.meaning.specs.Mentions.{Mark, mentions, runs_literal, returns, opens, closes, of_fields}
use Rattle.meaning.specs.Tracked.{Placed}
use Rattle.meaning.specs.Uses.{Callee, Event, other, return_event, Seen, is_body}
use Rattle.meaning.specs.BodyEvents.{bodies_of, mark_events, is_site, events_at}
use Rattle.meaning.proofs.Membership.{contains_cases, contains_nil}
use Rattle.meaning_reports.specs.UsedImports.{HandsTo, passes, defers, lends, goes, HandsThere}
use Rattle.meaning_runs.specs.Bodies.{Body, code_of}
use Rattle.meaning_runs.specs.EventSources.{HasSource, says_nothing, falls_off, of_mark}
use Rattle.meaning_runs.proofs.EventSources.{events_have_sources}

other_hands_nothing : (f : Callee) (e : Event) → e ≡ other → HandsTo f e → ⊥
other_hands_nothing f e same passes = cc
other_hands_nothing f e same defers = cc
other_hands_nothing f e same lends = cc
other_hands_nothing f e same goes = cc

return_hands_nothing : (f : Callee) (e : Event) → e ≡ return_event [] → HandsTo f e → ⊥
return_hands_nothing f e same passes = cc
return_hands_nothing f e same defers = cc
return_hands_nothing f e same lends = cc
return_hands_nothing f e same goes = cc

-- where a mark gives its events
abbrev site_of : Mark → ℕ
site_of (mentions m) = m.site
site_of (of_fields site m) = site
site_of (runs_literal moment site at) = site
site_of (returns site es) = site
site_of (opens b) = 0
site_of closes = 0

is_its_site : (seen : Seen) (p : Placed) (e : Event) → Contains (mark_events seen p.bodies p.mark) e
    → is_site p.mark (site_of p.mark) ≡ true
is_its_site seen p e h = by p.mark h
  where
    by : (m : Mark) → Contains (mark_events seen p.bodies m) e → is_site m (site_of m) ≡ true
    by (mentions m) k = eq-eqb m.site m.site refl
    by (of_fields site x) k = eq-eqb site site refl
    by (runs_literal moment site at) k = eq-eqb site site refl
    by (returns site es) k = eq-eqb site site refl
    by (opens b) k = absurd (contains_nil e k)
    by closes k = absurd (contains_nil e k)

both_true : (b c : Bool) → b ≡ true → c ≡ true → (b && c) ≡ true
both_true b c e g = ap (λ x. x && c) e ∙ g

at_site : (seen : Seen) (body : ℕ) (marks : List Placed) (p : Placed) (e : Event) → Contains marks p
    → is_body body p.bodies ≡ true
    → Contains (mark_events seen p.bodies p.mark) e
    → Contains (events_at seen body marks (site_of p.mark)) e
at_site seen body [] p e h is k = absurd (contains_nil p h)
at_site seen body (q ∷ qs) p e h is k =
    by (is_body body q.bodies && is_site q.mark (site_of p.mark)) refl (contains_cases q p qs h)
    (λ more. at_site seen body qs p e more is k)
  where
    by : (b : Bool) → (is_body body q.bodies && is_site q.mark (site_of p.mark)) ≡ b → (q ≡ p) ⊎ Contains qs p
        → (Contains qs p → Contains (events_at seen body qs (site_of p.mark)) e)
        → Contains (if b then mark_events seen q.bodies q.mark ++ events_at seen body qs (site_of p.mark) else events_at seen body qs (site_of p.mark)) e
    by true i (inl same) rest =
        Contains-append_left (mark_events seen q.bodies q.mark) (events_at seen body qs (site_of p.mark)) e
        (subst (λ (r : Placed). Contains (mark_events seen r.bodies r.mark) e) (sym same) k)
    by true i (inr more) rest =
        Contains-append_right (mark_events seen q.bodies q.mark) (events_at seen body qs (site_of p.mark)) e (rest more)
    by false i (inl same) rest =
        absurd (false≢true (sym i ∙ both_true (is_body body q.bodies) (is_site q.mark (site_of p.mark))
        (ap (λ (r : Placed). is_body body r.bodies) same ∙ is)
        (ap (λ (r : Placed). is_site r.mark (site_of p.mark)) same ∙ is_its_site seen p e k)))
    by false i (inr more) rest = rest more

module _ (b : Body) (its : Contains (bodies_of b.file) b.place) (f : Callee) where
  pub from_source : (e : Event) → HasSource b e → HandsTo f e → HandsThere b.file f
  from_source e says_nothing h = absurd (other_hands_nothing f other refl h)
  from_source e falls_off h = absurd (return_hands_nothing f (return_event []) refl h)
  from_source e (of_mark mark of_file is_it is_event) h = record {
    body = b.place;
    at = site_of mark.mark;
    event = e;
    is_of_file = its;
    is_event = at_site b.file b.place.at b.file.marks mark e of_file is_it is_event;
    hands = h;
  }

  pub hands_there : (t : List (Occurrence Event)) (o : Occurrence Event) → Reaches (code_of b) t o → HandsTo f o.event
      → HandsThere b.file f
  hands_there t o reached hands = from_source o.event (events_have_sources b t o reached) hands
