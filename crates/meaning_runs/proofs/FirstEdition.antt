-- In the first edition no body comes to a `go` statement that takes something on.
use Rattle.std.proofs.Common.{◌≡◌, ℕ, ◌+◌, Bool, true, false, inl, inr, List, [], ◌∷◌, Contains, refl, sym, ap, subst, ◌∙◌}
use Rattle.tree.specs.declared.edition.Edition.{Edition}
use Rattle.tree.specs.declared.edition.Edition.TheVariants.{First, Second}
use Rattle.tree.specs.Syntax.{SourceFile}
use Rattle.meaning.specs.Mentions.{BodyPlace, Mark, mentions, of_fields, runs_literal, returns, opens, closes, Moment, at_return, in_goroutine}
use Rattle.meaning.specs.Tracked.{Known}
use Rattle.meaning.specs.Uses.{Seen, Event, other, obtain, obtain_kept, renew, keep, call_kept, defer_kept, give, give_field, clear, call, defer_call, pass, defer_pass, lend, start, try, wait, defer_wait, make, defer_literal, go, return_event}
use Rattle.meaning.specs.BodyEvents.{mark_events, literal_events, handed_on}
use Rattle.meaning.proofs.Membership.{contains_cases, contains_nil}
use Rattle.meaning_reports.specs.Loaded.{seen_from, known_in, trees_of}
use Rattle.meaning_runs.specs.Bodies.{Body}
use Rattle.meaning_runs.specs.EventSources.{HasSource, says_nothing, falls_off, of_mark}
use Rattle.meaning_runs.specs.Promise.{FirstHasNoGo}
use Rattle.meaning_runs.proofs.EventSources.{events_have_sources}
use Rattle.meaning_runs.proofs.KeptEvents.{IsOfObject, by_renew, by_call, by_deferred, by_give, by_keep, by_outer, by_obtaining, by_gift, field_events_are}
use Rattle.meaning_runs.proofs.SentEvents.{only_one}
use Rattle.meaning_runs.proofs.MentionEvents.{is_told_of_mention, mention_events_fit, variable_fits}

abbrev pub is_go : Event → Bool
is_go (go work) = true
is_go e = false

pub told_does_not_go : (e : Event) → is_told_of_mention e ≡ true → is_go e ≡ false
told_does_not_go other h = refl
told_does_not_go (obtain u c n is_new) h = refl
told_does_not_go (clear u) h = refl
told_does_not_go (obtain_kept u f n x) h = refl
told_does_not_go (renew v x) h = refl
told_does_not_go (keep v x) h = refl
told_does_not_go (call_kept v x) h = refl
told_does_not_go (defer_kept v x) h = refl
told_does_not_go (give v x) h = refl
told_does_not_go (give_field v) h = refl
told_does_not_go (call v) h = refl
told_does_not_go (defer_call v) h = refl
told_does_not_go (pass u c n) h = refl
told_does_not_go (defer_pass u c n) h = refl
told_does_not_go (lend g c n) h = refl
told_does_not_go (start g literal) h = refl
told_does_not_go (try g literal) h = refl
told_does_not_go (wait g) h = refl
told_does_not_go (defer_wait g) h = refl
told_does_not_go (make u state) h = refl
told_does_not_go (defer_literal at) h = refl
told_does_not_go (go work) h = let bad : false ≡ true = h in cc
told_does_not_go (return_event handed) h = refl

pub object_does_not_go : {seen : Seen} {bodies : List BodyPlace} {mark : Mark} (e : Event)
    → IsOfObject seen bodies mark e
    → is_go e ≡ false
object_does_not_go e (by_renew k h) = refl
object_does_not_go e (by_call k h) = refl
object_does_not_go e (by_deferred k h) = refl
object_does_not_go e (by_give k h) = refl
object_does_not_go e (by_keep k h fits) = refl
object_does_not_go e (by_outer k h fits) = refl
object_does_not_go e (by_obtaining k site l a is h told) = refl
object_does_not_go e (by_gift x v c q) = refl

not_second : (e : Edition) → e ≡ First → e ≡ Second → ⊥
not_second e first second = let bad : First ≡ Second = sym first ∙ second in cc

module _ (seen : Seen) (bodies : List BodyPlace) (first : seen.known.edition ≡ First) where
  literals_do_not_go : (moment : Moment) (at : ℕ) (e : Event) → Contains (literal_events seen.known.edition moment at) e
      → is_go e ≡ false
  literals_do_not_go at_return at e h = ap is_go (sym (only_one (defer_literal at) e h))
  literals_do_not_go in_goroutine at e h =
      absurd (contains_nil e (subst (λ edition. Contains (literal_events edition in_goroutine at) e) first h))

  marks_do_not_go : (mark : Mark) (e : Event) → Contains (mark_events seen bodies mark) e → is_go e ≡ false
  marks_do_not_go (mentions m) e h =
      mention_events_fit (λ x. is_go x ≡ false) seen bodies m (λ v. refl) (λ x is. object_does_not_go x is)
      (λ x is. absurd (not_second seen.known.edition first is.is_second))
      (variable_fits (λ x. is_go x ≡ false) seen bodies m (λ second v. absurd (not_second seen.known.edition first second))
      (λ l is x told own. told_does_not_go x told)) e h
  marks_do_not_go (of_fields site m) e h = object_does_not_go e (field_events_are seen bodies site m e h)
  marks_do_not_go (runs_literal moment site at) e h = literals_do_not_go moment at e h
  marks_do_not_go (returns at es) e h =
      ap is_go (sym (only_one (return_event (handed_on seen bodies 0 es)) e h))
  marks_do_not_go (opens b) e h = absurd (contains_nil e h)
  marks_do_not_go closes e h = absurd (contains_nil e h)

source_does_not_go : (b : Body) → b.file.known.edition ≡ First → (e : Event) → HasSource b e → is_go e ≡ false
source_does_not_go b first e says_nothing = refl
source_does_not_go b first e falls_off = refl
source_does_not_go b first e (of_mark mark is here h) = marks_do_not_go b.file mark.bodies first mark.mark e h

-- the files of a package have its edition
same_edition : (known : ℕ → Known) (edition : Edition) → ((n : ℕ) → (known n).edition ≡ edition)
    → (n : ℕ) (trees : List SourceFile) (file : Seen)
    → Contains (seen_from known n trees) file
    → file.known.edition ≡ edition
same_edition known edition all n [] file h = absurd (contains_nil file h)
same_edition known edition all n (tree ∷ trees) file h =
    elim (contains_cases _ file (seen_from known (n + 1) trees) h) [
      | inl same ↦ ap (λ (z : Seen). z.known.edition) (sym same) ∙ all n
      | inr more ↦ same_edition known edition all (n + 1) trees file more
    ]

pub first_has_no_go : FirstHasNoGo
first_has_no_go p first b t o work of reached is =
    let edition = same_edition (known_in p.packages p.tables of.loaded) of.loaded.edition (λ n. refl) 0 (trees_of of.loaded)
    b.file of.is_file ∙ first b.home of.loaded of.is_run of.is_package in
    let bad : true ≡ false = ap is_go (sym is) ∙ source_does_not_go b edition o.event (events_have_sources b t o reached) in
    cc
