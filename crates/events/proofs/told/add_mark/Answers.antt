use Rattle.std.proofs.Common.{◌≡◌, Bool, ◌&&◌, ◌++◌, map, refl, sym, ap, ◌∙◌}
use Rattle.facts.proofs.FactParts.{on_ok}
use Rattle.tracked.specs.LocalViews.{seen_view}
use Rattle.mentions.specs.MarkViews.{body_view, mark_view}
use Rattle.meaning.specs.BodyEvents.{mark_faults, is_site}
use Rattle.meaning.specs.Uses.{is_body, is_outside}
use Rattle.uses.specs.OutcomeViews.{fault_view, plain_faults}
use Rattle.events.specs.ToldViews.{faults_at, events_in, faults_by_variables, if_there}
use Rattle.events.proofs.MarkEvents.{events_split, four_there}
use Rattle.events.proofs.VariableFaults.{faults_split}
use Rattle.events.proofs.told.add_mark.Goals as goal

pub add_kept-requires : goal.add_kept-requires
add_kept-requires c = record { sees = c.requires.bodies.sees; keeps = c.requires.keeps }

pub add_names-requires : goal.add_names-requires
add_names-requires c = record { sees = c.requires.bodies.sees; keeps = c.requires.keeps }

pub returns : goal.returns
returns c =
    let seen = seen_view c.args.file.seen.now in
    let bodies = map body_view c.args.bodies.now in
    let mark = mark_view c.args.mark.now in
    let told = c.args.told.now in
    let fresh : map fault_view c.deref.result.now ≡ mark_faults seen bodies mark =
    ap (map fault_view) c.deref.ensures.value ∙ c.in_ok-add_by_variables.ensures
    ∙ ap (λ fs. fs ++ faults_by_variables seen bodies mark)
    (c.in_ok-event.ensures.0 ∙ ap (λ fs. map fault_view fs ++ plain_faults seen bodies mark) c.new-fresh.ensures.items)
    ∙ sym (faults_split seen bodies mark) in
    on_ok c.add_opened.result
    (λ opened. record {
      outer = c.in_ok-add_faults.ensures.outside
          ∙ ap (λ fs. map fault_view told.outer.items ++ if_there (is_outside bodies) fs) fresh;
      faults = λ body. c.in_ok-add_faults.ensures.inside body
          ∙ ap (λ fs. faults_at told.faults body ++ if_there (is_body body bodies) fs) fresh;
      events = λ body at.
          let here : Bool = is_body body bodies && is_site mark at in
          four_there here _ _ _ _ _ _ _ _ _
          (c.in_ok-add_event.ensures body at
          ∙ ap (λ es. events_in told.events body at ++ if_there here es) c.in_ok-event.ensures.1)
          (c.in_ok-add_error_calls.ensures body at) (c.in_ok-add_kept.ensures body at) (c.in_ok-add_sent.ensures body at)
          ∙ ap (λ es. events_in told.events body at ++ if_there here es) (events_split seen bodies mark);
      panics = c.in_ok-add_panic.ensures;
      bound = c.in_ok-add_bound.ensures;
      keeping = c.in_ok-add_names.ensures;
      opened = opened;
      edition = refl;
    })
    c.add_opened.ensures
