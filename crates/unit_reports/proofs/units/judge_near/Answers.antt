use Rattle.std.proofs.Common.{◌≡◌, true, false, sym, ap, ◌∙◌, subst}
use Rattle.accepting.specs.Findings.{explained_package, plain_package}
use Rattle.unit_reports.specs.UnitParts.{NotesByNear}
use Rattle.unit_reports.specs.Units.{HoldsOfUnit, HoldsExplained}
use Rattle.given_packages.specs.Neighbours.{nearby_view}
use Rattle.told_reports.specs.UnitTexts.{unit_text_in}
use Rattle.unit_reports.proofs.units.judge_near.Goals as goal

pub returns-in_ok-text : goal.returns-in_ok-text
returns-in_ok-text c =
    let follows = c.in_ok-judged.ensures.follows in
    let explained : HoldsExplained c.in_ok-judged.judged
    (NotesByNear c.args.loaded.now (nearby_view c.args.near) c.args.known.now)
    (λ found. c.in_ok-text.text.items ≡ unit_text_in c.args.form found) =
    record {
      explained = c.in_ok-explained.explained;
      is_same = c.in_ok-explained.ensures.plain;
      are_notes = λ declared ps i p told h.
          c.in_ok-explained.ensures.notes declared ps i p told h.is_near h.is_there h.tells h.is_known h.are_told
          (follows declared ps i p told h.is_near h.is_there h.tells h.is_known h.are_told);
      so = c.in_ok-text.ensures ∙ ap (unit_text_in c.args.form) c.in_ok-found.ensures;
    } in
    record {
      tells = c.in_ok-judged.ensures.told;
      follows = λ declared ps i p told h. follows declared ps i p told h.is_near h.is_there h.tells h.is_known h.are_told;
      is_text =
          subst (λ asked. HoldsOfUnit asked c.in_ok-judged.judged
          (NotesByNear c.args.loaded.now (nearby_view c.args.near) c.args.known.now)
          (λ found. c.in_ok-text.text.items ≡ unit_text_in c.args.form found))
          (sym c.if-form.true) explained;
    }

pub returns-in_ok-text-2 : goal.returns-in_ok-text-2
returns-in_ok-text-2 c = record {
  tells = c.in_ok-judged.ensures.told;
  follows = λ declared ps i p told h.
      c.in_ok-judged.ensures.follows declared ps i p told h.is_near h.is_there h.tells h.is_known h.are_told;
  is_text =
      subst (λ asked. HoldsOfUnit asked c.in_ok-judged.judged
      (NotesByNear c.args.loaded.now (nearby_view c.args.near) c.args.known.now)
      (λ found. c.in_ok-text-2.text.items ≡ unit_text_in c.args.form found))
      (sym c.if-form.false)
      (c.in_ok-text-2.ensures ∙ ap (unit_text_in c.args.form) c.in_ok-found-2.ensures);
}
