use Rattle.std.proofs.Common.{map, sym, ap, ◌∙◌}
use Rattle.std.specs.List.{filter}
use Rattle.facts.proofs.FactParts.{on_ok}
use Rattle.mentions.specs.MarkViews.{body_view, field_left_view, field_mark_view}
use Rattle.tracked.specs.LocalViews.{seen_view}
use Rattle.meaning.specs.Mentions.{of_fields}
use Rattle.kept.specs.KeptViews.{field_keeps, is_there, written_by, writes_there}
use Rattle.kept_forms.proofs.AddedParts.{adds_same}
use Rattle.kept.proofs.Gatherings.{fields_keep, no_write}
use Rattle.kept.proofs.gathered.gather_field.Goals as goal

pub returns-in_ok-add_keep-in-WritesField : goal.returns-in_ok-add_keep-in-WritesField
returns-in_ok-add_keep-in-WritesField c =
    let seen = seen_view c.args.around.seen.now in
    let bodies = map body_view c.args.around.bodies.now in
    on_ok c.add_write.result
    (λ wrote site. record {
      keeps = adds_same _ _ _ _
          (c.in_ok-keep-in-WritesField.ensures
          ∙ ap (λ m. filter (is_there seen bodies) (field_keeps seen bodies (field_mark_view m))) (sym c.in-WritesField.is)
          ∙ ap (filter (is_there seen bodies)) (fields_keep seen bodies site (field_mark_view c.args.field)))
          c.in_ok-add_keep-in-WritesField.ensures;
      writes = adds_same _ _ _ _
          (ap (written_by seen.known (field_left_view c.in-WritesField.left)) c.in_ok-keep-in-WritesField.ensures
          ∙ ap (λ m. writes_there seen bodies (of_fields site (field_mark_view m))) (sym c.in-WritesField.is))
          wrote;
    })
    c.add_write.ensures

pub returns-in_default : goal.returns-in_default
returns-in_default c =
    no_write (seen_view c.args.around.seen.now) (map body_view c.args.around.bodies.now) c.args.field c.args.gathered.now
    c.in_default.not-WritesField
