use Rattle.std.proofs.Common.{◌≡◌, ap, ◌∙◌, drop, take}
use Rattle.std.proofs.lemmas.List.{drop_min, take_min}
use Rattle.certificate_json.proofs.rows.split.Goals as goal

pub returns-clause-row : goal.returns-clause-row
returns-clause-row c =
    c.split_at.ensures.front
    ∙ (ap (λ n. take n c.args.masks.now) c.min-end.ensures ∙ take_min c.args.width c.args.masks.now)

pub returns-clause-after : goal.returns-clause-after
returns-clause-after c =
    c.split_at.ensures.back
    ∙ (ap (λ n. drop n c.args.masks.now) c.min-end.ensures ∙ drop_min c.args.width c.args.masks.now)
