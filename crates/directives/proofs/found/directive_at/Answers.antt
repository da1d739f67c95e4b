use Rattle.std.proofs.Common.{◌∙◌, ap}
use Rattle.std.specs.List.{list_all}
use Rattle.directives.specs.Forms.{accepted}
use Rattle.directives.specs.Marks.{is_blank}
use Rattle.directives.proofs.Lines.{same_directive}
use Rattle.directives.proofs.found.directive_at.Goals as goal

pub returns : goal.returns
returns c =
    same_directive _ _ _ _ _ _
    (c.are_blank.ensures ∙ ap (list_all is_blank) c.split_at.ensures.front)
    (c.accepted.ensures ∙ ap accepted c.split_at-2.ensures.back)
