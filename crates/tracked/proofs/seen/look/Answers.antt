use Rattle.std.proofs.Common.{[], ap}
use Rattle.meaning.specs.Tracked.{placed}
use Rattle.mentions.specs.MarkViews.{marks_view}
use Rattle.tracked.proofs.AllNoted.{sees_locals}
use Rattle.tracked.proofs.seen.look.Goals as goal

pub first_obtainings-requires : goal.first_obtainings-requires
first_obtainings-requires c =
    sees_locals _ _ _ (ap (λ ms. placed [] (marks_view ms)) c.deref.ensures.value) c.requires.rows c.in_ok-locals.ensures

pub returns-clause-sees : goal.returns-clause-sees
returns-clause-sees c = record {
  locals =
      sees_locals _ _ _ (ap (λ ms. placed [] (marks_view ms)) c.deref.ensures.value) c.requires.rows c.in_ok-locals.ensures;
  obtainings = c.in_ok-seen.ensures;
  objects = c.requires.objects;
  lefts = c.requires.lefts;
}
