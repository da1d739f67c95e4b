use Rattle.std.proofs.Common.{[], ◌∙◌}
use Rattle.mentions.specs.MarkViews.{marks_view}
use Rattle.tracked.specs.LocalViews.{seen_view}
use Rattle.meaning.specs.Tracked.{placed}
use Rattle.meaning.specs.Objects.{unaddressed}
use Rattle.meaning.specs.Kept.{kept_in}
use Rattle.kept.proofs.stored.put_in.Goals as goal

pub returns : goal.returns
returns c =
    let seen = seen_view c.args.seen.now in
    let object =
    c.unaddressed-object.ensures
    ∙ λ i. unaddressed seen.known (placed [] (marks_view (c.deref.ensures.value i))) (c.local_named-named.ensures i) in
    c.kept_in.ensures ∙ λ i. kept_in c.args.variable (object i) (c.as_str.ensures i)
