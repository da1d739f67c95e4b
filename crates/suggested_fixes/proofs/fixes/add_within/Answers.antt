use Rattle.suggested_fixes.proofs.Within.{more}
use Rattle.suggested_fixes.proofs.fixes.add_within.Goals as goal

pub returns : goal.returns
returns c =
    more c.args.size _ _ c.args.fix _ _ c.in_ok-push.ensures.items c.deref.ensures.value c.are_within.ensures
    c.if-not-are_within.false c.requires
