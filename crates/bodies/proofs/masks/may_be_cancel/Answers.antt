use Rattle.std.proofs.Common.{rules}
use Rattle.bodies.specs.ClassViews.{cancel_class_view}
use Rattle.bodies.specs.MaskTests.{may_be_cancel}
use Rattle.bodies.proofs.MaskedClasses.{by_test, may_be_is}
use Rattle.bodies.proofs.masks.may_be_cancel.Goals as goal

pub returns-in-Safe-clause-may_be : goal.returns-in-Safe-clause-may_be
returns-in-Safe-clause-may_be c =
    by_test c.is_set-in-Safe.result (may_be_cancel c.args.groups.now c.args.mask (cancel_class_view c.args.class)) _
    (search rules) (may_be_is c.args.groups.now c.args.mask (cancel_class_view c.args.class))

pub returns-in-Pending-clause-may_be : goal.returns-in-Pending-clause-may_be
returns-in-Pending-clause-may_be c =
    by_test c.may_be_pending.result (may_be_cancel c.args.groups.now c.args.mask (cancel_class_view c.args.class)) _
    (search rules) (may_be_is c.args.groups.now c.args.mask (cancel_class_view c.args.class))

pub returns-in-Kept-clause-may_be : goal.returns-in-Kept-clause-may_be
returns-in-Kept-clause-may_be c =
    by_test c.is_set-in-Kept.result (may_be_cancel c.args.groups.now c.args.mask (cancel_class_view c.args.class)) _
    (search rules) (may_be_is c.args.groups.now c.args.mask (cancel_class_view c.args.class))
