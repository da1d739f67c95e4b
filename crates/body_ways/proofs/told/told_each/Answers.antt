use Rattle.std.proofs.Common.{List, map, drop, sym, ap, subst}
use Rattle.std.proofs.lemmas.List.{drop_all}
use Rattle.body_ways.proofs.ToldWays.{AreToldBut, none_told, all_told, fault_there, told_next}
use Rattle.body_ways.specs.ToldViews.{told_fault_view}
use Rattle.body_ways.specs.declared.told.ToldFault.{ToldFault}
use Rattle.path_faults.specs.FaultViews.{fault_view}
use Rattle.reasons.specs.WordViews.{branch_view}
use Rattle.body_ways.proofs.told.told_each.Goals as goal

pub loop-fault-init : goal.loop-fault-init
loop-fault-init g c b is faults =
    let branches = map branch_view c.args.branches.now in
    let left = map fault_view c.args.faults.now in
    subst (λ (told : List ToldFault). AreToldBut b branches left (map told_fault_view told))
    (sym c.new-told.ensures.items)
    (none_told b branches left (λ f h. (faults f).1 h))

pub loop-fault-preserved : goal.loop-fault-preserved
loop-fault-preserved g c b is faults =
    let branches = map branch_view c.args.branches.now in
    let fs = c.args.faults.now in
    let i = c.loop-fault.fault-index in
    let less = c.loop-fault-test.true in
    told_next b branches fs i _ less (map told_fault_view c.loop-fault.told.items)
    (map told_fault_view c.add_told.new.told.items) (c.loop-fault.invariant b is faults)
    (c.in_ok-add_told.ensures b is ((faults _).0 (fault_there b branches fs i _ less)))

pub returns : goal.returns
returns g c b is faults =
    let branches = map branch_view c.args.branches.now in
    let fs = c.args.faults.now in
    let i = c.loop-fault.fault-index in
    all_told b branches (map fault_view (drop i fs)) (ap (map fault_view) (drop_all i fs c.loop-fault-test.false))
    (map told_fault_view c.loop-fault.told.items) (c.loop-fault.invariant b is faults)
