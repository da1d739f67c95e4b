use Rattle.std.proofs.Common.{map}
use Rattle.certificate_json.specs.Certificates.{rows_of}
use Rattle.certificate_json.proofs.RowsHeld.{next_pushed}
use Rattle.certificate_json.proofs.rows.Rows.of_lists.Goals as goal

pub loop-list-preserved : goal.loop-list-preserved
loop-list-preserved c =
    let l = c.loop-list in
    let pushed = c.in_ok-push.ensures l.invariant.0 in (
      pushed.0,
      next_pushed (λ list. list.items) (rows_of l.rows) (rows_of c.push.new.self)
          (map (λ list. list.items) c.args.lists.now) c.args.lists.now l.list-index c.list-item.result c.loop-list-test.true
          c.list-item.is pushed.1 l.invariant.1,
    )
