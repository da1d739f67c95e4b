use Rattle.std.proofs.Common.{true}
use Rattle.certificate_json.specs.Certificates.{rows_of}
use Rattle.certificate_json.proofs.StatesRead.{no_row, row_more}
use Rattle.certificate_json.proofs.masks.StatesAddItem.add_item.Goals as goal

pub returns-in_ok-push-in-Some-clause-ok : goal.returns-in_ok-push-in-Some-clause-ok
returns-in_ok-push-in-Some-clause-ok c =
    let read = c.in_ok-masks.ensures.ok in
    let states = c.args.self.now in (
      read.value,
      read.stands,
      λ added h.
          let pushed = c.in_ok-push-in-Some.ensures h.0 in (
            pushed.0,
            row_more added read.value states.are_rows (rows_of states.rows) h.1 c.in_ok-masks.field-0 c.in-Some.masks
                _ read.judged c.in-Some.is pushed.1,
          ),
    )

pub returns-in-None-clause-ok : goal.returns-in-None-clause-ok
returns-in-None-clause-ok c =
    let read = c.in_ok-masks.ensures.ok in
    let states = c.args.self.now in (
      read.value,
      read.stands,
      λ added h. (
        h.0,
        no_row added read.value states.are_rows (rows_of states.rows) h.1 c.in_ok-masks.field-0 read.judged c.in-None.is,
      ),
    )
