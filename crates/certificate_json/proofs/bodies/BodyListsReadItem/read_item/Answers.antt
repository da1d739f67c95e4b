use Rattle.std.proofs.Common.{None, map}
use Rattle.json_reading.specs.Standing.{value_at, Refutes}
use Rattle.json_reading.proofs.ItemsMade.{read_back}
use Rattle.table_json.proofs.ArrangedRead.{list_arranged, no_list_arranged}
use Rattle.certificate_json.specs.Certificates.{body_of, place_of}
use Rattle.certificate_json.specs.CertificateValues.{IsBodyValue}
use Rattle.certificate_json.specs.MembersRead.{AreBodiesIn}
use Rattle.certificate_json.proofs.BodyReadings.{one_body, place_total}
use Rattle.certificate_json.proofs.bodies.BodyListsReadItem.read_item.Goals as goal

pub returns-in-Some-clause-ok : goal.returns-in-Some-clause-ok
returns-in-Some-clause-ok c =
    let standing = value_at c.args.depth c.args.reader.now in
    let found = c.bodies_in_order.result in
    read_back AreBodiesIn (λ list. map body_of list.items) (Refutes AreBodiesIn) standing c.read_list.new.reader found
    (list_arranged place_total place_of IsBodyValue one_body body_of standing c.read_list.new.reader
    c.in_ok-given.field-0 c.in-Some.given found c.in-Some.is c.in_ok-given.ensures.ok c.bodies_in_order.ensures.some
    c.bodies_in_order.ensures.none)

pub returns-in-None-clause-ok : goal.returns-in-None-clause-ok
returns-in-None-clause-ok c =
    let standing = value_at c.args.depth c.args.reader.now in
    read_back AreBodiesIn (λ list. map body_of list.items) (Refutes AreBodiesIn) standing c.read_list.new.reader None
    (no_list_arranged place_total place_of IsBodyValue one_body body_of standing c.read_list.new.reader
    c.in_ok-given.field-0 c.in-None.is c.in_ok-given.ensures.ok)
