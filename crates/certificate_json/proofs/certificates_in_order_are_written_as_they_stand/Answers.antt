use Rattle.certificate_json.proofs.WrittenAsTheyStand.{written_as_they_stand}
use Rattle.certificate_json.proofs.certificates_in_order_are_written_as_they_stand.Goals as goal

pub returns : goal.returns
returns c = written_as_they_stand
