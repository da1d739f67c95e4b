use Rattle.all_certificates.proofs.InOrder.{certificates_read_back}
use Rattle.all_certificates.proofs.laws.certificates_read_back.Goals as goal

pub returns : goal.returns
returns c = certificates_read_back c.certificates_in_order_are_written_as_they_stand.ensures
