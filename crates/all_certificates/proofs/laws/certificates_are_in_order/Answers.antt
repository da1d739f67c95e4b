use Rattle.all_certificates.proofs.InOrder.{certificates_are_in_order}
use Rattle.all_certificates.proofs.laws.certificates_are_in_order.Goals as goal

pub returns : goal.returns
returns c = certificates_are_in_order
