use Rattle.vetx_json.proofs.VetxLaws.{one_of_text}
use Rattle.vetx_json.proofs.one_package_a_text.Goals as goal

pub returns : goal.returns
returns c = one_of_text
