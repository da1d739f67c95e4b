use Rattle.silent_files.proofs.SilentSignatures.{signatures_so}
use Rattle.silent_files.proofs.signatures_without_names.Goals as goal

pub returns : goal.returns
returns c = signatures_so
