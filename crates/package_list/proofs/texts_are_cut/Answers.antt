use Rattle.package_list.proofs.CutsShown.{cuts_shown}
use Rattle.package_list.proofs.texts_are_cut.Goals as goal

pub returns : goal.returns
returns c = cuts_shown
