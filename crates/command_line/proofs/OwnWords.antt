-- Words of the program's own are no call of the go command.
use Rattle.std.proofs.Common.{[], ◌∷◌, codes, refl}
use Rattle.command_line.specs.VetWords.{IsNoCall}

pub no_check : IsNoCall (codes "check")
no_check [] = refl
no_check (w ∷ ws) = refl

pub no_verify : IsNoCall (codes "verify")
no_verify [] = refl
no_verify (w ∷ ws) = refl

pub no_short_help : IsNoCall (codes "-h")
no_short_help [] = refl
no_short_help (w ∷ ws) = refl

pub no_long_help : IsNoCall (codes "--help")
no_long_help [] = refl
no_long_help (w ∷ ws) = refl

pub no_help : IsNoCall (codes "help")
no_help [] = refl
no_help (w ∷ ws) = refl

pub no_short_version : IsNoCall (codes "-V")
no_short_version [] = refl
no_short_version (w ∷ ws) = refl

pub no_long_version : IsNoCall (codes "--version")
no_long_version [] = refl
no_long_version (w ∷ ws) = refl
