-- Files with their bodies and credits, and the same files as they were seen.
use Rattle.std.proofs.Common.{◌≡◌, suc, List, [], ◌∷◌, length, refl, arith}
use Rattle.meaning.specs.Uses.{Seen}
use Rattle.meaning_packages.specs.Credits.{AreFullCredits}
use Rattle.meaning_reports.specs.PackageTables.{AreCredited, no_file, file_and}
use Rattle.credits.specs.CreditViews.{has}
use Rattle.calls_flags.specs.declared.file_bodies.FileBodies.{FileBodies}
use Rattle.calls_flags.specs.FilesBodies.{with_all_credits, TellAll, HaveBodies}
use Rattle.calls_flags.proofs.KeptFiles.{tell_all, EachKept}

-- they have their credits

credited : (seens : List Seen) (ks : List FileBodies) → length seens ≡ length ks
    → EachKept (λ i seen k. AreFullCredits seen (has k.credits)) seens ks
    → AreCredited seens (with_all_credits seens ks)
credited [] ks size full = no_file
credited (seen ∷ seens) [] size full = absurd (omega (arith, size))
credited (seen ∷ seens) (k ∷ ks) size full =
    file_and refl (full 0 seen k refl refl)
    (credited seens ks (omega (arith, size)) (λ i s t is is_kept. full (suc i) s t is is_kept))

pub all_credited : (seens : List Seen) (ks : List FileBodies) → HaveBodies seens ks
    → AreCredited seens (with_all_credits seens ks)
all_credited seens ks h = credited seens ks h.are_as_many (λ i seen k is is_kept. (h.each i seen k is is_kept).are_full)

-- what is kept is those files

pub all_told : (seens : List Seen) (ks : List FileBodies) → HaveBodies seens ks → TellAll (with_all_credits seens ks) ks
all_told seens ks h = tell_all seens ks h.are_as_many (λ i seen k is is_kept. (h.each i seen k is is_kept).tells)
