-- Whether some return of a body is reached, by what the program finds of it.
use Rattle.std.proofs.Common.{◌≡◌, ℕ, Bool, true, false, Some, IsTrue, sym, ◌∙◌, subst}
use Rattle.std.specs.Prelude.{◌↔◌}
use Rattle.std.proofs.lemmas.Bool.{false≢true}
use Rattle.tree.specs.declared.edition.Edition.{Edition}
use Rattle.tree.specs.declared.edition.Edition.TheVariants.{First, Second}
use Rattle.bodies.specs.Bodies.{TellsBody}
use Rattle.bodies.specs.declared.body.Body.{Body as KeptBody}
use Rattle.meaning.specs.BodyEvents.{Variable}
use Rattle.meaning.specs.Classes.{Promises}
use Rattle.meaning.specs.Mentions.{BodyPlace}
use Rattle.meaning.specs.Uses.{Seen}
use Rattle.meaning_packages.specs.CallsFlags.{ComesBackBy}
use Rattle.meaning_packages.specs.Credits.{MayComeBack}
use Rattle.meaning_packages.specs.PathFaults.{Paths, paths_of, KeepsCall}

-- by the edition that is kept of the body
pub by_its_edition : (file : ℕ) (seen : Seen) (b : BodyPlace) (body : KeptBody) → TellsBody file seen b body
    → (paths : Paths) (comes : Bool) → IsTrue comes ↔ ComesBackBy body.edition paths
    → IsTrue comes ↔ ComesBackBy seen.known.edition paths
by_its_edition file seen b body tells paths comes are =
    subst (λ e. IsTrue comes ↔ ComesBackBy e paths) tells.is_edition are

module _ (e : Edition) (paths : Paths) (v : Variable) (comes : Bool) (are : IsTrue comes ↔ ComesBackBy e paths) where
  pub never_back : comes ≡ false → IsTrue false ↔ (ComesBackBy e paths × KeepsCall paths v)
  never_back none = (λ bad. absurd (false≢true bad), λ h. absurd (false≢true (sym none ∙ are.1 h.0)))

  pub back_and_kept : IsTrue comes → (keeps : Bool) → IsTrue keeps ↔ KeepsCall paths v
      → IsTrue keeps ↔ (ComesBackBy e paths × KeepsCall paths v)
  back_and_kept sure keeps kept = (λ t. (are.0 sure, kept.0 t), λ h. kept.1 h.1)

-- whether it comes back goes by its code alone
pub by_code_alone : (e : Edition) (seen : Seen) (p q : Promises) (b : BodyPlace) → ComesBackBy e (paths_of seen p b)
    → ComesBackBy e (paths_of seen q b)
by_code_alone First seen p q b h = tt
by_code_alone Second seen p q b h = record {
  handed = h.handed;
  list = h.list;
  there = h.there;
  comes = record { reaches = h.comes.reaches; is_return = h.comes.is_return };
}

-- so does whether a literal may
pub back_alone : (e : Edition) (off : Bool) (seen : Seen) (p q : Promises) (b : BodyPlace)
    → MayComeBack e off (paths_of seen p b)
    → MayComeBack e off (paths_of seen q b)
back_alone First off seen p q b h = tt
back_alone Second false seen p q b h = tt
back_alone Second true seen p q b h = record {
  handed = h.handed;
  list = h.list;
  there = h.there;
  comes = record { reaches = h.comes.reaches; is_return = h.comes.is_return };
}
