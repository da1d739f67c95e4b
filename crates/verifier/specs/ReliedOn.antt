-- For which of the variables that its certificate settles a body is relied on, as the program goes over them.
use Rattle.std.specs.Prelude.{ℕ, ◌≡◌, ◌↔◌, true, false, List, Option, Some, None}
use Rattle.credits.specs.CreditViews.{is_among}
use Rattle.meaning.specs.Mentions.{BodyPlace}
use Rattle.meaning.specs.Uses.{Seen, goes_off}
use Rattle.meaning_packages.specs.Credits.{binds_captured, MayComeBack}
use Rattle.meaning_packages.specs.PathFaults.{paths_of}
use Rattle.verifier.specs.Verified.{nothing_known}

-- the variable is one of these, neither the body nor a literal in it binds it, and the body comes back, if it must
pub record IsLeft (seen : Seen) (b : BodyPlace) (numbers : List ℕ) (variable : ℕ) : Type 0 where
  pub is_one : is_among numbers variable ≡ true
  pub binds_none : binds_captured seen.known.edition seen b.at variable ≡ false
  pub comes_back : MayComeBack seen.known.edition (goes_off b.literal) (paths_of seen nothing_known b)

abbrev pub AreLeft : Seen → BodyPlace → List ℕ → List ℕ → Type 0
AreLeft seen b numbers left = (variable : ℕ) → (is_among left variable ≡ true) ↔ IsLeft seen b numbers variable

-- nothing is left of nothing
abbrev pub AreLeftIf : Seen → BodyPlace → Option (List ℕ) → Option (List ℕ) → Type 0
AreLeftIf seen b None None = Unit {0}
AreLeftIf seen b None (Some left) = ⊥
AreLeftIf seen b (Some numbers) None = ⊥
AreLeftIf seen b (Some numbers) (Some left) = AreLeft seen b numbers left
