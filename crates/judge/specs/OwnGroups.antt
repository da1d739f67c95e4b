-- Each group in which a node of a body starts a literal is one of the body's variables. And in the first edition no
-- node of a body of a text keeps anything in a field.
use Rattle.std.specs.Prelude.{ℕ, Bool, List}
use Rattle.certificates.specs.Least.{body_with}
use Rattle.certificates.specs.LeastLaws.{StartsInOwnGroups, KeepsByEdition}
use Rattle.flow.specs.declared.order.NodePlace.{NodePlace}
use Rattle.meaning.specs.Classes.{Promises}
use Rattle.meaning.specs.Mentions.{BodyPlace}
use Rattle.meaning.specs.Uses.{Seen}
use Rattle.meaning_packages.specs.PathFaults.{paths_of}

-- so it is in each body of the file, whatever is relied on and claimed
abbrev pub HaveOwnGroups : Seen → Type 0
HaveOwnGroups seen = (b : BodyPlace) (promises : Promises) (order : List NodePlace) (claims : ℕ → Bool)
    → StartsInOwnGroups (body_with (paths_of seen promises b) order claims)

abbrev pub KeepByEdition : Seen → Type 0
KeepByEdition seen = (b : BodyPlace) (promises : Promises) (order : List NodePlace) (claims : ℕ → Bool)
    → KeepsByEdition (body_with (paths_of seen promises b) order claims)

abbrev pub StartsHaveOwnGroups : Type 0
StartsHaveOwnGroups = (seen : Seen) → HaveOwnGroups seen
