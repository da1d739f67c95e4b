-- What `verify` says of the files of a package, by certificates that somebody gives. Nothing of them is believed but
-- what the sources bear out:
--  - A function is known to call a parameter where the package's certificates claim it, and it may be known of that
--    parameter (`IsClaim`), and the claim has its type.
--  - A literal is relied on for a variable that it captures where its own certificate holds and leaves the variable
--    settled at each return. It relies on the literals in it, as the body around it does. By the second edition neither
--    it nor a literal in it may bind the variable, and some return of one under `go` is reached. So is one of a
--    function that is known to call a parameter.
--  - The paths of a body are not looked for: it has a certificate that holds, or this is said of it. A body of which no
--    paths are followed, with too many variables, or with variables and a `goto`, needs none. All else is said as by
--    `check`.
-- (This tool's rules.)
use Rattle.std.specs.Prelude.{ℕ, ◌≡◌, ◌↔◌, Bool, true, false, List, [], Option, Some, None, codes, slice_get, Contains}
use Rattle.std.specs.List.Sorted.{IsPermutation}
use Rattle.tree.specs.Syntax.{Identifier}
use Rattle.calls_flags.specs.Claims.{function_name}
use Rattle.checker.specs.Certificates.{CheckedBody, Holds, SettlesIn}
use Rattle.flow.specs.declared.order.NodePlace.{NodePlace}
use Rattle.flow.specs.NodeOrder.{places, AreInOrder}
use Rattle.flow.specs.Walks.{graph_of}
use Rattle.flow.specs.GraphOfCode.{nodes}
use Rattle.meaning.specs.BodyEvents.{Variable, captured, bodies_of, variables_of, outer_faults, body_faults, unfollowed_faults}
use Rattle.meaning.specs.FunctionFacts.{CancelType, cancel_type}
use Rattle.meaning.specs.Mentions.{BodyPlace}
use Rattle.meaning.specs.Classes.{Promises}
use Rattle.meaning.specs.Uses.{Callee, UseFault, facts_take_type, goes_off}
use Rattle.meaning_packages.specs.CallsFlags.{Flags, ComesBackBy, FileWithCredits, IsClaim}
use Rattle.meaning_packages.specs.Credits.{body_at, promises_in, no_calls, binds_captured, MayComeBack}
use Rattle.meaning_packages.specs.PathFaults.{PathFault, Paths, paths_of, IsPassFault}
use Rattle.meaning_reports.specs.PackageReports.{use_entry, path_entry}
use Rattle.report.specs.declared.codes.DiagnosticCode.TheVariants.{NoCertificate}
use Rattle.report.specs.Entries.{Entry}

-- what is given for one package: the rows of masks of each body, by its file's number and the offset of its `func`, and
-- under which type a function is claimed to call its parameter at a position
pub record Given : Type 0 where
  pub rows : ℕ → ℕ → Option (List (List ℕ))
  pub claims : List ℕ → ℕ → Option CancelType

-- Flags

-- nothing is relied on: whether a body comes back goes by its code alone
abbrev pub nothing_known : Promises
nothing_known = record { calls = no_calls; credits = λ literal number. false }

pub record IsClaimed (files : List FileWithCredits) (given : Given) (name : List ℕ) (k : ℕ) : Type 0 where
  pub file : FileWithCredits
  pub body : BodyPlace
  pub variable : Variable
  pub type : CancelType
  pub is_of_package : Contains files file
  pub is_claim : IsClaim file.seen body variable name k
  pub is_given : given.claims name k ≡ Some type
  pub has_its_type : facts_take_type (cancel_type type) k (file.seen.known.functions name) ≡ true
  pub comes_back : ComesBackBy file.seen.known.edition (paths_of file.seen nothing_known body)

-- exactly what is claimed and may be known is known
abbrev pub AreClaimed : List FileWithCredits → Given → Flags → Type 0
AreClaimed files given flags = (name : List ℕ) (k : ℕ) → (flags name k ≡ true) ↔ IsClaimed files given name k

-- Certificates

-- a function's own parameters of which it is known, and none of a method or a literal
abbrev pub flags_of_name : Flags → Option (List ℕ) → ℕ → Bool
flags_of_name flags None k = false
flags_of_name flags (Some name) k = flags name k

abbrev pub flags_of_body : Flags → BodyPlace → ℕ → Bool
flags_of_body flags b = flags_of_name flags (function_name b)

-- the order is that of the nodes of the code in the text
pub record IsOrder (paths : Paths) (order : List NodePlace) : Type 0 where
  pub same : IsPermutation (places 0 (nodes paths.code)) order
  pub ordered : AreInOrder order

abbrev pub checked : Paths → (ℕ → Bool) → List NodePlace → CheckedBody
checked paths claims order = record {
  edition = paths.edition;
  graph = graph_of paths.code;
  order = order;
  variables = paths.variables;
  promises = paths.promises;
  is_claimed = claims;
}

-- the body's certificate is given and holds, where the package's functions are known to call this, and functions around
-- are known to call that
pub record IsCertified
    (given : Given) (own : Flags) (calls : Callee → ℕ → Bool) (number : ℕ) (file : FileWithCredits) (b : BodyPlace)
    : Type 0 where
  pub rows : List (List ℕ)
  pub order : List NodePlace
  pub is_followed : unfollowed_faults file.seen b ≡ []
  pub are_given : given.rows number b.at ≡ Some rows
  pub is_order : IsOrder (paths_of file.seen (promises_in calls file.credits b.at) b) order
  pub holds
      : Holds (checked (paths_of file.seen (promises_in calls file.credits b.at) b) (flags_of_body own b) order) rows

-- its certificate settles the variable of that number, which the body captures
pub record SettlesBy
    (given : Given) (own : Flags) (calls : Callee → ℕ → Bool) (number : ℕ) (file : FileWithCredits) (b : BodyPlace)
    (variable : ℕ)
    : Type 0 where
  pub certified : IsCertified given own calls number file b
  pub place : ℕ
  pub found : Variable
  pub is_of_body : slice_get (variables_of file.seen b.at) place ≡ Some found
  pub is_captured : found.role ≡ captured
  pub is_it : found.number ≡ variable
  pub settles
      : SettlesIn
      (checked (paths_of file.seen (promises_in calls file.credits b.at) b) (flags_of_body own b) certified.order)
      certified.rows place found

-- so it does, neither the body nor a literal in it binds the variable, and the body comes back, if it must
pub record IsReliedOnBy
    (given : Given) (own : Flags) (calls : Callee → ℕ → Bool) (number : ℕ) (file : FileWithCredits) (b : BodyPlace)
    (variable : ℕ)
    : Type 0 where
  pub settles : SettlesBy given own calls number file b variable
  pub binds_none : binds_captured file.seen.known.edition file.seen b.at variable ≡ false
  pub comes_back : MayComeBack file.seen.known.edition (goes_off b.literal) (paths_of file.seen nothing_known b)

-- the literal at that offset is relied on so
pub record IsCreditedBy
    (given : Given) (own : Flags) (calls : Callee → ℕ → Bool) (number : ℕ) (file : FileWithCredits)
    (literal variable : ℕ)
    : Type 0 where
  pub body : BodyPlace
  pub is_there : body_at literal (bodies_of file.seen) ≡ Some body
  pub relied : IsReliedOnBy given own calls number file body variable

-- all credits of the file of that number, by its certificates: there is one such table
abbrev pub AreGivenCredits : Given → Flags → (Callee → ℕ → Bool) → ℕ → FileWithCredits → Type 0
AreGivenCredits given own calls number file = (literal variable : ℕ)
    → (file.credits literal variable ≡ true) ↔ IsCreditedBy given own calls number file literal variable

-- What is said

abbrev pub name_or_func : Option Identifier → List ℕ
name_or_func None = codes "func"
name_or_func (Some n) = n.text

-- a function or a method is told by its name, a literal by the word `func`
abbrev pub uncertified_entry : ℕ → BodyPlace → Entry
uncertified_entry number b = record {
  file = number;
  offset = b.at;
  code = NoCertificate;
  name = name_or_func b.name;
}

-- what is said of the file of that number
pub data IsSaid (given : Given) (own : Flags) (calls : Callee → ℕ → Bool) (number : ℕ) (file : FileWithCredits)
    : Entry → Type 0 where
  outside_bodies : (f : UseFault)
      → Contains (outer_faults file.seen) f
      → IsSaid given own calls number file (use_entry number f)
  of_use : (b : BodyPlace) (f : UseFault)
      → Contains (bodies_of file.seen) b
      → Contains (body_faults file.seen b.at) f
      → IsSaid given own calls number file (use_entry number f)
  of_pass : (b : BodyPlace) (f : PathFault)
      → Contains (bodies_of file.seen) b
      → IsPassFault (paths_of file.seen (promises_in calls file.credits b.at) b) f
      → IsSaid given own calls number file (path_entry number f)
  not_certified : (b : BodyPlace)
      → Contains (bodies_of file.seen) b
      → unfollowed_faults file.seen b ≡ []
      → (IsCertified given own calls number file b → ⊥)
      → IsSaid given own calls number file (uncertified_entry number b)
