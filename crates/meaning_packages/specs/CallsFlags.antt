-- Which functions of a package are known to call a parameter: when the function returns, its parameter at that position
-- has been called, or in the second edition a goroutine was started that sees to it; and there some return must be
-- reached. Only a cancel parameter with a name can be known so, of a function (no method, and none that is called
-- `init` or `_`) with a block of which the paths are followed. The flag is kept if the function's paths keep it, where
-- its own calls rely on flags in turn. Flags are consistent if each of them is kept under all of them; recursion is
-- trusted so, until a path breaks it. A package's flags are the most consistent flags.
-- (This tool's rules; the documentation of `context`.)
use Rattle.std.specs.Prelude.{ℕ, ◌≡◌, Bool, true, false, not, ◌&&◌, List, [], Option, Some, None, is_none, Contains}
use Rattle.std.specs.Str.{bytes_eq}
use Rattle.tree.specs.declared.edition.Edition.{Edition}
use Rattle.tree.specs.declared.edition.Edition.TheVariants.{First, Second}
use Rattle.tree.specs.Syntax.{Identifier}
use Rattle.meaning.specs.Scopes.{is_blank}
use Rattle.meaning.specs.OuterBlocks.{is_init}
use Rattle.meaning.specs.FunctionFacts.{cancel}
use Rattle.meaning.specs.Mentions.{BodyPlace}
use Rattle.meaning.specs.Uses.{Callee, Seen, facts_take}
use Rattle.meaning.specs.BodyEvents.{Variable, own_parameter, variables_of, unfollowed_faults, bodies_of}
use Rattle.meaning_packages.specs.PathFaults.{Paths, ComesBack, paths_of, KeepsCall}
use Rattle.meaning_packages.specs.Credits.{Credits, promises_in}

-- for each function, by its name, and each position
abbrev pub Flags : Type 0
Flags = List ℕ → ℕ → Bool

-- of the package's own functions by these flags, of those of an import by its own
abbrev pub flag_of : Flags → (List ℕ → Flags) → Option (List ℕ) → List ℕ → ℕ → Bool
flag_of own imported None name k = own name k
flag_of own imported (Some path) name k = imported path name k

abbrev pub calls_by : Flags → (List ℕ → Flags) → Callee → ℕ → Bool
calls_by own imported f k = flag_of own imported f.path f.name k

-- a file of the package, and what may be relied on of its literals
pub record FileWithCredits : Type 0 where
  pub seen : Seen
  pub credits : Credits

abbrev pub has_name : List ℕ → Option Identifier → Bool
has_name name None = false
has_name name (Some n) = bytes_eq n.text name && (not (is_blank n.text) && not (is_init n.text))

-- the body is that of the function of that name
abbrev pub is_function : List ℕ → BodyPlace → Bool
is_function name b = is_none b.receiver && has_name name b.name

-- a parameter of which it may be known
pub record IsClaim (seen : Seen) (b : BodyPlace) (v : Variable) (name : List ℕ) (k : ℕ) : Type 0 where
  pub is_body : Contains (bodies_of seen) b
  pub is_of_function : is_function name b ≡ true
  pub is_cancel_parameter : facts_take cancel k (seen.known.functions name) ≡ true
  pub is_followed : unfollowed_faults seen b ≡ []
  pub is_of_body : Contains (variables_of seen b.at) v
  pub is_parameter : v.role ≡ own_parameter k
  pub is_cancel_variable : v.kind ≡ cancel

-- a function that never returns calls nothing for certain
abbrev pub ComesBackBy : Edition → Paths → Type 0
ComesBackBy First b = Unit {0}
ComesBackBy Second b = ComesBack b

-- the function's paths keep it, under these flags
pub record IsKept
    (files : List FileWithCredits) (imported : List ℕ → Flags) (flags : Flags) (name : List ℕ) (k : ℕ)
    : Type 0 where
  pub file : FileWithCredits
  pub body : BodyPlace
  pub variable : Variable
  pub is_of_package : Contains files file
  pub is_claim : IsClaim file.seen body variable name k
  pub comes_back : ComesBackBy file.seen.known.edition
      (paths_of file.seen (promises_in (calls_by flags imported) file.credits body.at) body)
  pub keeps : KeepsCall (paths_of file.seen (promises_in (calls_by flags imported) file.credits body.at) body) variable

pub record AreConsistent (files : List FileWithCredits) (imported : List ℕ → Flags) (flags : Flags) : Type 0 where
  pub each : (name : List ℕ) (k : ℕ) → flags name k ≡ true → IsKept files imported flags name k

pub record AreMost (files : List FileWithCredits) (imported : List ℕ → Flags) (flags : Flags) : Type 0 where
  pub are_consistent : AreConsistent files imported flags
  pub include : (others : Flags) → AreConsistent files imported others
      → (name : List ℕ) (k : ℕ)
      → others name k ≡ true
      → flags name k ≡ true
