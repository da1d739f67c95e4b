-- What is declared of packages, beside those that are given: nothing of these.
use Rattle.std.specs.Prelude.{ℕ, Bool, not, List, ◌++◌, filter, map}
use Rattle.std.specs.List.{list_any}
use Rattle.std.specs.Str.{bytes_eq}
use Rattle.declared_json.specs.DeclaredPackages.{PackageEntry, path_of}
use Rattle.library_facts.specs.Library.{library_entries}

-- its path is one of these
abbrev pub is_among : List (List ℕ) → PackageEntry → Bool
is_among paths p = list_any (bytes_eq p.path) paths

abbrev pub is_beside : List (List ℕ) → PackageEntry → Bool
is_beside paths p = not (is_among paths p)

-- what is declared of other packages than those of these paths
abbrev pub but_given : List (List ℕ) → List PackageEntry → List PackageEntry
but_given paths entries = filter (is_beside paths) entries

-- What is declared goes before what is known of Go's library.
abbrev pub with_library : List PackageEntry → List PackageEntry
with_library entries = entries ++ but_given (map path_of entries) library_entries
