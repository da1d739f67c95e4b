-- What is known of functions of Go's library, up to its version 1.25: who calls a cancel function that it takes, on
-- each of its ways, and who gives one away.
-- (The documentation of Go's packages `crypto/subtle`, `os/signal`, `runtime/trace` and `testing`.)
use Rattle.std.specs.Prelude.{ℕ, true, List, [], ◌∷◌, codes}
use Rattle.table_json.specs.declared.table.Parameter.TheVariants.{Cancel}
use Rattle.declared_json.specs.DeclaredPackages.{FunctionEntry, PackageEntry}

-- it calls the parameter at that position
abbrev pub calls_at : List ℕ → ℕ → ℕ → FunctionEntry
calls_at name at results = record {
  facts = record { name = name; gives = []; causes = []; params = Cancel at true ∷ [] };
  results = results;
}

-- it gives a cancel function as the result of that position
abbrev pub gives_at : List ℕ → ℕ → ℕ → FunctionEntry
gives_at name position results = record {
  facts = record { name = name; gives = position ∷ []; causes = []; params = [] };
  results = results;
}

-- of that package this function is known
abbrev pub package_with : List ℕ → FunctionEntry → PackageEntry
package_with path function = record { path = path; functions = function ∷ [] }

unfoldable pub library_entries : List PackageEntry
library_entries =
    package_with (codes "crypto/subtle") (calls_at (codes "WithDataIndependentTiming") 0 0)
    ∷ package_with (codes "os/signal") (gives_at (codes "NotifyContext") 1 2)
    ∷ package_with (codes "runtime/trace") (calls_at (codes "WithRegion") 2 0)
    ∷ package_with (codes "testing") (calls_at (codes "AllocsPerRun") 1 1)
    ∷ []
