-- How ranks are given, as a function of lists. A package is settled: where all its imports have ranks, it gets the next
-- one, and where one has none, it waits for that import. When a package is served, those that wait for it are settled
-- again. Imports that have ranks are not looked at again.
use Rattle.std.specs.Prelude.{ℕ, ◌+◌, Bool, if◌then◌else◌, List, [], ◌∷◌, ◌++◌, length, map, filter_map, replicate, Option, Some, None, is_none, slice_get, slice_set, slice_index_or}
use Rattle.std.specs.Str.{bytes_eq}
use Rattle.imports.specs.Ranks.{Package}

-- The imports that are given

-- the place of the first package that has the path, where the first of these packages stands at `n`
abbrev pub place_from : List ℕ → List Package → ℕ → Option ℕ
place_from path [] n = None
place_from path (p ∷ ps) n = if bytes_eq p.path path then Some n else place_from path ps (n + 1)

-- the places of the packages that have these paths
abbrev pub places_of : (List ℕ → Option ℕ) → Package → List ℕ
places_of place p = filter_map place p.imports

-- for each package the places of those that it imports
abbrev pub given_imports : List Package → List (List ℕ)
given_imports packages = map (places_of (λ path. place_from path packages 0)) packages

-- The ranks

-- what is known of the packages so far, by their places
pub record Ranking : Type 0 where
  -- the imports of each package, but for some that have ranks
  pub pending : List (List ℕ)
  -- the packages that wait for each package
  pub waiting : List (List ℕ)
  pub ranks : List (Option ℕ)
  -- the packages that have ranks, in their order
  pub ranked : List ℕ

-- there is such a package, and it has no rank
abbrev pub is_unranked : List (Option ℕ) → ℕ → Bool
is_unranked ranks i = is_none (slice_index_or ranks i (Some 0))

-- what is left of the imports from the first on that has no rank
abbrev pub left_of : List (Option ℕ) → List ℕ → List ℕ
left_of ranks [] = []
left_of ranks (j ∷ js) = if is_unranked ranks j then j ∷ js else left_of ranks js

-- before anything is settled
abbrev pub begun : List (List ℕ) → Ranking
begun given = record {
  pending = given;
  waiting = replicate (length given) [];
  ranks = replicate (length given) None;
  ranked = [];
}

-- the package gets the next rank
abbrev pub ranked_next : ℕ → Ranking → Ranking
ranked_next i s = record {
  pending = s.pending;
  waiting = s.waiting;
  ranks = slice_set s.ranks i (Some (length s.ranked));
  ranked = s.ranked ++ i ∷ [];
}

-- the package waits for the import `j`, and these are left of its imports
abbrev pub waits_for : ℕ → ℕ → List ℕ → Ranking → Ranking
waits_for i j left s = record {
  pending = slice_set s.pending i left;
  waiting = slice_set s.waiting j (slice_index_or s.waiting j [] ++ i ∷ []);
  ranks = s.ranks;
  ranked = s.ranked;
}

abbrev pub settled_by : Option ℕ → ℕ → List ℕ → Ranking → Ranking
settled_by None i left s = ranked_next i s
settled_by (Some j) i left s = waits_for i j left s

abbrev pub settled_with : ℕ → List ℕ → Ranking → Ranking
settled_with i left s = settled_by (slice_get left 0) i left s

abbrev pub settled : ℕ → Ranking → Ranking
settled i s =
    if is_unranked s.ranks i then settled_with i (left_of s.ranks (slice_index_or s.pending i [])) s else s

abbrev pub settled_all : List ℕ → Ranking → Ranking
settled_all [] s = s
settled_all (i ∷ is) s = settled_all is (settled i s)

-- nobody waits for the package any more
abbrev pub released : ℕ → Ranking → Ranking
released j s = record {
  pending = s.pending;
  waiting = slice_set s.waiting j [];
  ranks = s.ranks;
  ranked = s.ranked;
}

abbrev pub served : ℕ → Ranking → Ranking
served j s = settled_all (slice_index_or s.waiting j []) (released j s)

abbrev pub served_by : Option ℕ → Ranking → Ranking
served_by None s = s
served_by (Some j) s = served j s
