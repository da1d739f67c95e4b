-- What the program keeps of packages and of their ranks, and what it stands for.
use Rattle.std.specs.Prelude.{ℕ, ◌≡◌, List, map, Option, None, Some, slice_index_or}
use Rattle.std.specs.Borrow.{Bor}
use Rattle.std.specs.Str.{bytes_eq}
use Rattle.std.specs.declared.alloc.Global.{Global}
use Rattle.std.specs.declared.vec.Vec.{Vec as VecIn}
use Rattle.indexmap.specs.IndexMap.{IndexMap, get_by}
use Rattle.imports.specs.declared.import_list.ImportList.{ImportList}
use Rattle.imports.specs.declared.ranking.Ranking.{Ranking as KeptRanking}
use Rattle.imports.specs.declared.ranks.Order.{Order}
use Rattle.imports.specs.Ranks.{Package}
use Rattle.imports.specs.Settling.{Ranking}

abbrev Vec : Type 0 → Type 0
Vec T = VecIn T Global

abbrev pub text_views : List (Bor (List ℕ)) → List (List ℕ)
text_views = map (λ text. text.now)

abbrev pub package_view : ImportList → Package
package_view p = record { path = p.path.now; imports = text_views p.imports.items }

abbrev pub packages_view : List ImportList → List Package
packages_view = map package_view

-- the value of a path
abbrev pub at_path : {V S : Type 0} → IndexMap (Bor (List ℕ)) V S → List ℕ → Option V
at_path m path = get_by (λ k. bytes_eq path k.now) m

abbrev pub rows_view : List (Vec ℕ) → List (List ℕ)
rows_view = map (λ row. row.items)

abbrev pub slices_view : List (Bor (List ℕ)) → List (List ℕ)
slices_view = map (λ slice. slice.now)

abbrev pub ranking_view : KeptRanking → Ranking
ranking_view r = record {
  pending = slices_view r.pending.items;
  waiting = rows_view r.waiting.items;
  ranks = r.ranks.items;
  ranked = r.ranked.items;
}

-- the rank of the i-th package
abbrev pub rank_of : Order → ℕ → Option ℕ
rank_of order i = slice_index_or order.ranks.items i None

-- the packages that have ranks, in their order
abbrev pub ranked_of : Order → List ℕ
ranked_of order = order.ranked.items

-- the first of two values, if there is one
abbrev pub or_else : {V : Type 0} → Option V → Option V → Option V
or_else None b = b
or_else (Some a) b = Some a

-- paths that had no value have now the one that is given here
abbrev pub Adds :
    {V S : Type 0} → IndexMap (Bor (List ℕ)) V S → IndexMap (Bor (List ℕ)) V S → (List ℕ → Option V) → Type 0
Adds before after given = (path : List ℕ) → at_path after path ≡ or_else (at_path before path) (given path)
