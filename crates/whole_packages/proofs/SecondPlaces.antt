-- The tree of the second function of a name, by its number.
use Rattle.std.proofs.Common.{◌≡◌, ◌<◌, ◌≤◌, List, [], ◌++◌, map, length, get_or, Some, option_map, refl, sym, ap, ◌∙◌}
use Rattle.std.specs.Prelude.{slice_get}
use Rattle.std.proofs.lemmas.List.{append-nil}
use Rattle.std.proofs.lemmas.Option.{slice_get-map, slice_get_read, slice_get_past}
use Rattle.meaning.specs.TwoFunctions.{FunctionName}
use Rattle.report.specs.Entries.{Entry}
use Rattle.whole_packages.specs.declared.numbered.NumberedTree.{NumberedTree as KeptTree}
use Rattle.whole_packages.specs.LoadedViews.{numbered_view}
use Rattle.whole_packages.specs.WholeEntries.{second_at}

module _ (trees : List KeptTree) (f : FunctionName) where
  pub entries_there : (t : KeptTree) → f.file < length trees → t ≡ get_or trees f.file t
      → second_at (slice_get (map numbered_view trees) f.file) f ≡ second_at (Some (numbered_view t)) f
  entries_there t within is =
      ap (λ o. second_at o f) (slice_get-map numbered_view trees f.file
      ∙ ap (option_map numbered_view) (slice_get_read trees (length trees) f.file t refl within is))

  pub entries_past : length trees ≤ f.file → second_at (slice_get (map numbered_view trees) f.file) f ≡ []
  entries_past past =
      ap (λ o. second_at o f) (slice_get-map numbered_view trees f.file
      ∙ ap (option_map numbered_view) (slice_get_past trees f.file past))

pub no_more : (es more : List Entry) → more ≡ [] → es ≡ es ++ more
no_more es more none = sym (append-nil es) ∙ ap (λ ms. es ++ ms) (sym none)
