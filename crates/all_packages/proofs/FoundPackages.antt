-- A package that was given, and those that it imports.
use Rattle.std.proofs.Common.{◌≡◌, ℕ, List, [], get_or, Some, option_map, sym, ap, ◌∙◌}
use Rattle.std.specs.Prelude.{slice_get}
use Rattle.std.specs.declared.alloc.Global.{Global}
use Rattle.std.specs.declared.vec.Vec.{Vec}
use Rattle.std.proofs.lemmas.Option.{get_or_from_slice_get, same_Some, slice_get-map}
use Rattle.imports.specs.Ranks.{Package}
use Rattle.imports.specs.Views.{package_view, packages_view, rows_view}
use Rattle.imports.specs.declared.import_list.ImportList.{ImportList}
use Rattle.meaning_reports.proofs.ImportsOf.{list_item, in_lists}
use Rattle.meaning_reports.specs.Loaded.{LoadedPackage, Tables, imported_paths}
use Rattle.given_packages.specs.declared.given.Given.{Given}
use Rattle.all_packages.specs.Progress.{imports_at}
use Rattle.given_packages.specs.Given.{TellsGiven}

module _ (declared : Tables) (ps : List LoadedPackage) (given : Given) (tells : TellsGiven declared ps given) (i : ℕ) where
  -- the places of those that it imports
  pub imports_so : (row : Vec ℕ Global) → slice_get given.imports.items i ≡ Some row → row.items ≡ imports_at ps i
  imports_so row is =
      let here : slice_get (rows_view given.imports.items) i ≡ Some row.items =
      slice_get-map (λ (r : Vec ℕ Global). r.items) given.imports.items i ∙ ap (option_map (λ (r : Vec ℕ Global). r.items)) is in
      sym (ap (λ rows. get_or rows i []) (sym tells.are_imports) ∙ get_or_from_slice_get (rows_view given.imports.items) i row.items [] here)

  module _ (p : LoadedPackage) (is_p : slice_get ps i ≡ Some p) where
    -- the paths that it imports
    pub list_so : (list : ImportList) → slice_get given.lists.items i ≡ Some list
        → (package_view list).imports ≡ imported_paths p
    list_so list is =
        let one : slice_get (packages_view given.lists.items) i ≡ Some (package_view list) =
        slice_get-map package_view given.lists.items i ∙ ap (option_map package_view) is in
        let other : slice_get (packages_view given.lists.items) i ≡ Some (list_item ps p) =
        ap (λ ls. slice_get ls i) tells.are_lists ∙ in_lists ps i p is_p in
        ap (λ (l : Package). l.imports) (same_Some (package_view list) (list_item ps p) (sym one ∙ other))
