-- What is given of a package stands at its place.
use Rattle.std.proofs.Common.{◌≡◌, ℕ, List, length, ◌<◌, Some, sym, ap, ◌∙◌, arith}
use Rattle.std.specs.Prelude.{slice_get}
use Rattle.std.specs.declared.alloc.Global.{Global}
use Rattle.std.specs.declared.vec.Vec.{Vec}
use Rattle.std.proofs.lemmas.List.{length-map}
use Rattle.std.proofs.lemmas.Option.{slice_get_within}
use Rattle.imports.specs.Views.{package_view}
use Rattle.meaning_reports.specs.Loaded.{LoadedPackage, Tables, import_list}
use Rattle.given_packages.specs.Given.{TellsGiven}
use Rattle.given_packages.specs.declared.given.Given.{Given}

module _ (declared : Tables) (ps : List LoadedPackage) (given : Given) (i : ℕ) (p : LoadedPackage)
    (tells : TellsGiven declared ps given) (is_p : slice_get ps i ≡ Some p) where
  pub package_there : i < length given.packages.now
  package_there =
      let l = slice_get_within ps i p is_p in
      let size = tells.tell.are_as_many in
      omega (arith, l, size)

  as_many : length (import_list ps) ≡ length ps
  as_many = length-map ps _

  pub list_there : i < length given.lists.items
  list_there =
      let l = slice_get_within ps i p is_p in
      let lists : length given.lists.items ≡ length ps =
      sym (length-map given.lists.items package_view) ∙ (ap length tells.are_lists ∙ as_many) in
      omega (arith, l, lists)

  pub row_there : i < length given.imports.items
  row_there =
      let l = slice_get_within ps i p is_p in
      let rows : length given.imports.items ≡ length ps =
      sym (length-map given.imports.items (λ (r : Vec ℕ Global). r.items))
      ∙ (ap length tells.are_imports ∙ (length-map (import_list ps) _ ∙ as_many)) in
      omega (arith, l, rows)
