-- The bodies of each file are those of all files.
use Rattle.std.proofs.Common.{◌≡◌, ℕ, ◌+◌, ◌<◌, List, [], ◌∷◌, ◌++◌, length, get_or, drop, Option, None, Some, refl, sym, ap, ◌∙◌, subst}
use Rattle.std.specs.Prelude.{if◌then◌else◌, is_none, slice_get}
use Rattle.std.specs.List.{AllZip}
use Rattle.std.proofs.lemmas.List.{drop_more}
use Rattle.std.proofs.lemmas.Option.{get_or_from_slice_get, same_Some, slice_get_read, slice_get_within}
use Rattle.bodies.proofs.BodiesTold.{TellsAt, tell_bodies}
use Rattle.bodies.specs.Bodies.{TellsBody, TellsPlace, TellBodies}
use Rattle.bodies.specs.declared.body.Body.{Body}
use Rattle.calls_flags.proofs.KeptFiles.{AreMade, none_made, one_made, as_many_made, each_made}
use Rattle.calls_flags.specs.FilesBodies.{HasBodies, HaveBodies}
use Rattle.calls_flags.specs.ToldFiles.{TellsSeen, TellAllSeen, ordered_if}
use Rattle.calls_flags.specs.declared.file_bodies.FileBodies.{FileBodies}
use Rattle.calls_flags.specs.declared.told_file.ToldFile.{ToldFile}
use Rattle.events.specs.declared.found.Variables.{Variables}
use Rattle.meaning.specs.Uses.{Seen}
use Rattle.mentions.specs.MarkViews.{body_view}
use Rattle.mentions.specs.declared.mark.BodyPlace.{BodyPlace}
use Rattle.package_pieces.specs.Built.{IsBuilt}
use Rattle.package_pieces.specs.declared.numbers.BodyNumber.{BodyNumber}
use Rattle.package_pieces.specs.Numbers.{opened_numbers, numbers_from, opened_count}
use Rattle.package_pieces.proofs.Numbered.{zip_apart, zip_kept, how_many}
use Rattle.path_faults.specs.FoundFaults.{each_from}

-- what was read of the files
pub built_by : (files : List ToldFile) (number : BodyNumber) (file : ToldFile) (variables : Variables)
    (places : List BodyPlace) (place : BodyPlace) (body : Body)
    → number.file < length files → file ≡ get_or files number.file file
    → file.variables ≡ Some variables
    → places ≡ file.told.opened.items
    → number.body < length places → place ≡ get_or places number.body place
    → TellsPlace number.file file.told variables (body_view place) body
    → IsBuilt files number body
built_by files number file variables places place body within is sought same below there tells other is_other =
    let read = ap (λ ps. slice_get ps number.body) (sym same)
    ∙ slice_get_read places (length places) number.body place refl below there in
    let Tells : ToldFile → Type 0 = λ g.
    (vs : Variables) → g.variables ≡ Some vs → (p : BodyPlace) → slice_get g.told.opened.items number.body ≡ Some p
    → TellsPlace number.file g.told vs (body_view p) body in
    let same_file : file ≡ other =
    same_Some file other (sym (slice_get_read files (length files) number.file file refl within is) ∙ is_other) in
    subst Tells same_file
    (λ vs are p is_place.
    let same_variables : variables ≡ vs = same_Some variables vs (sym sought ∙ are) in
    let same_place : place ≡ p = same_Some place p (sym read ∙ is_place) in
    subst (λ us. TellsPlace number.file file.told us (body_view p) body) same_variables
    (subst (λ q. TellsPlace number.file file.told variables (body_view q) body) same_place tells))

module _ (files : List ToldFile) (number : ℕ) (file : ToldFile) (is_file : slice_get files number ≡ Some file) where
  built_if : (sought : Option Variables) → file.variables ≡ sought → (own : List Body)
      → AllZip (IsBuilt files) (opened_numbers number file) own
      → (seen : Seen) → TellsSeen seen file
      → TellBodies number seen own
  built_if None none own built seen tells =
      let no_count : opened_count file ≡ 0 =
      ap (λ (v : Option Variables). if is_none v then 0 else length file.told.opened.items) none in
      no_bodies own (subst (λ n. AllZip (IsBuilt files) (numbers_from number 0 n) own) no_count built)
    where
      no_bodies : (bodies : List Body) → AllZip (IsBuilt files) [] bodies → TellBodies number seen bodies
      no_bodies [] h = subst (λ bs. AllZip (TellsBody number seen) bs []) (sym (tells.no_body none)) tt
      no_bodies (b ∷ bodies) h = absurd h
  built_if (Some variables) is own built seen tells =
      let count : opened_count file ≡ length file.told.opened.items =
      ap (λ (v : Option Variables). if is_none v then 0 else length file.told.opened.items) is in
      tell_bodies number file.told variables own
      (zip_kept (IsBuilt files) (TellsAt number file.told variables) number file.told.opened.items own
      (λ i place body is_there one. one file is_file variables is place is_there)
      (subst (λ n. AllZip (IsBuilt files) (numbers_from number 0 n) own) count built))
      seen tells.tells
      (λ at. ap (λ v. ordered_if v at) (sym is) ∙ tells.are_variables at)

  -- what was built of the numbers of a file are its bodies
  own_bodies : (own : List Body) → AllZip (IsBuilt files) (opened_numbers number file) own
      → (seen : Seen) → TellsSeen seen file
      → TellBodies number seen own
  own_bodies = built_if file.variables refl

-- One file after the other

-- the bodies of the files before that number are made, and those of the others are left
pub record AreBuilt (files : List ToldFile) (number : ℕ) (made : List FileBodies) (left : List Body) : Type 0 where
  pub are_made : AreMade HasBodies files number made
  pub are_left : AllZip (IsBuilt files) (each_from opened_numbers number (drop number files)) left

module _ (files : List ToldFile) where
  pub none_built : (made : List FileBodies) (bodies left : List Body) → made ≡ [] → left ≡ bodies
      → AllZip (IsBuilt files) (each_from opened_numbers 0 files) bodies
      → AreBuilt files 0 made left
  none_built made bodies left none same built = record {
    are_made = none_made HasBodies files made none;
    are_left = subst (AllZip (IsBuilt files) (each_from opened_numbers 0 files)) (sym same) built;
  }

  pub file_built : (number : ℕ) (file : ToldFile) (made next : List FileBodies) (k : FileBodies) (own before after : List Body)
      → slice_get files number ≡ Some file
      → before ≡ own ++ after
      → length own ≡ opened_count file
      → next ≡ made ++ k ∷ []
      → ((seen : Seen) → TellsSeen seen file → TellBodies number seen own → HasBodies number seen k)
      → AreBuilt files number made before
      → AreBuilt files (number + 1) next after
  file_built number file made next k own before after is_file sum size grown so h =
      let rest = drop (number + 1) files in
      let here : drop number files ≡ file ∷ rest =
      drop_more files number file (slice_get_within files number file is_file)
      ∙ ap (λ f. f ∷ rest) (get_or_from_slice_get files number file file is_file) in
      let Built : List ToldFile → List Body → Type 0 =
      λ fs bs. AllZip (IsBuilt files) (each_from opened_numbers number fs) bs in
      let left = subst (λ bs. Built (file ∷ rest) bs) sum (subst (λ fs. Built fs before) here h.are_left) in
      let apart = zip_apart (IsBuilt files) (opened_numbers number file) (each_from opened_numbers (number + 1) rest) own after
      (how_many number 0 (opened_count file) ∙ sym size) left in
      record {
        are_made = one_made HasBodies files number made next file k is_file grown
            (λ seen tells. so seen tells (own_bodies files number file is_file own apart.0 seen tells)) h.are_made;
        are_left = apart.1;
      }

  pub all_built : (number : ℕ) (made : List FileBodies) (left : List Body) → length files ≡ number
      → AreBuilt files number made left
      → (seens : List Seen) → TellAllSeen seens files
      → HaveBodies seens made
  all_built number made left size h seens told = record {
    are_as_many = as_many_made HasBodies files number made size h.are_made seens told;
    each = each_made HasBodies files number made size h.are_made seens told;
  }
