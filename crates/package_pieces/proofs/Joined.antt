-- What is found of each body, with what is said outside of bodies, is what is found of all files.
use Rattle.std.proofs.Common.{◌≡◌, ℕ, zero, suc, inl, inr, Bool, List, [], ◌∷◌, ◌++◌, map, length, Some, Contains, refl, sym, ap, ◌∙◌, subst, arith}
use Rattle.std.specs.Prelude.{◌↔◌, slice_get, Vec}
use Rattle.std.specs.declared.alloc.Global.{Global}
use Rattle.std.proofs.lemmas.List.{map-append}
use Rattle.std.proofs.lemmas.List.Elements.{Contains-append_left, Contains-append_right, Contains-append_cases}
use Rattle.std.proofs.lemmas.Option.{none-some, same_Some, slice_get_within}
use Rattle.std.proofs.lemmas.Slice.Zip.{AllZip-long}
use Rattle.bodies.specs.Bodies.{TellsBody}
use Rattle.calls_flags.specs.FilesBodies.{TellAll, TellsWithCredits}
use Rattle.calls_flags.specs.declared.file_bodies.FileBodies.{FileBodies}
use Rattle.findings.proofs.FoundParts.{file_finding}
use Rattle.findings.specs.FoundEntries.{AddsEntries, IsFoundIn, IsEntryOfBodies, use_entries}
use Rattle.meaning.proofs.Membership.{contains_nil}
use Rattle.meaning.specs.BodyEvents.{bodies_of, outer_faults}
use Rattle.meaning.specs.Uses.{Callee}
use Rattle.meaning_packages.specs.CallsFlags.{FileWithCredits}
use Rattle.package_pieces.proofs.Numbered.{between, number_at}
use Rattle.package_pieces.specs.Found.{AreFoundOf, outer_entries}
use Rattle.package_pieces.specs.Numbers.{kept_numbers}
use Rattle.package_pieces.specs.declared.numbers.BodyNumber.{BodyNumber}
use Rattle.path_faults.proofs.Places.{element_at, place_of, contains_at, given_at, gives_at}
use Rattle.path_faults.specs.FoundFaults.{each_from}
use Rattle.workers.proofs.Parts.{come_as_many, come_at}
use Rattle.workers.specs.Pieces.{ComeOf, joined}
use Rattle.report.specs.Entries.{Entry, entry_of}
use Rattle.report.specs.declared.diagnostics.Diagnostic.{Diagnostic}

abbrev Lists : Type 0
Lists = List (Vec Diagnostic Global)

-- it stands in one of the lists
record IsInOne (lists : Lists) (x : Entry) : Type 0 where
  place : ℕ
  list : Vec Diagnostic Global
  is_list : slice_get lists place ≡ Some list
  is_there : Contains (map entry_of list.items) x

in_one : (lists : Lists) (x : Entry) → Contains (map entry_of (joined lists)) x → IsInOne lists x
in_one [] x h = absurd (contains_nil x h)
in_one (list ∷ lists) x h =
    let split = map-append entry_of list.items (joined lists) in
    elim (Contains-append_cases (map entry_of list.items) (map entry_of (joined lists)) x
    (subst (λ es. Contains es x) split h)) [
      | inl here ↦ record { place = 0; list = list; is_list = refl; is_there = here }
      | inr later ↦
          let w = in_one lists x later in
          record { place = suc w.place; list = w.list; is_list = w.is_list; is_there = w.is_there }
    ]

in_all : (lists : Lists) (x : Entry) (place : ℕ) (list : Vec Diagnostic Global) → slice_get lists place ≡ Some list
    → Contains (map entry_of list.items) x
    → Contains (map entry_of (joined lists)) x
in_all [] x place list is h = absurd (none-some list is)
in_all (own ∷ lists) x zero list is h =
    let split = map-append entry_of own.items (joined lists) in
    subst (λ es. Contains es x) (sym split)
    (Contains-append_left (map entry_of own.items) (map entry_of (joined lists)) x
    (subst (λ (l : Vec Diagnostic Global). Contains (map entry_of l.items) x) (sym (same_Some own list is)) h))
in_all (own ∷ lists) x (suc place) list is h =
    let split = map-append entry_of own.items (joined lists) in
    subst (λ es. Contains es x) (sym split)
    (Contains-append_right (map entry_of own.items) (map entry_of (joined lists)) x (in_all lists x place list is h))

module _ (calls : Callee → ℕ → Bool) (files : List FileBodies) (numbers : List BodyNumber) (lists : Lists)
    (are_numbers : numbers ≡ each_from kept_numbers 0 files)
    (come : ComeOf (λ place number (found : Vec Diagnostic Global). AreFoundOf calls files number found.items) 0 numbers lists)
    (fs : List FileWithCredits) (tell : TellAll fs files) (x : Entry) where
  abbrev Gives : ℕ → BodyNumber → Vec Diagnostic Global → Type 0
  Gives place number found = AreFoundOf calls files number found.items

  -- what is kept of the file of that number
  record IsKept (n : ℕ) (f : FileWithCredits) : Type 0 where
    file : FileBodies
    is_file : slice_get files n ≡ Some file
    tells : TellsWithCredits n f file
    are_as_many : length (bodies_of f.seen) ≡ length file.bodies.items

  kept_at : (n : ℕ) (f : FileWithCredits) → slice_get fs n ≡ Some f → IsKept n f
  kept_at n f is =
      let low = slice_get_within fs n f is in
      let k = element_at files n (let same = tell.are_as_many in omega (arith, same, low)) in
      let tells = tell.each n f k.0 is k.2 in
      record {
        file = k.0;
        is_file = k.2;
        tells = tells;
        are_as_many = sym (AllZip-long (TellsBody n f.seen) (bodies_of f.seen) k.0.bodies.items tells.are_bodies);
      }

  of_body : Contains (map entry_of (joined lists)) x → IsFoundIn fs calls x
  of_body h =
      let one = in_one lists x h in
      let w = come_at Gives 0 numbers lists come one.place one.list one.is_list in
      let number = w.0 in
      let at = given_at kept_numbers files number
      (subst (λ ns. Contains ns number) are_numbers (contains_at numbers one.place number w.1)) in
      let is = between at.place 0 (length at.element.bodies.items) number at.gives in
      let low = slice_get_within files at.place at.element at.is_there in
      let f = element_at fs at.place (let same = tell.are_as_many in omega (arith, same, low)) in
      let tells = tell.each at.place f.0 at.element f.2 at.is_there in
      let size = AllZip-long (TellsBody at.place f.0.seen) (bodies_of f.0.seen) at.element.bodies.items tells.are_bodies in
      let below = is.is_below in
      let b = element_at (bodies_of f.0.seen) number.body (omega (arith, size, below)) in
      let is_file : slice_get fs number.file ≡ Some f.0 = ap (slice_get fs) is.is_file ∙ f.2 in
      let entry = (w.2 fs tell f.0 is_file b.0 b.2 x).0 one.is_there in
      record {
        number = number.file;
        file = f.0;
        is_file = is_file;
        is_finding =
            (file_finding calls number.file f.0 x).0
            (inr (record { body = b.0; is_there = contains_at (bodies_of f.0.seen) number.body b.0 b.2; is_entry = entry }));
      }

  -- what was found of a body by its number
  record IsGiven (number : BodyNumber) (place : ℕ) : Type 0 where
    list : Vec Diagnostic Global
    is_list : slice_get lists place ≡ Some list
    are_found : AreFoundOf calls files number list.items

  given : (number : BodyNumber) (place : ℕ) → slice_get numbers place ≡ Some number → IsGiven number place
  given number place is =
      let low = slice_get_within numbers place number is in
      let list = element_at lists place (let many = come_as_many Gives 0 numbers lists come in omega (arith, many, low)) in
      let w = come_at Gives 0 numbers lists come place list.0 list.2 in
      let Found : BodyNumber → Type 0 = λ t. AreFoundOf calls files t list.0.items in
      record {
        list = list.0;
        is_list = list.2;
        are_found = subst Found (same_Some w.0 number (sym w.1 ∙ is)) w.2;
      }

  to_body : (n : ℕ) (f : FileWithCredits) → slice_get fs n ≡ Some f → IsEntryOfBodies calls n f (bodies_of f.seen) x
      → Contains (map entry_of (joined lists)) x
  to_body n f is h =
      let k = kept_at n f is in
      let m = place_of (bodies_of f.seen) h.body h.is_there in
      let below = slice_get_within (bodies_of f.seen) m.0 h.body m.1 in
      let size = k.are_as_many in
      let number : BodyNumber = record { file = n; body = m.0 } in
      let among = gives_at kept_numbers files number n k.file k.is_file
      (number_at n (length k.file.bodies.items) m.0 (omega (arith, size, below))) in
      let at = place_of numbers number (subst (λ ns. Contains ns number) (sym are_numbers) among) in
      let one = given number at.0 at.1 in
      in_all lists x at.0 one.list one.is_list ((one.are_found fs tell f is h.body m.1 x).1 h.is_entry)

  outer_is : (n : ℕ) (f : FileWithCredits) (k : FileBodies) → TellsWithCredits n f k
      → outer_entries n k ≡ use_entries n (outer_faults f.seen)
  outer_is n f k tells = ap (use_entries n) tells.tells.outer

  of_outer : Contains (each_from outer_entries 0 files) x → IsFoundIn fs calls x
  of_outer h =
      let at = given_at outer_entries files x h in
      let low = slice_get_within files at.place at.element at.is_there in
      let f = element_at fs at.place (let same = tell.are_as_many in omega (arith, same, low)) in
      let same = outer_is at.place f.0 at.element (tell.each at.place f.0 at.element f.2 at.is_there) in
      record {
        number = at.place;
        file = f.0;
        is_file = f.2;
        is_finding = (file_finding calls at.place f.0 x).0 (inl (subst (λ es. Contains es x) same at.gives));
      }

  to_found : IsFoundIn fs calls x → Contains (map entry_of (joined lists) ++ each_from outer_entries 0 files) x
  to_found h =
      let bodies = map entry_of (joined lists) in
      let outer = each_from outer_entries 0 files in
      elim ((file_finding calls h.number h.file x).1 h.is_finding) [
        | inl outside ↦
            let k = kept_at h.number h.file h.is_file in
            Contains-append_right bodies outer x
            (gives_at outer_entries files x h.number k.file k.is_file
            (subst (λ es. Contains es x) (sym (outer_is h.number h.file k.file k.tells)) outside))
        | inr inside ↦ Contains-append_left bodies outer x (to_body h.number h.file h.is_file inside)
      ]

  pub found_joined : (found : List Diagnostic) → map entry_of found ≡ map entry_of (joined lists) ++ each_from outer_entries 0 files
      → Contains (map entry_of found) x ↔ IsFoundIn fs calls x
  found_joined found is = (
    λ h. elim (Contains-append_cases (map entry_of (joined lists)) (each_from outer_entries 0 files) x
        (subst (λ es. Contains es x) is h)) [
          | inl inside ↦ of_body inside
          | inr outside ↦ of_outer outside
        ],
    λ h. subst (λ es. Contains es x) (sym is) (to_found h),
  )

-- where nothing was there, what is added is all
pub only_added : (before after : List Diagnostic) (IsAdded : Entry → Type 0) → before ≡ []
    → AddsEntries before after IsAdded
    → (x : Entry) → Contains (map entry_of after) x ↔ IsAdded x
only_added before after IsAdded none adds x = (
  λ h. elim ((adds x).0 h) [
    | inl there ↦ absurd (contains_nil x (subst (λ ds. Contains (map entry_of ds) x) none there))
    | inr added ↦ added
  ],
  λ added. (adds x).1 (inr added),
)
