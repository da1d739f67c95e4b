-- The certificates of each body, one list behind the other, are those of all files.
use Rattle.std.proofs.Common.{◌≡◌, ℕ, suc, ◌+◌, Bool, List, [], ◌∷◌, ◌++◌, length, map, Some, refl, sym, ap, ◌∙◌, subst, arith}
use Rattle.std.specs.Prelude.{slice_get, Vec}
use Rattle.std.specs.List.{AllZip}
use Rattle.std.specs.declared.alloc.Global.{Global}
use Rattle.std.proofs.lemmas.List.{map-append, append_assoc}
use Rattle.std.proofs.lemmas.Slice.Zip.{AllZip-long}
use Rattle.all_certificates.specs.AddedEntries.{Adds, AreOfNumber}
use Rattle.all_certificates.specs.CertifiedBodies.{AreOfBody, AreOfFile, AreOfFiles, InTurn, no_item, item_and, no_file, file_and}
use Rattle.bodies.specs.Bodies.{TellsBody}
use Rattle.calls_flags.specs.FilesBodies.{TellAll, TellsWithCredits}
use Rattle.calls_flags.specs.declared.file_bodies.FileBodies.{FileBodies}
use Rattle.certificate_json.specs.Certificates.{BodyEntry, body_of}
use Rattle.certificate_json.specs.declared.certificates.Body.{Body}
use Rattle.meaning.specs.BodyEvents.{bodies_of}
use Rattle.meaning.specs.Uses.{Callee}
use Rattle.meaning_packages.specs.CallsFlags.{FileWithCredits}
use Rattle.package_pieces.proofs.Numbered.{come_zip, zip_kept, zip_first}
use Rattle.package_pieces.specs.Numbers.{kept_numbers, numbers_from}
use Rattle.package_pieces.specs.declared.numbers.BodyNumber.{BodyNumber}
use Rattle.path_faults.specs.FoundFaults.{each_from}
use Rattle.workers.specs.Pieces.{ComeOf, joined}

-- where nothing was there, what was added is all
pub only_added : (AreAdded : List BodyEntry → Type 0) (before after : List BodyEntry) → before ≡ []
    → Adds AreAdded before after
    → AreAdded after
only_added AreAdded before after none adds =
    subst AreAdded (sym (adds.is_sum ∙ ap (λ es. es ++ adds.added) none)) adds.are_added

abbrev Lists : Type 0
Lists = List (Vec Body Global)

joined_both : (lists others : Lists) → joined (lists ++ others) ≡ joined lists ++ joined others
joined_both [] others = refl
joined_both (list ∷ lists) others =
    ap (λ es. list.items ++ es) (joined_both lists others) ∙ sym (append_assoc list.items (joined lists) (joined others))

-- the lists of items, one behind the other, are what each has in turn
in_turn : {A : Type 0} (Has : A → List BodyEntry → Type 0) (items : List A) (lists : Lists)
    → AllZip (λ item (list : Vec Body Global). Has item (map body_of list.items)) items lists
    → InTurn Has items (map body_of (joined lists))
in_turn Has [] [] h = no_item
in_turn Has [] (list ∷ lists) h = absurd h
in_turn Has (item ∷ items) [] h = absurd h
in_turn Has (item ∷ items) (list ∷ lists) h =
    subst (InTurn Has (item ∷ items)) (sym (map-append body_of list.items (joined lists)))
    (item_and h.0 (in_turn Has items lists h.1))

module _ (calls : Callee → ℕ → Bool) (all : List FileBodies) (every : List FileWithCredits) (tell : TellAll every all) where
  -- the certificates of the body of that number
  abbrev pub Certifies : BodyNumber → Vec Body Global → Type 0
  Certifies number own = AreOfNumber calls all number (map body_of own.items)

  of_file : (number : ℕ) (f : FileWithCredits) (k : FileBodies) (own : Lists) → slice_get every number ≡ Some f
      → TellsWithCredits number f k
      → AllZip Certifies (kept_numbers number k) own
      → AreOfFile calls number f (map body_of (joined own))
  of_file number f k own is tells h =
      let bodies = bodies_of f.seen in
      let size : length k.bodies.items ≡ length bodies =
      AllZip-long (TellsBody number f.seen) bodies k.bodies.items tells.are_bodies in
      in_turn (AreOfBody calls f.credits number f.seen) bodies own
      (zip_kept Certifies (λ b (list : Vec Body Global). AreOfBody calls f.credits number f.seen b (map body_of list.items))
      number bodies own
      (λ i b list is_body one. one every tell f is b is_body)
      (subst (λ n. AllZip Certifies (numbers_from number 0 n) own) size h))

  joined_from : (number : ℕ) (fs : List FileWithCredits) (files : List FileBodies) (lists : Lists)
      → length fs ≡ length files
      → ((i : ℕ) (f : FileWithCredits) (k : FileBodies) → slice_get fs i ≡ Some f → slice_get files i ≡ Some k
      → (slice_get every (number + i) ≡ Some f) × TellsWithCredits (number + i) f k)
      → AllZip Certifies (each_from kept_numbers number files) lists
      → AreOfFiles calls number fs (map body_of (joined lists))
  joined_from number [] [] [] size tells h = no_file
  joined_from number [] [] (list ∷ lists) size tells h = absurd h
  joined_from number [] (k ∷ files) lists size tells h = absurd (omega (arith, size))
  joined_from number (f ∷ fs) [] lists size tells h = absurd (omega (arith, size))
  joined_from number (f ∷ fs) (k ∷ files) lists size tells h =
      let cut = zip_first Certifies (kept_numbers number k) (each_from kept_numbers (number + 1) files) lists h in
      let Here : ℕ → Type 0 = λ n. (slice_get every n ≡ Some f) × TellsWithCredits n f k in
      let here : Here number = subst Here (omega arith) (tells 0 f k refl refl) in
      let split = ap joined cut.is_sum ∙ joined_both cut.own cut.rest in
      subst (AreOfFiles calls number (f ∷ fs))
      (sym (ap (map body_of) split ∙ map-append body_of (joined cut.own) (joined cut.rest)))
      (file_and (of_file number f k cut.own here.0 here.1 cut.of_first)
      (joined_from (number + 1) fs files cut.rest (omega (arith, size))
      (λ i g j is is_kept.
      let There : ℕ → Type 0 = λ n. (slice_get every n ≡ Some g) × TellsWithCredits n g j in
      subst There (omega arith) (tells (suc i) g j is is_kept))
      cut.of_rest))

pub entries_joined : (calls : Callee → ℕ → Bool) (fs : List FileWithCredits) (files : List FileBodies)
    (numbers : List BodyNumber) (lists : Lists)
    → numbers ≡ each_from kept_numbers 0 files
    → ComeOf (λ place number (own : Vec Body Global). AreOfNumber calls files number (map body_of own.items)) 0 numbers lists
    → TellAll fs files
    → AreOfFiles calls 0 fs (map body_of (joined lists))
entries_joined calls fs files numbers lists are come tell =
    let Gives : BodyNumber → Vec Body Global → Type 0 = λ number own. AreOfNumber calls files number (map body_of own.items) in
    joined_from calls files fs tell 0 fs files lists tell.are_as_many
    (λ i f k is is_kept.
    let There : ℕ → Type 0 = λ n. (slice_get fs n ≡ Some f) × TellsWithCredits n f k in
    subst There (omega arith) (is, tell.each i f k is is_kept))
    (subst (λ ns. AllZip Gives ns lists) are (come_zip Gives 0 numbers lists come))
