-- Entries that are added one part after the other.
use Rattle.std.proofs.Common.{◌≡◌, ℕ, zero, suc, ◌+◌, Bool, List, [], ◌∷◌, ◌++◌, drop, Some, Result, Ok, Err, OnOk, sym, ap, ◌∙◌, subst, arith}
use Rattle.std.specs.Prelude.{slice_get}
use Rattle.std.proofs.lemmas.List.{append-nil, append_assoc}
use Rattle.std.proofs.lemmas.Option.{none-some, same_Some}
use Rattle.all_certificates.specs.AddedEntries.{Adds}
use Rattle.all_certificates.specs.CertifiedBodies.{InTurn, no_item, item_and, AreOfFile, AreOfFiles, no_file, file_and}
use Rattle.certificate_json.specs.Certificates.{BodyEntry}
use Rattle.meaning.specs.Uses.{Callee}
use Rattle.meaning_packages.specs.CallsFlags.{FileWithCredits}

-- what follows where there is an answer
pub on_ok : {T E : Type 0} {P Q : Type 0} (r : Result T E) → (P → Q) → OnOk r P → OnOk r Q
on_ok (Ok t) f h = f h
on_ok (Err e) f h = h

grown : (so_far own rest next : List BodyEntry) → next ≡ so_far ++ own → so_far ++ (own ++ rest) ≡ next ++ rest
grown so_far own rest next is = sym (append_assoc so_far own rest) ∙ ap (λ es. es ++ rest) (sym is)

-- what is left of a list from a place on
pub rest_from : {A : Type 0} (xs : List A) (i : ℕ) (x : A) → slice_get xs i ≡ Some x → drop i xs ≡ x ∷ drop (i + 1) xs
rest_from [] i x is = absurd (none-some x is)
rest_from (y ∷ ys) zero x is = ap (λ z. z ∷ ys) (same_Some y x is)
rest_from (y ∷ ys) (suc i) x is =
    let e : suc (i + 1) ≡ suc i + 1 = omega arith in rest_from ys i x is ∙ ap (λ n. x ∷ drop n (y ∷ ys)) e

-- Items

-- what was added, with what the items have that are left, is what all have
pub record AddsOn {A : Type 0} (Has : A → List BodyEntry → Type 0) (all left : List A) (before now : List BodyEntry)
    : Type 0 where
  pub so_far : List BodyEntry
  pub goes_on : (rest : List BodyEntry) → InTurn Has left rest → InTurn Has all (so_far ++ rest)
  pub is_sum : now ≡ before ++ so_far

module _ {A : Type 0} (Has : A → List BodyEntry → Type 0) (all : List A) (before : List BodyEntry) where
  pub adds_first : AddsOn Has all all before before
  adds_first = record { so_far = []; goes_on = λ rest h. h; is_sum = sym (append-nil before) }

  pub adds_next : (a : A) (left here : List A) (now next : List BodyEntry) → here ≡ a ∷ left
      → Adds (Has a) now next
      → AddsOn Has all here before now
      → AddsOn Has all left before next
  adds_next a left here now next is adds on = record {
    so_far = on.so_far ++ adds.added;
    goes_on = λ rest h.
        subst (InTurn Has all) (sym (append_assoc on.so_far adds.added rest))
        (on.goes_on (adds.added ++ rest)
        (subst (λ items. InTurn Has items (adds.added ++ rest)) (sym is) (item_and adds.are_added h)));
    is_sum =
        adds.is_sum
        ∙ (ap (λ es. es ++ adds.added) on.is_sum ∙ append_assoc before on.so_far adds.added);
  }

  pub adds_all : (left : List A) (now : List BodyEntry) → left ≡ [] → AddsOn Has all left before now
      → Adds (InTurn Has all) before now
  adds_all left now none on = record {
    added = on.so_far;
    are_added =
        subst (InTurn Has all) (append-nil on.so_far)
        (on.goes_on [] (subst (λ items. InTurn Has items []) (sym none) no_item));
    is_sum = on.is_sum;
  }

-- Files

module _ (calls : Callee → ℕ → Bool) (fs : List FileWithCredits) where
  -- the entries so far, with those of the files that are left, are those of all
  abbrev pub FilesOn : ℕ → List FileWithCredits → List BodyEntry → Type 0
  FilesOn number left entries =
      (rest : List BodyEntry) → AreOfFiles calls number left rest → AreOfFiles calls 0 fs (entries ++ rest)

  pub files_first : (entries : List BodyEntry) → entries ≡ [] → FilesOn 0 fs entries
  files_first entries none rest h = subst (λ es. AreOfFiles calls 0 fs (es ++ rest)) (sym none) h

  pub files_next : (number : ℕ) (f : FileWithCredits) (left here : List FileWithCredits) (entries next : List BodyEntry)
      → here ≡ f ∷ left
      → Adds (AreOfFile calls number f) entries next
      → FilesOn number here entries
      → FilesOn (number + 1) left next
  files_next number f left here entries next is adds on rest h =
      subst (AreOfFiles calls 0 fs) (grown entries adds.added rest next adds.is_sum)
      (on (adds.added ++ rest)
      (subst (λ files. AreOfFiles calls number files (adds.added ++ rest)) (sym is) (file_and adds.are_added h)))

  pub files_all : (number : ℕ) (left : List FileWithCredits) (entries : List BodyEntry) → left ≡ []
      → FilesOn number left entries
      → AreOfFiles calls 0 fs entries
  files_all number left entries none on =
      subst (AreOfFiles calls 0 fs) (append-nil entries)
      (on [] (subst (λ files. AreOfFiles calls number files []) (sym none) no_file))
