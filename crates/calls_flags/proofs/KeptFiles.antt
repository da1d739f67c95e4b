-- What is kept of the files of a package, made one file after the other: what is so of each is so of all. And the files
-- that were seen so, with the credits that are kept.
use Rattle.std.proofs.Common.{◌≡◌, ℕ, zero, suc, ◌+◌, ◌<◌, inl, inr, List, [], ◌∷◌, ◌++◌, map, length, Some, refl, sym, ap, ◌∙◌, subst, arith}
use Rattle.std.specs.Prelude.{slice_get}
use Rattle.std.proofs.lemmas.Option.{none-some, same_Some, slice_get_within}
use Rattle.std.proofs.lemmas.List.{length-append}
use Rattle.meaning.specs.Uses.{Seen}
use Rattle.meaning_packages.specs.CallsFlags.{FileWithCredits}
use Rattle.path_faults.proofs.Places.{element_at}
use Rattle.silent_files.proofs.OneMore.{last_or_before}
use Rattle.calls_flags.specs.declared.told_file.ToldFile.{ToldFile}
use Rattle.calls_flags.specs.declared.file_bodies.FileBodies.{FileBodies}
use Rattle.calls_flags.specs.ToldFiles.{TellsSeen, TellAllSeen}
use Rattle.calls_flags.specs.FilesBodies.{with_credits, with_all_credits, TellsWithCredits, TellAll}

-- The files with the credits that are kept

pub as_seen : (seens : List Seen) (ks : List FileBodies) → length seens ≡ length ks
    → map (λ (f : FileWithCredits). f.seen) (with_all_credits seens ks) ≡ seens
as_seen [] ks size = refl
as_seen (seen ∷ seens) [] size = absurd (omega (arith, size))
as_seen (seen ∷ seens) (k ∷ ks) size = ap (λ ss. seen ∷ ss) (as_seen seens ks (omega (arith, size)))

as_many : (seens : List Seen) (ks : List FileBodies) → length seens ≡ length ks
    → length (with_all_credits seens ks) ≡ length ks
as_many [] [] size = refl
as_many [] (k ∷ ks) size = absurd (omega (arith, size))
as_many (seen ∷ seens) [] size = absurd (omega (arith, size))
as_many (seen ∷ seens) (k ∷ ks) size = let same = as_many seens ks (omega (arith, size)) in omega (arith, same)

record IsSeen (seens : List Seen) (i : ℕ) (file : FileWithCredits) (k : FileBodies) : Type 0 where
  seen : Seen
  is_there : slice_get seens i ≡ Some seen
  is_it : with_credits seen k ≡ file

seen_at : (seens : List Seen) (ks : List FileBodies) (i : ℕ) (file : FileWithCredits) (k : FileBodies)
    → slice_get (with_all_credits seens ks) i ≡ Some file
    → slice_get ks i ≡ Some k
    → IsSeen seens i file k
seen_at [] ks i file k is is_kept = absurd (none-some file is)
seen_at (seen ∷ seens) [] i file k is is_kept = absurd (none-some file is)
seen_at (seen ∷ seens) (t ∷ ks) zero file k is is_kept = record {
  seen = seen;
  is_there = refl;
  is_it = ap (with_credits seen) (sym (same_Some t k is_kept)) ∙ same_Some (with_credits seen t) file is;
}
seen_at (seen ∷ seens) (t ∷ ks) (suc i) file k is is_kept =
    let w = seen_at seens ks i file k is is_kept in
    record { seen = w.seen; is_there = w.is_there; is_it = w.is_it }

-- What is so of each

module _ (IsKept : ℕ → Seen → FileBodies → Type 0) where
  -- it is so of each file that was seen so, and of what is kept of it
  abbrev pub EachKept : List Seen → List FileBodies → Type 0
  EachKept seens ks =
      (i : ℕ) (seen : Seen) (k : FileBodies) → slice_get seens i ≡ Some seen → slice_get ks i ≡ Some k → IsKept i seen k

  -- the bodies of the files before that place are made
  pub record AreMade (files : List ToldFile) (count : ℕ) (made : List FileBodies) : Type 0 where
    pub are_as_many : length made ≡ count
    pub each : (i : ℕ) (file : ToldFile) (k : FileBodies) → slice_get files i ≡ Some file → slice_get made i ≡ Some k
        → (seen : Seen)
        → TellsSeen seen file
        → IsKept i seen k

-- What tells of each file tells of all
pub tell_all : (seens : List Seen) (ks : List FileBodies) → length seens ≡ length ks
    → EachKept (λ i seen k. TellsWithCredits i (with_credits seen k) k) seens ks
    → TellAll (with_all_credits seens ks) ks
tell_all seens ks size each = record {
  are_as_many = as_many seens ks size;
  each = λ i file k is is_kept.
      let w = seen_at seens ks i file k is is_kept in
      subst (λ f. TellsWithCredits i f k) w.is_it (each i w.seen k w.is_there is_kept);
}

-- One file after the other

module _ (IsKept : ℕ → Seen → FileBodies → Type 0) (files : List ToldFile) where
  pub none_made : (made : List FileBodies) → made ≡ [] → AreMade IsKept files 0 made
  none_made made none = record {
    are_as_many = ap length none;
    each = λ i file k is is_made. absurd (none-some k (ap (λ ks. slice_get ks i) (sym none) ∙ is_made));
  }

  pub one_made : (count : ℕ) (made next : List FileBodies) (file : ToldFile) (k : FileBodies)
      → slice_get files count ≡ Some file
      → next ≡ made ++ k ∷ []
      → ((seen : Seen) → TellsSeen seen file → IsKept count seen k)
      → AreMade IsKept files count made
      → AreMade IsKept files (count + 1) next
  one_made count made next file k is_there is_next so h = record {
    are_as_many = ap length is_next ∙ (length-append made (k ∷ []) ∙ ap (λ n. n + 1) h.are_as_many);
    each = λ i f j is is_made seen tells.
        elim (last_or_before made k i j (ap (λ ks. slice_get ks i) (sym is_next) ∙ is_made)) [
          | inl before ↦ h.each i f j is before seen tells
          | inr last ↦ this_one i f j is (last.0 ∙ h.are_as_many) last.1 seen tells
        ];
  }
    where
      this_one : (i : ℕ) (f : ToldFile) (j : FileBodies) → slice_get files i ≡ Some f → i ≡ count → k ≡ j
          → (seen : Seen) → TellsSeen seen f → IsKept i seen j
      this_one i f j is same it seen tells =
          let same_file : f ≡ file = same_Some f file (sym is ∙ ap (slice_get files) same ∙ is_there) in
          subst (λ n. IsKept n seen j) (sym same)
          (subst (IsKept count seen) it (so seen (subst (TellsSeen seen) same_file tells)))

  module _ (count : ℕ) (made : List FileBodies) (size : length files ≡ count) (h : AreMade IsKept files count made)
      (seens : List Seen) (told : TellAllSeen seens files) where
    pub as_many_made : length seens ≡ length made
    as_many_made = told.are_as_many ∙ size ∙ sym h.are_as_many

    pub each_made : EachKept IsKept seens made
    each_made = λ i seen k is is_made.
        let within : i < length files =
        (let l = slice_get_within made i k is_made in omega (arith, l, size, h.are_as_many)) in
        let f = element_at files i within in
        h.each i f.0 k f.2 is_made seen (told.each i seen f.0 is f.2)
