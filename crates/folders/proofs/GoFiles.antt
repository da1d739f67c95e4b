-- One more file joins those that were read, and names in their order.
use Rattle.std.proofs.Common.{◌≡◌, ◌≢◌, ◌↔◌, ℕ, ◌≤◌, Bool, true, false, List, [], ◌∷◌, ◌++◌, map, Some, None, Option, IfSome, if◌then◌else◌, codes, nat_eq, option_to_list, string_bytes, string_cmp, string_eq, Contains, IsPermutation, IsSorted, All, refl, ap, ◌∙◌, subst, sym, rules}
use Rattle.std.proofs.lemmas.List.{append-nil, append_assoc, map-append}
use Rattle.std.proofs.lemmas.List.Sorted.{All-permutation, Contains-permutation, IsPermutation-sym}
use Rattle.std.proofs.lemmas.List.Filters.{All-dedup}
use Rattle.std.proofs.lemmas.List.Kept.{Any-dedup, Contains-from_dedup, IsStrictlySortedBy-dedup}
use Rattle.std.specs.Prelude.{String}
use Rattle.std.specs.declared.alloc.Global.{Global}
use Rattle.std.specs.Ordering.{nat_cmp, ordering_then}
use Rattle.std.specs.Cmp.{nat_cmp_is}
use Rattle.std.specs.Cmp.Lexicographic.{slice_cmp, same_text, texts_ties}
use Rattle.std.specs.declared.cmp.Ordering.TheVariants.{the_data as Ordering, Less, Equal}
use Rattle.std.specs.List.{dedup, AllByRecursion}
use Rattle.std.specs.List.Sorted.{IsStrictlySortedBy}
use Rattle.std.specs.String.{string_cmp_total, string_eq_equiv}
use Rattle.std.proofs.lemmas.List.Elements.{All-same, All-append, All-push, All-nil}
use Rattle.std.specs.List.{ends_with}
use Rattle.lexer.specs.declared.source.Source.{Source}
use Rattle.folders.specs.Names.{IsPrintable}
use Rattle.folders.specs.declared.names.TheConstants.{SPACE, DELETE}
use Rattle.folders.proofs.Members.{contains_map, contains_unmap}
use Rattle.folders.specs.GoFiles.{slash_after, source_name, IsGoName, AreGoNames, IsSourceOf, AreSourcesOf}

abbrev IsPrinted : ℕ → Type 0
IsPrinted b = (SPACE ≤ b) × (b ≢ DELETE)

slash_is_printable : (ends : Bool) → IsPrintable (if ends then [] else codes "/")
slash_is_printable true = All-nil IsPrinted
slash_is_printable false = All-push IsPrinted [] 47 (All-nil IsPrinted) (search rules)

-- a report can print a file's name if it can print the folder's and the file's own
printable_source : (folder name : List ℕ) → IsPrintable folder → IsPrintable name → IsPrintable (source_name folder name)
printable_source folder name outer own =
    All-append IsPrinted folder (slash_after folder ++ name) outer (All-append IsPrinted (slash_after folder) name (slash_is_printable (ends_with nat_eq folder (codes "/"))) own)

read_is : (folder name : List ℕ) (read : Option Source) → IsPrintable folder → IsGoName name → IfSome read (λ s. string_bytes s.name ≡ source_name folder name) → All (IsSourceOf folder) (option_to_list read)
read_is folder name None outer go named = All-nil (IsSourceOf folder)
read_is folder name (Some source) outer go named =
    let printable = subst IsPrintable (sym named) (printable_source folder name outer go.1) in
    All-push (IsSourceOf folder) [] source (All-nil (IsSourceOf folder)) (record { name = name; go = go.0; named = named; printable = printable })

-- Names in their order

abbrev Text : Type 0
Text = String Global

abbrev by_bytes : List ℕ → List ℕ → Ordering
by_bytes = slice_cmp nat_cmp

same_order : (front x y : List ℕ) → by_bytes (front ++ x) (front ++ y) ≡ by_bytes x y
same_order [] x y = refl
same_order (b ∷ bs) x y =
    ap (λ o. ordering_then o (by_bytes (bs ++ x) (bs ++ y))) (sym (nat_cmp_is b b Equal refl)) ∙ same_order bs x y

full_order : (folder x y : List ℕ) → by_bytes (source_name folder x) (source_name folder y) ≡ by_bytes x y
full_order folder x y =
    same_order folder (slash_after folder ++ x) (slash_after folder ++ y) ∙ same_order (slash_after folder) x y

-- the names of sources, and those that files of the folder will have
abbrev read_names : List Source → List (List ℕ)
read_names sources = map (λ s. string_bytes s.name) sources

abbrev full_names : List ℕ → List Text → List (List ℕ)
full_names folder names = map (λ n. source_name folder (string_bytes n)) names

below_full : (folder : List ℕ) (n : Text) (ns : List Text) → AllByRecursion (λ m. string_cmp n m ≡ Less) ns
    → AllByRecursion (λ m. by_bytes (source_name folder (string_bytes n)) m ≡ Less) (full_names folder ns)
below_full folder n [] h = tt
below_full folder n (m ∷ ms) h =
    (full_order folder (string_bytes n) (string_bytes m) ∙ h.0, below_full folder n ms h.1)

ascend_full : (folder : List ℕ) (ns : List Text) → IsStrictlySortedBy string_cmp ns
    → IsStrictlySortedBy by_bytes (full_names folder ns)
unfolding IsStrictlySortedBy
ascend_full folder [] h = tt
ascend_full folder (n ∷ ns) h = (below_full folder n ns h.0, ascend_full folder ns h.1)

-- one name is left out
below_rest : (x y : List ℕ) (front rest : List (List ℕ)) → AllByRecursion (λ m. by_bytes x m ≡ Less) (front ++ y ∷ rest)
    → AllByRecursion (λ m. by_bytes x m ≡ Less) (front ++ rest)
below_rest x y [] rest h = h.1
below_rest x y (n ∷ ns) rest h = (h.0, below_rest x y ns rest h.1)

left_out : (y : List ℕ) (front rest : List (List ℕ)) → IsStrictlySortedBy by_bytes (front ++ y ∷ rest)
    → IsStrictlySortedBy by_bytes (front ++ rest)
unfolding IsStrictlySortedBy
left_out y [] rest h = h.1
left_out y (n ∷ ns) rest h = (below_rest n y ns rest h.0, left_out y ns rest h.1)

below_texts : (x : Source) (xs : List Source) → AllByRecursion (λ m. by_bytes (string_bytes x.name) m ≡ Less) (read_names xs)
    → AllByRecursion (λ m. string_cmp x.name m ≡ Less) (map (λ s. s.name) xs)
below_texts x [] h = tt
below_texts x (y ∷ ys) h = (h.0, below_texts x ys h.1)

ascend_texts : (xs : List Source) → IsStrictlySortedBy by_bytes (read_names xs)
    → IsStrictlySortedBy string_cmp (map (λ s. s.name) xs)
unfolding IsStrictlySortedBy
ascend_texts [] h = tt
ascend_texts (x ∷ xs) h = (below_texts x xs h.0, ascend_texts xs h.1)

-- names that are sorted, and then each once
pub in_order : (names sorted once : List Text) → IsPermutation names sorted → IsSorted string_cmp sorted
    → once ≡ dedup string_eq sorted
    → IsStrictlySortedBy string_cmp once
in_order names sorted once moved ordered is =
    subst (IsStrictlySortedBy string_cmp) (sym is)
    (IsStrictlySortedBy-dedup string_cmp_total (λ x y. texts_ties (string_bytes x) (string_bytes y)) sorted ordered)

pub same_names : (names sorted once : List Text) → IsPermutation names sorted → once ≡ dedup string_eq sorted
    → (name : List ℕ)
    → Contains (map string_bytes once) name ↔ Contains (map string_bytes names) name
same_names names sorted once moved is name =
    subst (λ l. Contains (map string_bytes l) name ↔ Contains (map string_bytes names) name) (sym is) (
      λ h. (let found = contains_unmap string_bytes (dedup string_eq sorted) name h in
          let kept = Contains-permutation sorted names found.0 (IsPermutation-sym names sorted moved) (Contains-from_dedup string_eq sorted found.0 found.1) in
          subst (Contains (map string_bytes names)) found.2 (contains_map string_bytes names found.0 kept)),
      λ h. (let found = contains_unmap string_bytes names name h in
          let any = Any-dedup string_eq_equiv sorted found.0 (Contains-permutation names sorted found.0 moved found.1) in
          subst (Contains (map string_bytes (dedup string_eq sorted)))
          (sym (same_text (string_bytes found.0) (string_bytes any.1) (sym any.4)) ∙ found.2)
          (contains_map string_bytes (dedup string_eq sorted) any.1 (any.0, any.2, any.3))),
    )

pub still_go : (names sorted once : List Text) → IsPermutation names sorted → once ≡ dedup string_eq sorted
    → AreGoNames names
    → AreGoNames once
still_go names sorted once moved is go =
    subst AreGoNames (sym is)
    (All-dedup string_eq (λ n. IsGoName (string_bytes n)) sorted
    (All-permutation (λ n. IsGoName (string_bytes n)) names sorted moved go))

-- the sources so far, and the names of files that are left
pub record AreSourcesSo (folder : List ℕ) (sources : List Source) (left : List Text) : Type 0 where
  pub each : All (IsSourceOf folder) sources
  pub ascend : IsStrictlySortedBy by_bytes (read_names sources ++ full_names folder left)

pub no_sources : (folder : List ℕ) (sources : List Source) (names : List Text) → sources ≡ []
    → IsStrictlySortedBy string_cmp names
    → AreSourcesSo folder sources names
no_sources folder sources names none ascend = record {
  each = subst (All (IsSourceOf folder)) (sym none) (All-nil (IsSourceOf folder));
  ascend =
      subst (λ l. IsStrictlySortedBy by_bytes (read_names l ++ full_names folder names)) (sym none)
      (ascend_full folder names ascend);
}

next_ascends : (folder : List ℕ) (name : Text) (left : List Text) (old : List Source) (read : Option Source)
    → IfSome read (λ s. string_bytes s.name ≡ source_name folder (string_bytes name))
    → IsStrictlySortedBy by_bytes (read_names old ++ full_names folder (name ∷ left))
    → IsStrictlySortedBy by_bytes (read_names (old ++ option_to_list read) ++ full_names folder left)
next_ascends folder name left old None named ascend =
    subst (λ l. IsStrictlySortedBy by_bytes (read_names l ++ full_names folder left)) (sym (append-nil old))
    (left_out (source_name folder (string_bytes name)) (read_names old) (full_names folder left) ascend)
next_ascends folder name left old (Some source) named ascend =
    subst (IsStrictlySortedBy by_bytes)
    ((λ i. read_names old ++ (sym named i ∷ full_names folder left))
    ∙ (sym (append_assoc (read_names old) (string_bytes source.name ∷ []) (full_names folder left))
    ∙ ap (λ l. l ++ full_names folder left) (sym (map-append (λ (s : Source). string_bytes s.name) old (source ∷ [])))))
    ascend

pub sources_more : (folder : List ℕ) (name : Text) (before left : List Text) (old new : List Source) (read : Option Source)
    → before ≡ name ∷ left
    → AreSourcesSo folder old before
    → new ≡ old ++ option_to_list read
    → IsPrintable folder
    → IsGoName (string_bytes name)
    → IfSome read (λ s. string_bytes s.name ≡ source_name folder (string_bytes name))
    → AreSourcesSo folder new left
sources_more folder name before left old new read is so e outer go named = record {
  each =
      All-same (IsSourceOf folder) new (old ++ option_to_list read) e
      (All-append (IsSourceOf folder) old (option_to_list read) so.each (read_is folder (string_bytes name) read outer go named));
  ascend =
      subst (λ l. IsStrictlySortedBy by_bytes (read_names l ++ full_names folder left)) (sym e)
      (next_ascends folder name left old read named
      (subst (λ l. IsStrictlySortedBy by_bytes (read_names old ++ full_names folder l)) is so.ascend));
}

pub all_sources : (folder : List ℕ) (sources : List Source) (left : List Text) → left ≡ [] → AreSourcesSo folder sources left
    → AreSourcesOf folder sources
all_sources folder sources left none so = record {
  each = so.each;
  ascend =
      ascend_texts sources
      (subst (IsStrictlySortedBy by_bytes)
      ((λ i. read_names sources ++ full_names folder (none i)) ∙ append-nil (read_names sources))
      so.ascend);
}
