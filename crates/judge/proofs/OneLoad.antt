-- Given packages are loaded in one way, but for the reasons why files that have tokens have no tree: in one order of
-- their paths, each with its sources in one order of their names, and with the same of each text.
use Rattle.std.proofs.Common.{◌≡◌, ℕ, zero, suc, ◌+◌, ◌⊎◌, inl, inr, Bool, false, List, [], ◌∷◌, map, Some, None, Contains, true≢false, refl, sym, ap, ◌∙◌, subst, arith}
use Rattle.std.specs.Prelude.{slice_get, slice_index_or, string_bytes, string_cmp, IsSorted}
use Rattle.std.specs.Cmp.{IsStrictWeakOrder}
use Rattle.std.specs.List.Sorted.{IsSortedBy}
use Rattle.std.specs.Ordering.{is_lt, ordering_reverse}
use Rattle.std.specs.String.{string_cmp_total}
use Rattle.std.specs.declared.cmp.Ordering.TheVariants.{the_data as Ordering, Less, Equal, Greater}
use Rattle.std.proofs.lemmas.List.{length-map}
use Rattle.std.proofs.lemmas.List.Sorted.{ranks_by, Contains-permutation, IsPermutation-sym}
use Rattle.std.proofs.lemmas.Map.Lookups.{exact_bytes}
use Rattle.lexer.specs.declared.fault.LexFault.{LexFault}
use Rattle.lexer.specs.declared.fault.LexFault.TheVariants as lex_fault
use Rattle.lexer.specs.declared.source.Source.{Source}
use Rattle.lexer.proofs.Outcomes.{one_outcome, one_fault}
use Rattle.meaning.proofs.Membership.{contains_nil, contains_cases}
use Rattle.report.specs.declared.codes.TextFault.{TextFault}
use Rattle.report.specs.declared.codes.TextFault.TheVariants.{NotUtf8, Nul, UnclosedString, UnclosedComment, UnclosedRune, UnknownCharacter, TooLong}
use Rattle.tree.specs.declared.edition.Edition.{Edition}
use Rattle.tree_reader.proofs.OneTree.{one_tree}
use Rattle.meaning_reports.specs.Loaded.{Reading, has_tree, has_text_fault, has_tree_fault, LoadedPackage}
use Rattle.meaning_reports.proofs.EntryOrder.{AreInOrder, one_list}
use Rattle.whole_packages.specs.declared.loaded_package.LoadedPackage.{LoadedPackage as KeptPackage}
use Rattle.whole_packages.specs.LoadedViews.{HaveDistinctPaths}
use Rattle.meaning_reports.specs.MeantImports.{with_meant_imports}
use Rattle.load.specs.GivenPackages.{Text, PathAndFiles, paths_of, AreLoaded, IsLoadOf}
use Rattle.load.specs.MeantPaths.{MeantPath, meant_path}
use Rattle.load.specs.Readings.{IsFaultAt, IsReadingOf, AreReadingsOf, IsLoadedAs}
use Rattle.load.proofs.OneOrder.{In, rest_sorted, least, by_name_is_one}

-- One order

abbrev path_of : PathAndFiles → Text
path_of e = e.0

abbrev comes_first : PathAndFiles → PathAndFiles → Bool
comes_first a b = is_lt (string_cmp a.0 b.0)

by_path : IsStrictWeakOrder comes_first
by_path = ranks_by string_cmp_total path_of

record Before (a b : PathAndFiles) : Type 0 where
  in_order : comes_first b a ≡ false
  apart : string_bytes a.0 ≡ string_bytes b.0 → ⊥

same_path : (a b : PathAndFiles) → comes_first a b ≡ false → comes_first b a ≡ false → string_bytes a.0 ≡ string_bytes b.0
same_path a b h k = by (string_cmp a.0 b.0) refl
  where
    by : (r : Ordering) → string_cmp a.0 b.0 ≡ r → string_bytes a.0 ≡ string_bytes b.0
    by Less e = absurd (true≢false (sym (ap is_lt e) ∙ h))
    by Equal e = exact_bytes (string_bytes a.0) (string_bytes b.0) e
    by Greater e = absurd (true≢false (sym (ap is_lt (string_cmp_total.antisymm b.0 a.0 ∙ ap ordering_reverse e)) ∙ k))

not_both : (a b : PathAndFiles) → Before a b → Before b a → ⊥
not_both a b h k = h.apart (same_path a b k.in_order h.in_order)

index_of_path : (es : List PathAndFiles) (k : ℕ) (d : PathAndFiles)
    → slice_index_or (map path_of es) k (path_of d) ≡ path_of (slice_index_or es k d)
index_of_path [] k d = refl
index_of_path (e ∷ es) zero d = refl
index_of_path (e ∷ es) (suc k) d = index_of_path es k d

sorted_by_path : (es : List PathAndFiles) → IsSorted string_cmp (map path_of es) → IsSortedBy comes_first es
sorted_by_path es h k d low within =
    let long = length-map es path_of in
    (λ i. is_lt (string_cmp (sym (index_of_path es (k + 1) d) i) (sym (index_of_path es k d) i)))
    ∙ h k (path_of d) low (omega (arith, within, long))

in_list : (z : PathAndFiles) (es : List PathAndFiles) → Contains es z → In z es
in_list z [] h = absurd (contains_nil z h)
in_list z (e ∷ es) h = elim (contains_cases e z es h) [ inl same ↦ inl same | inr later ↦ inr (in_list z es later) ]

no_other_path : (e : PathAndFiles) (p : LoadedPackage) (es : List PathAndFiles) (ps : List LoadedPackage)
    (ks : List KeptPackage)
    → p.path ≡ string_bytes e.0
    → AreLoaded es ps ks
    → ((j : ℕ) (q : LoadedPackage) → slice_get ps j ≡ Some q → p.path ≡ q.path → ⊥)
    → (z : PathAndFiles)
    → Contains es z
    → string_bytes e.0 ≡ string_bytes z.0
    → ⊥
no_other_path e p [] ps ks is h others z among same = contains_nil z among
no_other_path e p (f ∷ es) [] ks is h others z among same = absurd h
no_other_path e p (f ∷ es) (q ∷ ps) [] is h others z among same = absurd h
no_other_path e p (f ∷ es) (q ∷ ps) (k ∷ ks) is h others z among same = elim (contains_cases f z es among) [
  | inl first ↦
      others 0 q refl (is ∙ (same ∙ (ap (λ (x : PathAndFiles). string_bytes x.0) (sym first) ∙ sym h.0.is_path)))
  | inr later ↦ no_other_path e p es ps ks is h.1 (λ j r. others (suc j) r) z later same
]

rising : (es : List PathAndFiles) (ps : List LoadedPackage) (ks : List KeptPackage) → AreLoaded es ps ks
    → HaveDistinctPaths ps
    → IsSortedBy comes_first es
    → AreInOrder Before es
rising [] ps ks h d s = tt
rising (e ∷ es) [] ks h d s = absurd h
rising (e ∷ es) (p ∷ ps) [] h d s = absurd h
rising (e ∷ es) (p ∷ ps) (k ∷ ks) h d s = (
  λ z among. record {
    in_order = least comes_first by_path e es s z (inr (in_list z es among));
    apart = no_other_path e p es ps ks h.0.is_path h.1
        (λ j q is eq. let bad = d.same 0 (suc j) p q refl is eq in omega (arith, bad)) z among;
  },
  rising es ps ks h.1
      record { same = λ i j q r is that eq. let one = d.same (suc i) (suc j) q r is that eq in omega (arith, one) }
      (rest_sorted comes_first by_path e es s),
)

pub one_order : (given : List PathAndFiles) (kept others : List KeptPackage) (h : IsLoadOf given kept) (k : IsLoadOf given others)
    → h.in_order ≡ k.in_order
one_order given kept others h k =
    one_list Before not_both h.in_order k.in_order
    (rising h.in_order h.meant kept h.are_loaded h.distinct (sorted_by_path h.in_order h.sorted))
    (rising k.in_order k.meant others k.are_loaded k.distinct (sorted_by_path k.in_order k.sorted))
    (λ z among. Contains-permutation given k.in_order z k.same
    (Contains-permutation h.in_order given z (IsPermutation-sym given h.in_order h.same) among))
    (λ z among. Contains-permutation given h.in_order z h.same
    (Contains-permutation k.in_order given z (IsPermutation-sym given k.in_order k.same) among))

-- One reading of a text

abbrev kind_of : LexFault → TextFault
kind_of (lex_fault.NotUtf8 at) = NotUtf8
kind_of (lex_fault.Nul at) = Nul
kind_of (lex_fault.UnclosedString at) = UnclosedString
kind_of (lex_fault.UnclosedComment at) = UnclosedComment
kind_of (lex_fault.UnclosedRune at) = UnclosedRune
kind_of (lex_fault.UnknownCharacter at) = UnknownCharacter
kind_of lex_fault.TooLong = TooLong
kind_of lex_fault.OutOfMemory = TooLong

abbrev offset_of : LexFault → ℕ
offset_of (lex_fault.NotUtf8 at) = at
offset_of (lex_fault.Nul at) = at
offset_of (lex_fault.UnclosedString at) = at
offset_of (lex_fault.UnclosedComment at) = at
offset_of (lex_fault.UnclosedRune at) = at
offset_of (lex_fault.UnknownCharacter at) = at
offset_of lex_fault.TooLong = 0
offset_of lex_fault.OutOfMemory = 0

told : (f : LexFault) (at : ℕ) (why : TextFault) → IsFaultAt f at why → (kind_of f ≡ why) × (offset_of f ≡ at)
told f at NotUtf8 h = (ap kind_of h.fault_there, ap offset_of h.fault_there)
told f at Nul h = (ap kind_of h.fault_there, ap offset_of h.fault_there)
told f at UnclosedString h = (ap kind_of h.fault_there, ap offset_of h.fault_there)
told f at UnclosedComment h = (ap kind_of h.fault_there, ap offset_of h.fault_there)
told f at UnclosedRune h = (ap kind_of h.fault_there, ap offset_of h.fault_there)
told f at UnknownCharacter h = (ap kind_of h.fault_there, ap offset_of h.fault_there)
told f at TooLong h = (ap kind_of h.fault_there, ap offset_of h.fault_there ∙ sym (h.at_start refl))

abbrev pub HasTreeFault : Reading → Type 0
HasTreeFault (has_tree tree) = ⊥
HasTreeFault (has_text_fault at why) = ⊥
HasTreeFault (has_tree_fault at why) = Unit {0}

pub one_reading : (edition : Edition) (paths : List MeantPath) (text : List ℕ) (r s : Reading)
    → IsReadingOf edition paths text r
    → IsReadingOf edition paths text s
    → (r ≡ s) ⊎ (HasTreeFault r × HasTreeFault s)
one_reading edition paths text (has_tree t) (has_tree u) h k =
    let one = one_tree edition text h.written k.written h.is_tree k.is_tree in
    inl (ap has_tree (sym h.same ∙ (ap (with_meant_imports (meant_path edition paths)) one ∙ k.same)))
one_reading edition paths text (has_tree t) (has_text_fault at why) h k =
    absurd (one_outcome text h.is_tree.tokens k.0 h.is_tree.cut k.1)
one_reading edition paths text (has_tree t) (has_tree_fault at why) h k = absurd (k.no_tree h.written h.is_tree)
one_reading edition paths text (has_text_fault at why) (has_tree u) h k =
    absurd (one_outcome text k.is_tree.tokens h.0 k.is_tree.cut h.1)
one_reading edition paths text (has_text_fault at why) (has_text_fault place reason) h k =
    let same = one_fault text h.0 k.0 h.1 k.1 in
    let one = told h.0 at why h.2 in
    let other = told k.0 place reason k.2 in
    let kind = sym one.0 ∙ (ap kind_of same ∙ other.0) in
    let offset = sym one.1 ∙ (ap offset_of same ∙ other.1) in
    inl (λ i. has_text_fault (offset i) (kind i))
one_reading edition paths text (has_text_fault at why) (has_tree_fault place reason) h k = absurd (one_outcome text k.tokens h.0 k.cut h.1)
one_reading edition paths text (has_tree_fault at why) (has_tree u) h k = absurd (h.no_tree k.written k.is_tree)
one_reading edition paths text (has_tree_fault at why) (has_text_fault place reason) h k = absurd (one_outcome text h.tokens k.0 h.cut k.1)
one_reading edition paths text (has_tree_fault at why) (has_tree_fault place reason) h k = inr (tt, tt)

-- some file has tokens and no tree
pub record HasNoTree (rs : List Reading) : Type 0 where
  pub place : ℕ
  pub reading : Reading
  pub is_there : slice_get rs place ≡ Some reading
  pub is_fault : HasTreeFault reading

later_file : (r : Reading) (rs : List Reading) → HasNoTree rs → HasNoTree (r ∷ rs)
later_file r rs h = record { place = suc h.place; reading = h.reading; is_there = h.is_there; is_fault = h.is_fault }

readings : (edition : Edition) (paths : List MeantPath) (sources : List Source) (rs ss : List Reading)
    → AreReadingsOf edition paths sources rs
    → AreReadingsOf edition paths sources ss
    → (rs ≡ ss) ⊎ (HasNoTree rs × HasNoTree ss)
readings edition paths [] [] [] h k = inl refl
readings edition paths [] [] (s ∷ ss) h k = absurd k
readings edition paths [] (r ∷ rs) ss h k = absurd h
readings edition paths (x ∷ xs) [] ss h k = absurd h
readings edition paths (x ∷ xs) (r ∷ rs) [] h k = absurd k
readings edition paths (x ∷ xs) (r ∷ rs) (s ∷ ss) h k =
    by (one_reading edition paths x.bytes.items r s h.0 k.0) (readings edition paths xs rs ss h.1 k.1)
  where
    by : (r ≡ s) ⊎ (HasTreeFault r × HasTreeFault s) → (rs ≡ ss) ⊎ (HasNoTree rs × HasNoTree ss)
        → ((r ∷ rs) ≡ (s ∷ ss)) ⊎ (HasNoTree (r ∷ rs) × HasNoTree (s ∷ ss))
    by (inr f) rest = inr (
      record { place = 0; reading = r; is_there = refl; is_fault = f.0 },
      record { place = 0; reading = s; is_there = refl; is_fault = f.1 },
    )
    by (inl e) (inr f) = inr (later_file r rs f.0, later_file s ss f.1)
    by (inl e) (inl f) = inl (λ i. e i ∷ f i)

-- One way

-- some package has such a file
pub record HasNoTreeIn (ps : List LoadedPackage) : Type 0 where
  pub place : ℕ
  pub loaded : LoadedPackage
  pub is_there : slice_get ps place ≡ Some loaded
  pub file : HasNoTree loaded.files

later_package : (p : LoadedPackage) (ps : List LoadedPackage) → HasNoTreeIn ps → HasNoTreeIn (p ∷ ps)
later_package p ps h = record { place = suc h.place; loaded = h.loaded; is_there = h.is_there; file = h.file }

one_package : (edition : Edition) (path : List ℕ) (paths : List MeantPath) (sources : List Source)
    (p q : LoadedPackage) (k l : KeptPackage)
    → IsLoadedAs edition path paths sources p k
    → IsLoadedAs edition path paths sources q l
    → (k.sources.items ≡ l.sources.items) × ((p ≡ q) ⊎ (HasNoTree p.files × HasNoTree q.files))
one_package edition path paths sources p q k l h m = (
  same,
  by (readings edition paths k.sources.items p.files q.files h.are_files
      (subst (λ (s : List Source). AreReadingsOf edition paths s q.files) (sym same) m.are_files)),
)
  where
    same : k.sources.items ≡ l.sources.items
    same = by_name_is_one sources k.sources.items l.sources.items h.by_name m.by_name

    by : (p.files ≡ q.files) ⊎ (HasNoTree p.files × HasNoTree q.files) → (p ≡ q) ⊎ (HasNoTree p.files × HasNoTree q.files)
    by (inl e) = inl (λ i. record {
      path = (h.is_path ∙ sym m.is_path) i;
      edition = (h.is_edition ∙ sym m.is_edition) i;
      files = e i;
    })
    by (inr f) = inr f

pub one_way : (es : List PathAndFiles) (ps qs : List LoadedPackage) (ks ls : List KeptPackage)
    → AreLoaded es ps ks
    → AreLoaded es qs ls
    → (ps ≡ qs) ⊎ (HasNoTreeIn ps × HasNoTreeIn qs)
one_way [] [] [] ks ls h m = inl refl
one_way [] [] (q ∷ qs) ks ls h m = absurd m
one_way [] (p ∷ ps) qs ks ls h m = absurd h
one_way (e ∷ es) [] qs ks ls h m = absurd h
one_way (e ∷ es) (p ∷ ps) [] ks ls h m = absurd m
one_way (e ∷ es) (p ∷ ps) (q ∷ qs) [] ls h m = absurd h
one_way (e ∷ es) (p ∷ ps) (q ∷ qs) (k ∷ ks) [] h m = absurd m
one_way (e ∷ es) (p ∷ ps) (q ∷ qs) (k ∷ ks) (l ∷ ls) h m =
    by (one_package e.1.edition (string_bytes e.0) (paths_of e.1.imports) e.1.sources.items p q k l h.0 m.0).1 (one_way es ps qs ks ls h.1 m.1)
  where
    by : (p ≡ q) ⊎ (HasNoTree p.files × HasNoTree q.files) → (ps ≡ qs) ⊎ (HasNoTreeIn ps × HasNoTreeIn qs)
        → ((p ∷ ps) ≡ (q ∷ qs)) ⊎ (HasNoTreeIn (p ∷ ps) × HasNoTreeIn (q ∷ qs))
    by (inr f) rest = inr (
      record { place = 0; loaded = p; is_there = refl; file = f.0 },
      record { place = 0; loaded = q; is_there = refl; file = f.1 },
    )
    by (inl e) (inr f) = inr (later_package p ps f.0, later_package q qs f.1)
    by (inl e) (inl f) = inl (λ i. e i ∷ f i)

pub one_source : (es : List PathAndFiles) (ps qs : List LoadedPackage) (ks ls : List KeptPackage)
    → AreLoaded es ps ks
    → AreLoaded es qs ls
    → (i : ℕ) (k l : KeptPackage)
    → slice_get ks i ≡ Some k
    → slice_get ls i ≡ Some l
    → k.sources.items ≡ l.sources.items
one_source [] [] [] [] [] h m zero a b is that = let bad : None ≡ Some a = is in cc
one_source [] [] [] [] [] h m (suc i) a b is that = let bad : None ≡ Some a = is in cc
one_source [] [] [] [] (l ∷ ls) h m i a b is that = absurd m
one_source [] [] [] (k ∷ ks) ls h m i a b is that = absurd h
one_source [] [] (q ∷ qs) ks ls h m i a b is that = absurd m
one_source [] (p ∷ ps) qs ks ls h m i a b is that = absurd h
one_source (e ∷ es) [] qs ks ls h m i a b is that = absurd h
one_source (e ∷ es) (p ∷ ps) [] ks ls h m i a b is that = absurd m
one_source (e ∷ es) (p ∷ ps) (q ∷ qs) [] ls h m i a b is that = absurd h
one_source (e ∷ es) (p ∷ ps) (q ∷ qs) (k ∷ ks) [] h m i a b is that = absurd m
one_source (e ∷ es) (p ∷ ps) (q ∷ qs) (k ∷ ks) (l ∷ ls) h m zero a b is that =
    let first : k ≡ a = cc in
    let second : l ≡ b = cc in
    ap (λ (x : KeptPackage). x.sources.items) (sym first)
    ∙ ((one_package e.1.edition (string_bytes e.0) (paths_of e.1.imports) e.1.sources.items p q k l h.0 m.0).0
    ∙ ap (λ (x : KeptPackage). x.sources.items) second)
one_source (e ∷ es) (p ∷ ps) (q ∷ qs) (k ∷ ks) (l ∷ ls) h m (suc i) a b is that =
    one_source es ps qs ks ls h.1 m.1 i a b is that
