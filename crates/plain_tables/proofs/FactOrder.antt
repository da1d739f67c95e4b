-- What a package's table says, as plain values, is in order, and tells something of each function.
use Rattle.std.proofs.Common.{◌≡◌, ◌⊎◌, inl, inr, ℕ, ◌+◌, ◌<◌, ◌≤◌, Bool, true, false, not, ◌&&◌, ◌||◌, List, [], ◌∷◌, ◌++◌, map, length, Option, None, Some, Contains, true≢false, refl, sym, ap, ◌∙◌, subst, arith}
use Rattle.std.specs.Prelude.{◌==◌, ◌^◌, if◌then◌else◌, flat_map, option_map, nat_lt}
use Rattle.std.specs.List.{AllByRecursion, list_all, list_any}
use Rattle.std.specs.List.Sorted.{IsStrictlySortedBy}
use Rattle.std.specs.Str.{bytes_eq}
use Rattle.std.specs.declared.cmp.Ordering.TheVariants.{Less}
use Rattle.std.specs.Ordering.{nat_cmp}
use Rattle.std.proofs.lemmas.Bool.{and_from, eqb-true}
use Rattle.std.proofs.lemmas.List.Elements.{Contains-append_cases}
use Rattle.tree.specs.declared.edition.Edition.{Edition}
use Rattle.tree.specs.declared.edition.Edition.TheVariants.{First, Second}
use Rattle.tree.specs.Syntax.{Signature, signature_of, Function, TopLevelDeclaration, function_declaration, general_declaration, SourceFile}
use Rattle.meaning.specs.OuterBlocks.{can_be_meant, or_else}
use Rattle.meaning.specs.FunctionFacts.{Meanings, CancelType, plain, with_cause, is_same_type, TrackedType, cancel_type, group_type, Item, item_type, items_of, TrackedParameter, CancelResult, FunctionFacts, parameter_at, tracked_parameters, given_at, cancel_results, signature_facts, function_facts, facts_in, facts_from}
use Rattle.meaning.proofs.Membership.{contains_nil, contains_here, contains_there, contains_cases}
use Rattle.meaning_reports.specs.Loaded.{LoadedPackage, PackageTable, Tables, means_in, trees_of}
use Rattle.meaning_reports.specs.PackageTables.{IsTable, empty, full}
use Rattle.table_json.specs.Tables.{Entry, Rise, HasOrder, IsInOrder, are_apart, by_bytes, itself, name_of, position_of}
use Rattle.table_json.specs.WrittenTables.{says_something}
use Rattle.plain_tables.specs.Tables.{as_list, position_told, parameter_kept, parameter_told, result_told, entry_told, is_none_of, if_told, entries_with, entries_for, IsPlain}
use Rattle.plain_tables.proofs.RisingLists.{is_less, IsThinned, rise_left}

-- Positions of a signature

-- the positions rise, from this number on
abbrev pub RiseFrom : {A : Type 0} → (A → ℕ) → ℕ → List A → Type 0
RiseFrom at n [] = Unit {0}
RiseFrom at n (x ∷ xs) = (n ≤ at x) × RiseFrom at (at x + 1) xs

module _ {A : Type 0} (at : A → ℕ) where
  pub rise_sooner : (m n : ℕ) (xs : List A) → m ≤ n → RiseFrom at n xs → RiseFrom at m xs
  rise_sooner m n [] low h = tt
  rise_sooner m n (x ∷ xs) low h = let first = h.0 in (omega (arith, low, first), h.1)

  not_before : (n : ℕ) (xs : List A) (x : A) → RiseFrom at n xs → Contains xs x → n ≤ at x
  not_before n [] x h k = absurd (contains_nil x k)
  not_before n (y ∷ xs) x h k = elim (contains_cases y x xs k) [
    | inl same ↦ subst (λ z. n ≤ at z) same h.0
    | inr later ↦ let first = h.0 in let next = not_before (at y + 1) xs x h.1 later in omega (arith, first, next)
  ]

  below_rising : (m n : ℕ) (xs : List A) → m < n → RiseFrom at n xs
      → AllByRecursion (λ k. nat_cmp m k ≡ Less) (map at xs)
  below_rising m n [] low h = tt
  below_rising m n (x ∷ xs) low h =
      let first = h.0 in
      (is_less m (at x) (omega (arith, low, first)), below_rising m (at x + 1) xs (omega (arith, low, first)) h.1)

  pub rise_of : (n : ℕ) (xs : List A) → RiseFrom at n xs → Rise nat_cmp at xs
  unfolding IsStrictlySortedBy
  rise_of n [] h = tt
  rise_of n (x ∷ xs) h = (below_rising (at x) (at x + 1) xs (omega arith) h.1, rise_of (at x + 1) xs h.1)

abbrev pub place_of_parameter : TrackedParameter → ℕ
place_of_parameter p = p.position

abbrev pub place_of_result : CancelResult → ℕ
place_of_result r = r.position

-- the parameters and the results that are told have rising positions
pub record AreRising (facts : FunctionFacts) : Type 0 where
  pub of_parameters : RiseFrom place_of_parameter 0 facts.parameters
  pub of_results : RiseFrom place_of_result 0 facts.gives

module _ (means : Meanings) where
  parameters_rise : (k : ℕ) (is : List Item) → RiseFrom place_of_parameter k (tracked_parameters means k is)
  parameters_rise k [] = tt
  parameters_rise k (i ∷ is) = by (item_type means i) (parameters_rise (k + 1) is)
    where
      by : (o : Option TrackedType) → RiseFrom place_of_parameter (k + 1) (tracked_parameters means (k + 1) is)
          → RiseFrom place_of_parameter k (parameter_at k o ++ tracked_parameters means (k + 1) is)
      by None h = rise_sooner place_of_parameter k (k + 1) (tracked_parameters means (k + 1) is) (omega arith) h
      by (Some t) h = (omega arith, h)

  results_rise : (k : ℕ) (is : List Item) → RiseFrom place_of_result k (cancel_results means k is)
  results_rise k [] = tt
  results_rise k (i ∷ is) = by (item_type means i) (results_rise (k + 1) is)
    where
      by : (o : Option TrackedType) → RiseFrom place_of_result (k + 1) (cancel_results means (k + 1) is)
          → RiseFrom place_of_result k (given_at k o ++ cancel_results means (k + 1) is)
      by None h = rise_sooner place_of_result k (k + 1) (cancel_results means (k + 1) is) (omega arith) h
      by (Some (cancel_type t)) h = (omega arith, h)
      by (Some group_type) h = rise_sooner place_of_result k (k + 1) (cancel_results means (k + 1) is) (omega arith) h

  signature_rises : (s : Signature) → AreRising (signature_facts means s)
  signature_rises (signature_of ps rs brackets) =
      record { of_parameters = parameters_rise 0 (items_of ps); of_results = results_rise 0 (items_of rs) }

-- with what its returns say, too
function_rises : (edition : Edition) (means : Meanings) (f : Function) → AreRising (function_facts edition means f)
function_rises First means f = signature_rises means f.signature
function_rises Second means f =
    let of_signature = signature_rises means f.signature in
    record { of_parameters = of_signature.of_parameters; of_results = of_signature.of_results }

abbrev pub AreRisingIf : Option FunctionFacts → Type 0
AreRisingIf None = Unit {0}
AreRisingIf (Some facts) = AreRising facts

in_declarations : (edition : Edition) (means : Meanings) (name : List ℕ) (ds : List TopLevelDeclaration)
    → AreRisingIf (facts_in edition means name ds)
in_declarations edition means name [] = tt
in_declarations edition means name (general_declaration d ∷ ds) = in_declarations edition means name ds
in_declarations edition means name (function_declaration f ∷ ds) =
    by (can_be_meant f && bytes_eq f.name.text name) (in_declarations edition means name ds)
  where
    by : (b : Bool) → AreRisingIf (facts_in edition means name ds)
        → AreRisingIf (if b then Some (function_facts edition means f) else facts_in edition means name ds)
    by true rest = function_rises edition means f
    by false rest = rest

either_rises : (a b : Option FunctionFacts) → AreRisingIf a → AreRisingIf b → AreRisingIf (or_else a b)
either_rises (Some x) b h k = h
either_rises None b h k = k

in_files : (edition : Edition) (means : ℕ → Meanings) (name : List ℕ) (n : ℕ) (fs : List SourceFile)
    → AreRisingIf (facts_from edition means name n fs)
in_files edition means name n [] = tt
in_files edition means name n (f ∷ fs) =
    either_rises (facts_in edition (means n) name f.declarations) (facts_from edition means name (n + 1) fs)
    (in_declarations edition (means n) name f.declarations) (in_files edition means name (n + 1) fs)

-- so it is of each function of a table
pub table_rises : (ps : List LoadedPackage) (tables : Tables) (i : ℕ) (p : LoadedPackage) (table : PackageTable)
    → IsTable ps tables i p table
    → (name : List ℕ)
    → AreRisingIf (table.signatures name)
table_rises ps tables i p table (empty x whole none) name = subst AreRisingIf (sym (none.no_signature name)) tt
table_rises ps tables i p table (full flags none its same calls told) name =
    subst AreRisingIf (sym (same name)) (in_files p.edition (means_in ps p) name 0 (trees_of p))

-- What is told of a function

-- a position stands there, or nothing does
position_thinned : (n : ℕ) → (position_told n ≡ []) ⊎ (position_told n ≡ n ∷ [])
position_thinned n = by (nat_lt n (2 ^ 32))
  where
    by : (b : Bool) → (as_list (if b then Some n else None) ≡ []) ⊎ (as_list (if b then Some n else None) ≡ n ∷ [])
    by true = inr refl
    by false = inl refl

result_thinned : (t : CancelType) (r : CancelResult)
    → (result_told t r ≡ []) ⊎ ((result_told t r ≡ r.position ∷ []) × (is_same_type t r.type ≡ true))
result_thinned t r = by (is_same_type t r.type) (position_thinned r.position)
  where
    by : (b : Bool) → (position_told r.position ≡ []) ⊎ (position_told r.position ≡ r.position ∷ [])
        → ((if b then position_told r.position else []) ≡ [])
        ⊎ (((if b then position_told r.position else []) ≡ r.position ∷ []) × (b ≡ true))
    by true (inl none) = inl none
    by true (inr one) = inr (one, refl)
    by false h = inl refl

result_left : (t : CancelType) (r : CancelResult) → IsThinned nat_cmp place_of_result itself r (result_told t r)
result_left t r = elim (result_thinned t r) [ inl none ↦ inl none | inr one ↦ inr (r.position, one.0, refl) ]

kept_place : (calls : ℕ → Bool) (p : TrackedParameter) (t : TrackedType) (at : ℕ)
    → position_of (parameter_kept calls p t at) ≡ at
kept_place calls p (cancel_type plain) at = refl
kept_place calls p (cancel_type with_cause) at = refl
kept_place calls p group_type at = refl

parameter_left : (calls : ℕ → Bool) (p : TrackedParameter)
    → IsThinned nat_cmp place_of_parameter position_of p (as_list (parameter_told calls p))
parameter_left calls p = by (nat_lt p.position (2 ^ 32))
  where
    by : (b : Bool)
        → IsThinned nat_cmp place_of_parameter position_of p
        (as_list (option_map (parameter_kept calls p p.typed) (if b then Some p.position else None)))
    by true = inr (parameter_kept calls p p.typed p.position, refl, kept_place calls p p.typed p.position)
    by false = inl refl

-- Results of the two types

told_among : (t : CancelType) (r : CancelResult) (x : ℕ) → Contains (result_told t r) x
    → (r.position ≡ x) × (is_same_type t r.type ≡ true)
told_among t r x h = elim (result_thinned t r) [
  | inl none ↦ absurd (contains_nil x (subst (λ l. Contains l x) none h))
  | inr one ↦ elim (contains_cases r.position x [] (subst (λ l. Contains l x) one.0 h)) [
    | inl same ↦ (same, one.1)
    | inr no_more ↦ absurd (contains_nil x no_more)
  ]
]

pub told_behind : (t : CancelType) (n : ℕ) (rs : List CancelResult) (x : ℕ) → RiseFrom place_of_result n rs
    → Contains (flat_map (result_told t) rs) x
    → n ≤ x
told_behind t n [] x h k = absurd (contains_nil x k)
told_behind t n (r ∷ rs) x h k =
    let first = h.0 in
    elim (Contains-append_cases (result_told t r) (flat_map (result_told t) rs) x k) [
      | inl own ↦ let same = (told_among t r x own).0 in omega (arith, first, same)
      | inr later ↦ let next = told_behind t (r.position + 1) rs x h.1 later in omega (arith, first, next)
    ]

not_both : (t : CancelType) → is_same_type plain t ≡ true → is_same_type with_cause t ≡ true → ⊥
not_both plain e i = true≢false (sym i)
not_both with_cause e i = true≢false (sym e)

never_same : (n : ℕ) (rs : List CancelResult) (x y : ℕ) → RiseFrom place_of_result n rs
    → Contains (flat_map (result_told plain) rs) x
    → Contains (flat_map (result_told with_cause) rs) y
    → y ≡ x
    → ⊥
never_same n [] x y h k l same = contains_nil x k
never_same n (r ∷ rs) x y h k l same =
    elim (Contains-append_cases (result_told plain r) (flat_map (result_told plain) rs) x k) [
      | inl own ↦ elim (Contains-append_cases (result_told with_cause r) (flat_map (result_told with_cause) rs) y l) [
        | inl its ↦ not_both r.type (told_among plain r x own).1 (told_among with_cause r y its).1
        | inr later ↦
            let here = (told_among plain r x own).0 in
            let next = told_behind with_cause (r.position + 1) rs y h.1 later in
            omega (arith, here, next, same)
      ]
      | inr later ↦ elim (Contains-append_cases (result_told with_cause r) (flat_map (result_told with_cause) rs) y l) [
        | inl its ↦
            let here = (told_among with_cause r y its).0 in
            let next = told_behind plain (r.position + 1) rs x h.1 later in
            omega (arith, here, next, same)
        | inr too ↦ never_same (r.position + 1) rs x y h.1 later too same
      ]
    ]

not_among : (x : ℕ) (ys : List ℕ) → ((y : ℕ) → Contains ys y → y ≡ x → ⊥) → list_any (λ m. m == x) ys ≡ false
not_among x [] h = refl
not_among x (y ∷ ys) h = by (y == x) refl (not_among x ys λ z k. h z (contains_there y z ys k))
  where
    by : (b : Bool) → (y == x) ≡ b → list_any (λ m. m == x) ys ≡ false → (b || list_any (λ m. m == x) ys) ≡ false
    by true e rest = absurd (h y (contains_here y ys) (eqb-true y x e))
    by false e rest = rest

are_apart_if : (xs ys : List ℕ) → ((x y : ℕ) → Contains xs x → Contains ys y → y ≡ x → ⊥) → are_apart xs ys ≡ true
are_apart_if [] ys h = refl
are_apart_if (x ∷ xs) ys h =
    and_from (not (list_any (λ m. m == x) ys)) (are_apart xs ys)
    (ap not (not_among x ys λ y k. h x y (contains_here x xs) k))
    (are_apart_if xs ys λ z y k. h z y (contains_there x z xs k))

pub has_order : (calls : ℕ → Bool) (name : List ℕ) (facts : FunctionFacts) → AreRising facts
    → HasOrder (entry_told calls name facts)
has_order calls name facts h = record {
  gives_rise = rise_left nat_cmp place_of_result itself (result_told plain) (result_left plain) facts.gives
      (rise_of place_of_result 0 facts.gives h.of_results);
  causes_rise = rise_left nat_cmp place_of_result itself (result_told with_cause) (result_left with_cause) facts.gives
      (rise_of place_of_result 0 facts.gives h.of_results);
  apart = are_apart_if (flat_map (result_told plain) facts.gives) (flat_map (result_told with_cause) facts.gives)
      λ x y k l same. never_same 0 facts.gives x y h.of_results k l same;
  params_rise = rise_left nat_cmp place_of_parameter position_of (λ p. as_list (parameter_told calls p))
      (parameter_left calls) facts.parameters (rise_of place_of_parameter 0 facts.parameters h.of_parameters);
}

-- What is told of all functions

-- nothing is told of the name, or something that is in order
abbrev IsToldOf : List ℕ → List Entry → Type 0
IsToldOf name es =
    (es ≡ []) ⊎ ((e : Entry) × (es ≡ e ∷ []) × (e.name ≡ name) × HasOrder e × (says_something e ≡ true))

pub none_or_some : {A : Type 0} (xs : List A) → (length xs == 0) ≡ is_none_of xs
none_or_some [] = refl
none_or_some (x ∷ xs) = by (length (x ∷ xs) == 0) refl
  where
    by : (b : Bool) → (length (x ∷ xs) == 0) ≡ b → b ≡ false
    by true e = let none = eqb-true (length (x ∷ xs)) 0 e in absurd (omega (arith, none))
    by false e = refl

grouped : (a b c : Bool) → ((a && b) && c) ≡ (a && (b && c))
grouped true b c = refl
grouped false b c = refl

told_if : (e : Entry) (b : Bool) → (is_none_of e.gives && (is_none_of e.causes && is_none_of e.params)) ≡ b
    → b ≡ false
    → says_something e ≡ true
told_if e b is not_none =
    ap not
    (grouped (length e.gives == 0) (length e.causes == 0) (length e.params == 0)
    ∙ ((λ i. none_or_some e.gives i && (none_or_some e.causes i && none_or_some e.params i)) ∙ (is ∙ not_none)))

of_entry : (name : List ℕ) (e : Entry) → e.name ≡ name → HasOrder e → IsToldOf name (if_told e)
of_entry name e same order =
    by (is_none_of e.gives && (is_none_of e.causes && is_none_of e.params)) (told_if e _ refl)
  where
    by : (b : Bool) → (b ≡ false → says_something e ≡ true) → IsToldOf name (if b then [] else e ∷ [])
    by true told = inl refl
    by false told = inr (e, refl, same, order, told refl)

told_with : (calls : ℕ → Bool) (name : List ℕ) (o : Option FunctionFacts) → AreRisingIf o
    → IsToldOf name (entries_with calls name o)
told_with calls name None h = inl refl
told_with calls name (Some facts) h =
    of_entry name (entry_told calls name facts) refl (has_order calls name facts h)

module _ (table : PackageTable) (rising : (name : List ℕ) → AreRisingIf (table.signatures name)) where
  told_of : (name : List ℕ) → IsToldOf name (entries_for table name)
  told_of name = told_with (table.calls name) name (table.signatures name) (rising name)

  abbrev same_name : List ℕ → List ℕ
  same_name name = name

  told_left : (name : List ℕ) → IsThinned by_bytes same_name name_of name (entries_for table name)
  told_left name = elim (told_of name) [ inl none ↦ inl none | inr one ↦ inr (one.0, one.1, one.2) ]

  each_told : (P : Entry → Type 0) → ((e : Entry) → HasOrder e → says_something e ≡ true → P e) → (names : List (List ℕ))
      → AllByRecursion P (flat_map (entries_for table) names)
  each_told P holds [] = tt
  each_told P holds (name ∷ names) = by (entries_for table name) (told_of name) (each_told P holds names)
    where
      by : (es : List Entry) → IsToldOf name es → AllByRecursion P (flat_map (entries_for table) names)
          → AllByRecursion P (es ++ flat_map (entries_for table) names)
      by es (inl none) rest =
          subst (λ l. AllByRecursion P (l ++ flat_map (entries_for table) names)) (sym none) rest
      by es (inr one) rest =
          subst (λ l. AllByRecursion P (l ++ flat_map (entries_for table) names)) (sym one.1)
          (holds one.0 one.3 one.4, rest)

  same_names : (names : List (List ℕ)) → map same_name names ≡ names
  same_names [] = refl
  same_names (name ∷ names) = λ i. name ∷ same_names names i

  all_told : (es : List Entry) → AllByRecursion (λ e. says_something e ≡ true) es → list_all says_something es ≡ true
  all_told [] h = refl
  all_told (e ∷ es) h = and_from (says_something e) (list_all says_something es) h.0 (all_told es h.1)

  pub plain_in_order : (entries : List Entry) → IsPlain table entries
      → IsInOrder entries × (list_all says_something entries ≡ true)
  plain_in_order entries is =
      subst (λ es. IsInOrder es × (list_all says_something es ≡ true)) (sym is.are_told) (
        record {
          names_rise = rise_left by_bytes same_name name_of (entries_for table) told_left is.names
              (subst (IsStrictlySortedBy by_bytes) (sym (same_names is.names)) is.rise);
          each_in_order = each_told HasOrder (λ e order told. order) is.names;
        },
        all_told (flat_map (entries_for table) is.names)
            (each_told (λ e. says_something e ≡ true) (λ e order told. told) is.names),
      )

pub facts_in_order : (ps : List LoadedPackage) (tables : Tables) (i : ℕ) (p : LoadedPackage) (table : PackageTable)
    (entries : List Entry) → IsTable ps tables i p table
    → IsPlain table entries
    → IsInOrder entries × (list_all says_something entries ≡ true)
facts_in_order ps tables i p table entries is plain_so =
    plain_in_order table (table_rises ps tables i p table is) entries plain_so
