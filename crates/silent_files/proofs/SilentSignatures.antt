-- Plain signatures give the same facts whatever uses mean, and give nothing.
use Rattle.std.proofs.Common.{◌≡◌, ℕ, zero, suc, ◌+◌, ◌⊎◌, inl, inr, Bool, true, false, List, [], ◌∷◌, ◌++◌, length, Option, Some, None, Contains, refl, sym, ap, ◌∙◌, subst, arith}
use Rattle.std.specs.Prelude.{◌&&◌, if◌then◌else◌, is_none, codes, slice_get}
use Rattle.std.specs.List.{list_all, filter}
use Rattle.std.specs.Str.{bytes_eq}
use Rattle.std.proofs.lemmas.Option.{same_Some}
use Rattle.std.proofs.lemmas.List.Elements.{Contains-append_left, Contains-append_right, Contains-append_cases}
use Rattle.tree.specs.declared.edition.Edition.{Edition}
use Rattle.tree.specs.declared.edition.Edition.TheVariants.{First, Second}
use Rattle.tree.specs.Syntax.{OptionalExpression, missing_expression, present_expression, Signature, signature_of, Block, Function, TopLevelDeclaration, function_declaration, general_declaration, SourceFile, ImportSpec}
use Rattle.meaning.specs.OuterBlocks.{is_first_path, can_be_meant, or_else}
use Rattle.meaning.specs.Declarations.{Meaning, local_name, import_name, function_name, package_name, universe_name}
use Rattle.meaning.specs.Mentions.{Named, as_named, as_pointer, statements_marks}
use Rattle.meaning.specs.FunctionFacts.{Meanings, context_path, errgroup_path, is_import, is_selected, is_of_some, plain, with_cause, cancel_type_of_name, is_group_pointer, group_or_none, cancel_or_group, tracked_type, Item, items_of, item_type, FunctionFacts, parameter_at, tracked_parameters, given_at, cancel_results, signature_facts, error_results, own_returns, gives_unless, pairs, unless_by, result_items, with_unless, function_facts, facts_in, facts_from}
use Rattle.meaning.specs.Tracked.{Known}
use Rattle.meaning.proofs.Membership.{contains_here, contains_there}
use Rattle.meaning_reports.specs.Loaded.{trees_of, imports_of, package_names, means_in, known_in}
use Rattle.silent_files.specs.SilentFiles.{type_tells, items_tell, signature_tells}
use Rattle.silent_files.specs.SilentSignatures.{signature_items, HasPlainSignatures, IsAsGood, AreAsGood, SignaturesWithoutNames}
use Rattle.silent_files.proofs.SilentFiles.{neither_first, neither_second, not_both, no_item_type}
use Rattle.silent_files.proofs.SilentPackages.{meant_there, none_among}

-- Items

abbrev ArePlain : Meanings → List Item → Type 0
ArePlain means is = (i : Item) → Contains is i → item_type means i ≡ None

no_tracked : (means : Meanings) (k : ℕ) (is : List Item) → ArePlain means is → tracked_parameters means k is ≡ []
no_tracked means k [] h = refl
no_tracked means k (i ∷ is) h =
    ap (λ t. parameter_at k t ++ tracked_parameters means (k + 1) is) (h i (contains_here i is))
    ∙ no_tracked means (k + 1) is (λ j there. h j (contains_there i j is there))

no_given : (means : Meanings) (k : ℕ) (is : List Item) → ArePlain means is → cancel_results means k is ≡ []
no_given means k [] h = refl
no_given means k (i ∷ is) h =
    ap (λ t. given_at k t ++ cancel_results means (k + 1) is) (h i (contains_here i is))
    ∙ no_given means (k + 1) is (λ j there. h j (contains_there i j is there))

abbrev plain_facts : Signature → FunctionFacts
plain_facts (signature_of ps rs brackets) =
    record { parameters = []; gives = []; results = length (items_of rs); unless = [] }

plain_so : (means : Meanings) (s : Signature) → ArePlain means (signature_items s)
    → signature_facts means s ≡ plain_facts s
plain_so means (signature_of ps rs brackets) h = λ i. record {
  parameters = no_tracked means 0 (items_of ps)
      (λ j there. h j (Contains-append_left (items_of ps) (items_of rs) j there)) i;
  gives = no_given means 0 (items_of rs) (λ j there. h j (Contains-append_right (items_of ps) (items_of rs) j there)) i;
  results = length (items_of rs);
  unless = [];
}

-- whether the body is looked at or not

no_unless : (means : Meanings) (is : List Item) (body : Option Block) → cancel_results means 0 is ≡ []
    → unless_by means is body ≡ []
no_unless means is None e = refl
no_unless means is (Some b) e = by (list_all (λ (i : Item). is_none i.name) is)
  where
    none_kept : filter (gives_unless means (length is) (own_returns 0 (statements_marks b.statements)))
        (pairs (cancel_results means 0 is) (error_results means 0 is)) ≡ []
    none_kept =
        ap (λ gs. filter (gives_unless means (length is) (own_returns 0 (statements_marks b.statements)))
        (pairs gs (error_results means 0 is))) e

    by : (t : Bool)
        → (if t then filter (gives_unless means (length is) (own_returns 0 (statements_marks b.statements)))
        (pairs (cancel_results means 0 is) (error_results means 0 is)) else []) ≡ []
    by true = none_kept
    by false = refl

none_unless : (means : Meanings) (s : Signature) (body : Option Block) → ArePlain means (signature_items s)
    → unless_by means (result_items s) body ≡ []
none_unless means (signature_of ps rs brackets) body h =
    no_unless means (items_of rs) body
    (no_given means 0 (items_of rs) (λ j there. h j (Contains-append_right (items_of ps) (items_of rs) j there)))

plain_by : (edition : Edition) (means : Meanings) (f : Function) → ArePlain means (signature_items f.signature)
    → function_facts edition means f ≡ plain_facts f.signature
plain_by First means f h = plain_so means f.signature h
plain_by Second means f h =
    (λ i. with_unless (plain_so means f.signature h i) (none_unless means f.signature f.body h i))
    ∙ no_more f.signature
  where
    no_more : (s : Signature) → with_unless (plain_facts s) [] ≡ plain_facts s
    no_more (signature_of ps rs brackets) = refl

-- Declarations

abbrev PlainIn : Meanings → List TopLevelDeclaration → Type 0
PlainIn means ds = (f : Function) (i : Item) → Contains ds (function_declaration f)
    → Contains (signature_items f.signature) i
    → item_type means i ≡ None

later_plain : (means : Meanings) (d : TopLevelDeclaration) (ds : List TopLevelDeclaration) → PlainIn means (d ∷ ds)
    → PlainIn means ds
later_plain means d ds h f i there item = h f i (contains_there d (function_declaration f) ds there) item

same_in : (edition : Edition) (one other : Meanings) (name : List ℕ) (ds : List TopLevelDeclaration) → PlainIn one ds → PlainIn other ds
    → facts_in edition one name ds ≡ facts_in edition other name ds
same_in edition one other name [] h k = refl
same_in edition one other name (function_declaration f ∷ ds) h k = λ i.
    if can_be_meant f && bytes_eq f.name.text name
    then Some ((plain_by edition one f (λ j item. h f j (contains_here _ ds) item)
    ∙ sym (plain_by edition other f (λ j item. k f j (contains_here _ ds) item))) i)
    else same_in edition one other name ds (later_plain one _ ds h) (later_plain other _ ds k) i
same_in edition one other name (general_declaration d ∷ ds) h k =
    same_in edition one other name ds (later_plain one _ ds h) (later_plain other _ ds k)

none_in : (edition : Edition) (means : Meanings) (name : List ℕ) (ds : List TopLevelDeclaration) → PlainIn means ds
    → (f : FunctionFacts) → facts_in edition means name ds ≡ Some f
    → f.gives ≡ []
none_in edition means name [] h f e = let bad : None ≡ Some f = e in cc
none_in edition means name (function_declaration g ∷ ds) h f e =
    by (can_be_meant g && bytes_eq g.name.text name) (none_in edition means name ds (later_plain means _ ds h) f) e
  where
    gives_nothing : (s : Signature) → (plain_facts s).gives ≡ []
    gives_nothing (signature_of ps rs brackets) = refl

    by : (t : Bool) → (facts_in edition means name ds ≡ Some f → f.gives ≡ [])
        → (if t then Some (function_facts edition means g) else facts_in edition means name ds) ≡ Some f
        → f.gives ≡ []
    by true later is =
        ap (λ (x : FunctionFacts). x.gives) (sym (same_Some (function_facts edition means g) f is))
        ∙ ap (λ (x : FunctionFacts). x.gives) (plain_by edition means g (λ j item. h g j (contains_here _ ds) item))
        ∙ gives_nothing g.signature
    by false later is = later is
none_in edition means name (general_declaration d ∷ ds) h f e = none_in edition means name ds (later_plain means _ ds h) f e

-- Files

at_zero : (k : ℕ) → k ≡ 0 + k
at_zero k = omega arith

at_first : (n : ℕ) → n + zero ≡ n
at_first n = omega arith

at_next : (n k : ℕ) → n + suc k ≡ n + 1 + k
at_next n k = omega arith

same_from : (edition : Edition) (one other : ℕ → Meanings) (name : List ℕ) (n : ℕ) (files : List SourceFile) → AreAsGood one other n files
    → facts_from edition one name n files ≡ facts_from edition other name n files
same_from edition one other name n [] h = refl
same_from edition one other name n (tree ∷ files) h = λ i.
    or_else (first (subst (λ m. IsAsGood one other m tree) (at_first n) (h zero tree refl)) i)
    (same_from edition one other name (n + 1) files
    (λ k t is. subst (λ m. IsAsGood one other m t) (at_next n k) (h (suc k) t is)) i)
  where
    first : (one n ≡ other n) ⊎ (HasPlainSignatures (one n) tree × HasPlainSignatures (other n) tree)
        → facts_in edition (one n) name tree.declarations ≡ facts_in edition (other n) name tree.declarations
    first (inl same) = ap (λ m. facts_in edition m name tree.declarations) same
    first (inr both) = same_in edition (one n) (other n) name tree.declarations both.0 both.1

none_from : (edition : Edition) (means : ℕ → Meanings) (name : List ℕ) (n : ℕ) (files : List SourceFile)
    → ((k : ℕ) (tree : SourceFile) → slice_get files k ≡ Some tree → HasPlainSignatures (means (n + k)) tree)
    → (f : FunctionFacts) → facts_from edition means name n files ≡ Some f
    → f.gives ≡ []
none_from edition means name n [] h f e = let bad : None ≡ Some f = e in cc
none_from edition means name n (tree ∷ files) h f e =
    by (facts_in edition (means n) name tree.declarations) refl
    (none_from edition means name (n + 1) files
    (λ k t is. subst (λ m. HasPlainSignatures (means m) t) (at_next n k) (h (suc k) t is)) f) e
  where
    by : (o : Option FunctionFacts) → facts_in edition (means n) name tree.declarations ≡ o
        → (facts_from edition means name (n + 1) files ≡ Some f → f.gives ≡ [])
        → or_else o (facts_from edition means name (n + 1) files) ≡ Some f
        → f.gives ≡ []
    by None same later is = later is
    by (Some g) same later is =
        none_in edition (means n) name tree.declarations
        (subst (λ m. HasPlainSignatures (means m) tree) (at_first n) (h zero tree refl)) f (same ∙ is)

-- What no import says

module _ (means : Meanings)
    (no_first : (at : ℕ) (path : List ℕ) → means at ≡ Some (import_name path) → is_first_path path ≡ false) where
  no_import : (test : List ℕ) → ((path : List ℕ) → is_first_path path ≡ false → bytes_eq path test ≡ false) → (at : ℕ)
      → is_import test (means at) ≡ false
  no_import test not_first at = by (means at) refl
    where
      by : (m : Option Meaning) → means at ≡ m → is_import test m ≡ false
      by None e = refl
      by (Some (local_name number kind)) e = refl
      by (Some (import_name path)) e = not_first path (no_first at path e)
      by (Some function_name) e = refl
      by (Some package_name) e = refl
      by (Some universe_name) e = refl

  not_of : (test : List ℕ) → ((path : List ℕ) → is_first_path path ≡ false → bytes_eq path test ≡ false)
      → (name : List ℕ) (n : Option Named)
      → is_of_some means test name n ≡ false
  not_of test not_first name None = refl
  not_of test not_first name (Some n) = not_both (is_selected name n.selected) _ (no_import test not_first n.at)

  no_cancel : (n : Option Named) → cancel_type_of_name means n ≡ None
  no_cancel n =
      by _ _ (not_of context_path (λ path e. neither_first _ _ e) (codes "CancelFunc") n)
      (not_of context_path (λ path e. neither_first _ _ e) (codes "CancelCauseFunc") n)
    where
      by : (a b : Bool) → a ≡ false → b ≡ false → (if a then Some plain else if b then Some with_cause else None) ≡ None
      by false false e f = refl
      by false true e f = absurd cc
      by true b e f = absurd cc

  plain_type : (t : OptionalExpression) → tracked_type means t ≡ None
  plain_type missing_expression = refl
  plain_type (present_expression t) =
      ap (λ c. cancel_or_group c (is_group_pointer means t)) (no_cancel (as_named t))
      ∙ ap group_or_none
      (not_of errgroup_path (λ path e. neither_second (bytes_eq path context_path) _ e) (codes "Group") (as_pointer t))

  plain_item : (i : Item) → item_type means i ≡ None
  plain_item i = by i.is_variadic
    where
      by : (b : Bool) → (if b then None else tracked_type means i.type) ≡ None
      by true = refl
      by false = plain_type i.type

-- What a signature names

untold : (known : Known) (s : Signature) → signature_tells known s ≡ false
    → (i : Item) → Contains (signature_items s) i
    → type_tells known i.type ≡ false
untold known (signature_of ps rs brackets) h i there =
    elim (Contains-append_cases (items_of ps) (items_of rs) i there) [
      | inl taken ↦ none_among (λ (j : Item). type_tells known j.type) (items_of ps) i (neither_first _ _ h) taken
      | inr given ↦
          none_among (λ (j : Item). type_tells known j.type) (items_of rs) i
          (neither_second (items_tell known (items_of ps)) _ h) given
    ]

pub signatures_so : SignaturesWithoutNames
signatures_so = record {
  same = λ edition one other files h name. same_from edition one other name 0 files h;
  of_imports = λ ps p n tree is_tree none f i there item.
      plain_item (means_in ps p n)
      (λ at path e.
      let s = meant_there (trees_of p) (package_names ps) tree (slice_get (trees_of p) n) at path is_tree e in
      subst (λ q. is_first_path q ≡ false) s.is_path
      (none_among (λ (r : ImportSpec). is_first_path r.path) (imports_of tree) s.spec none s.is_there))
      i;
  of_names = λ ps tables p n tree is_tree none untelling f i there item.
      no_item_type (known_in ps tables p n)
      (λ at path e.
      let s = meant_there (trees_of p) (package_names ps) tree (slice_get (trees_of p) n) at path is_tree e in
      subst (λ q. bytes_eq q errgroup_path ≡ false) s.is_path
      (none_among (λ (r : ImportSpec). bytes_eq r.path errgroup_path) (imports_of tree) s.spec none s.is_there))
      i (untold (known_in ps tables p n) f.signature (untelling f there) i item);
  of_nothing = λ tree f i there item. plain_item (λ at. None)
      (λ at path e. let bad : None ≡ Some (import_name path) = e in cc) i;
  give_none = λ edition means files h name f e.
      none_from edition means name 0 files
      (λ k tree is. subst (λ m. HasPlainSignatures (means m) tree) (at_zero k) (h k tree is)) f e;
}
