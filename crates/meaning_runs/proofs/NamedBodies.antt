-- A body of a file that has a name is that of a function which the file declares; and where no two functions of a
-- package have one name, its bodies of one function's name are one.
use Rattle.std.proofs.Common.{◌≡◌, ℕ, ◌+◌, Bool, true, false, ◌⊎◌, inl, inr, List, [], ◌∷◌, ◌++◌, Option, Some, None, Contains, refl, sym, ap, ◌∙◌, subst}
use Rattle.std.specs.Prelude.{◌&&◌, if◌then◌else◌, not, is_none}
use Rattle.std.specs.Str.{bytes_eq}
use Rattle.std.proofs.lemmas.Bool.{and_parts, and_from, or_left, or_right}
use Rattle.std.proofs.lemmas.Slice.Eq.{bytes_eq-Decides}
use Rattle.std.proofs.lemmas.List.Elements.{Contains-append_left, Contains-append_right, Contains-append_cases}
use Rattle.tree.specs.Syntax.{Block, Function, TopLevelDeclaration, function_declaration, general_declaration, declaration_of, SourceFile}
use Rattle.meaning.specs.Scopes.{is_blank}
use Rattle.meaning.specs.OuterBlocks.{is_init, can_be_meant, specs_of}
use Rattle.meaning.specs.TwoFunctions.{FunctionName, function_names_in, function_names_from, is_called_before, second_after}
use Rattle.meaning.specs.Mentions.{BodyPlace, opens, closes, function_body, function_types_marks, function_marks, statements_marks, top_level_marks, top_levels_marks, file_marks, marks_by, import_marks}
use Rattle.meaning.specs.Tracked.{Known, placed, some_keep}
use Rattle.meaning.specs.Uses.{Seen}
use Rattle.meaning.specs.BodyEvents.{seen_file}
use Rattle.meaning_packages.proofs.BodyPlaces.{placed_only}
use Rattle.meaning.proofs.Membership.{contains_here, contains_there, contains_cases, contains_nil}
use Rattle.meaning.specs.BodyEvents.{opened_in, bodies_of}
use Rattle.meaning_packages.specs.CallsFlags.{has_name, is_function}
use Rattle.meaning_reports.specs.Loaded.{seen_from}
use Rattle.meaning_runs.proofs.BodyOffsets.{opened_there}
use Rattle.meaning_runs.proofs.LeftSides.{of_types, of_block, of_outer_specs, is_placed, of_imports}
use Rattle.meaning_runs.proofs.EditionMarks.{among_all}

-- Bodies and the functions that they are of

record OfFunction (ds : List TopLevelDeclaration) (b : BodyPlace) : Type 0 where
  function : Function
  block : Block
  is_there : Contains ds (function_declaration function)
  has_block : function.body ≡ Some block
  is_it : function_body function block ≡ b

later : (d : TopLevelDeclaration) (ds : List TopLevelDeclaration) (b : BodyPlace) → OfFunction ds b → OfFunction (d ∷ ds) b
later d ds b h = record {
  function = h.function;
  block = h.block;
  is_there = contains_there d (function_declaration h.function) ds h.is_there;
  has_block = h.has_block;
  is_it = h.is_it;
}

pub opens_one : (b c : BodyPlace) → opens b ≡ opens c → b ≡ c
opens_one b c e = cc

module _ (b : BodyPlace) (named : b.name ≡ None → ⊥) where
  of_function : (f : Function) (ds : List TopLevelDeclaration) (o : Option Block) → f.body ≡ o → Contains (function_marks f o) (opens b) → OfFunction (function_declaration f ∷ ds) b
  of_function f ds None e h = absurd (named ((of_types f).each (opens b) h))
  of_function f ds (Some block) e h =
      elim (contains_cases (opens (function_body f block)) (opens b) ((function_types_marks f ++ statements_marks block.statements) ++ closes ∷ []) h) [
        | inl q ↦ record {
          function = f;
          block = block;
          is_there = contains_here (function_declaration f) ds;
          has_block = e;
          is_it = opens_one (function_body f block) b q;
        }
        | inr r ↦ absurd (named ((of_block f block).each (opens b) r))
      ]

  of_some_function : (ds : List TopLevelDeclaration) → Contains (top_levels_marks ds) (opens b) → OfFunction ds b
  of_some_function [] h = absurd (contains_nil (opens b) h)
  of_some_function (function_declaration f ∷ ds) h =
      elim (Contains-append_cases (function_marks f f.body) (top_levels_marks ds) (opens b) h) [
        | inl r ↦ of_function f ds f.body refl r
        | inr r ↦ later (function_declaration f) ds b (of_some_function ds r)
      ]
  of_some_function (general_declaration (declaration_of keyword specs is_grouped span) ∷ ds) h =
      elim (Contains-append_cases (top_level_marks (general_declaration (declaration_of keyword specs is_grouped span))) (top_levels_marks ds) (opens b) h) [
        | inl r ↦ absurd (named ((of_outer_specs specs).each (opens b) r))
        | inr r ↦ later (general_declaration (declaration_of keyword specs is_grouped span)) ds b (of_some_function ds r)
      ]

  -- imports begin no body
  of_declared : (file : SourceFile) → Contains (file_marks file) (opens b) → OfFunction file.declarations b
  of_declared file h =
      elim (Contains-append_cases (import_marks (specs_of file.imports)) (top_levels_marks file.declarations) (opens b) h) [
        | inl r ↦ absurd (named ((of_imports (specs_of file.imports)).each (opens b) r))
        | inr r ↦ of_some_function file.declarations r
      ]

-- the function of a body of that name
record OfName (ds : List TopLevelDeclaration) (name : List ℕ) (b : BodyPlace) : Type 0 where
  of : OfFunction ds b
  is_meant : can_be_meant of.function ≡ true
  has_name : of.function.name.text ≡ name

pub named_so : (name : List ℕ) (b : BodyPlace) → is_function name b ≡ true → b.name ≡ None → ⊥
named_so name b e none =
    let parts = and_parts (is_none b.receiver) (has_name name b.name) e in
    let bad : false ≡ true = sym (ap (has_name name) none) ∙ parts.1 in
    cc

of_name : (known : Known) (file : SourceFile) (name : List ℕ) (b : BodyPlace) → Contains (bodies_of (seen_file known file)) b → is_function name b ≡ true → OfName file.declarations name b
of_name known file name b h e =
    let marks = marks_by known.edition (some_keep known.fields) (file_marks file) in
    let w = opened_there (placed [] marks) b (placed_only (opened_in (placed [] marks)) b h) in
    let there = subst (λ m. Contains marks m) w.2 (is_placed [] marks w.0 w.1) in
    let among = among_all known.edition (some_keep known.fields) (file_marks file) (opens b) there in
    let of = of_declared b (named_so name b e) file among in
    let its : is_function name (function_body of.function of.block) ≡ true = ap (is_function name) of.is_it ∙ e in
    let parts = and_parts (is_none of.function.receiver) (has_name name (Some of.function.name)) its in
    let rest = and_parts (bytes_eq of.function.name.text name) (not (is_blank of.function.name.text) && not (is_init of.function.name.text)) parts.1 in
    record {
      of = of;
      is_meant = and_from (is_none of.function.receiver) (not (is_blank of.function.name.text) && not (is_init of.function.name.text)) parts.0 rest.1;
      has_name = (bytes_eq-Decides of.function.name.text name).0 rest.0;
    }

-- Names of which no two are one

abbrev IsAbsent : List ℕ → List FunctionName → Type 0
IsAbsent name fs = (e : FunctionName) → Contains fs e → e.name.text ≡ name → ⊥

pub data AreApart : List FunctionName → Type 0 where
  no_name : AreApart []
  name_and : {f : FunctionName} {fs : List FunctionName} → IsAbsent f.name.text fs → AreApart fs → AreApart (f ∷ fs)

called_before : (f e : FunctionName) (earlier : List FunctionName) → Contains earlier e → e.name.text ≡ f.name.text → is_called_before f earlier ≡ true
called_before f e [] h q = absurd (contains_nil e h)
called_before f e (x ∷ xs) h q = elim (contains_cases x e xs h) [
  | inl same ↦ or_left (bytes_eq x.name.text f.name.text) (is_called_before f xs) ((bytes_eq-Decides x.name.text f.name.text).1 (ap (λ (y : FunctionName). y.name.text) same ∙ q))
  | inr r ↦ or_right (bytes_eq x.name.text f.name.text) (is_called_before f xs) (called_before f e xs r q)
]

next_none : (b : Bool) (f : FunctionName) (o : Option FunctionName) → (if b then Some f else o) ≡ None → (b ≡ false) × (o ≡ None)
next_none true f o e = let bad : Some f ≡ None = e in cc
next_none false f o e = (refl, e)

absent : (earlier fs : List FunctionName) → second_after earlier fs ≡ None → (x : FunctionName) → Contains earlier x → IsAbsent x.name.text fs
absent earlier [] e x h y k q = absurd (contains_nil y k)
absent earlier (f ∷ fs) e x h y k q =
    let parts = next_none (is_called_before f earlier) f (second_after (f ∷ earlier) fs) e in
    elim (contains_cases f y fs k) [
      | inl same ↦
          let found = called_before f x earlier h (sym q ∙ ap (λ (z : FunctionName). z.name.text) (sym same)) in
          let bad : false ≡ true = sym parts.0 ∙ found in
          cc
      | inr r ↦ absent (f ∷ earlier) fs parts.1 x (contains_there f x earlier h) y r q
    ]

pub apart : (earlier fs : List FunctionName) → second_after earlier fs ≡ None → AreApart fs
apart earlier [] e = no_name
apart earlier (f ∷ fs) e =
    let parts = next_none (is_called_before f earlier) f (second_after (f ∷ earlier) fs) e in
    name_and (absent (f ∷ earlier) fs parts.1 f (contains_here f earlier)) (apart (f ∷ earlier) fs parts.1)

apart_right : (xs ys : List FunctionName) → AreApart (xs ++ ys) → AreApart ys
apart_right [] ys h = h
apart_right (x ∷ xs) ys (name_and none h) = apart_right xs ys h

apart_both : (xs ys : List FunctionName) → AreApart (xs ++ ys) → (x y : FunctionName) → Contains xs x → Contains ys y → y.name.text ≡ x.name.text → ⊥
apart_both [] ys h x y k l q = absurd (contains_nil x k)
apart_both (z ∷ xs) ys (name_and none h) x y k l q = elim (contains_cases z x xs k) [
  | inl same ↦ none y (Contains-append_right xs ys y l) (q ∙ ap (λ (w : FunctionName). w.name.text) (sym same))
  | inr r ↦ apart_both xs ys h x y r l q
]

-- the names of a file's functions

abbrev its_name : ℕ → Function → FunctionName
its_name n f = record { file = n; name = f.name }

name_there : (n : ℕ) (ds : List TopLevelDeclaration) (f : Function) → Contains ds (function_declaration f) → can_be_meant f ≡ true → Contains (function_names_in n ds) (its_name n f)
name_there n [] f h e = absurd (contains_nil (function_declaration f) h)
name_there n (general_declaration d ∷ ds) f h e = elim (contains_cases (general_declaration d) (function_declaration f) ds h) [
  | inl q ↦ let bad : general_declaration d ≡ function_declaration f = q in cc
  | inr r ↦ name_there n ds f r e
]
name_there n (function_declaration g ∷ ds) f h e = by (can_be_meant g) refl (contains_cases (function_declaration g) (function_declaration f) ds h) (λ r. name_there n ds f r e)
  where
    by : (b : Bool) → can_be_meant g ≡ b → (function_declaration g ≡ function_declaration f) ⊎ Contains ds (function_declaration f) → (Contains ds (function_declaration f) → Contains (function_names_in n ds) (its_name n f)) → Contains (if b then its_name n g ∷ function_names_in n ds else function_names_in n ds) (its_name n f)
    by true i (inl q) k =
        let same : g ≡ f = cc in
        subst (λ x. Contains (its_name n g ∷ function_names_in n ds) (its_name n x)) same (contains_here (its_name n g) (function_names_in n ds))
    by true i (inr r) k = contains_there (its_name n g) (its_name n f) (function_names_in n ds) (k r)
    by false i (inl q) k =
        let same : g ≡ f = cc in
        let bad : false ≡ true = sym i ∙ ap can_be_meant same ∙ e in
        cc
    by false i (inr r) k = k r

one_in : (n : ℕ) (ds : List TopLevelDeclaration) (rest : List FunctionName) → AreApart (function_names_in n ds ++ rest) → (f g : Function) → Contains ds (function_declaration f) → Contains ds (function_declaration g) → can_be_meant f ≡ true → can_be_meant g ≡ true → f.name.text ≡ g.name.text → f ≡ g
one_in n [] rest h f g k l e i q = absurd (contains_nil (function_declaration f) k)
one_in n (general_declaration d ∷ ds) rest h f g k l e i q = elim (contains_cases (general_declaration d) (function_declaration f) ds k) [
  | inl p ↦ let bad : general_declaration d ≡ function_declaration f = p in cc
  | inr r ↦ elim (contains_cases (general_declaration d) (function_declaration g) ds l) [
    | inl p ↦ let bad : general_declaration d ≡ function_declaration g = p in cc
    | inr s ↦ one_in n ds rest h f g r s e i q
  ]
]
one_in n (function_declaration x ∷ ds) rest h f g k l e i q = by (can_be_meant x) refl h (contains_cases (function_declaration x) (function_declaration f) ds k) (contains_cases (function_declaration x) (function_declaration g) ds l) (λ a r s. one_in n ds rest a f g r s e i q)
  where
    by : (b : Bool) → can_be_meant x ≡ b
        → AreApart ((if b then its_name n x ∷ function_names_in n ds else function_names_in n ds) ++ rest)
        → (function_declaration x ≡ function_declaration f) ⊎ Contains ds (function_declaration f)
        → (function_declaration x ≡ function_declaration g) ⊎ Contains ds (function_declaration g)
        → (AreApart (function_names_in n ds ++ rest) → Contains ds (function_declaration f) → Contains ds (function_declaration g) → f ≡ g)
        → f ≡ g
    by b m a (inl p) (inl r) go = cc
    by true m (name_and none a) (inr r) (inr s) go = go a r s
    by true m (name_and none a) (inl p) (inr s) go =
        let same : x ≡ f = cc in
        absurd (none (its_name n g) (Contains-append_left (function_names_in n ds) rest (its_name n g) (name_there n ds g s i)) (sym q ∙ ap (λ (w : Function). w.name.text) (sym same)))
    by true m (name_and none a) (inr r) (inl p) go =
        let same : x ≡ g = cc in
        absurd (none (its_name n f) (Contains-append_left (function_names_in n ds) rest (its_name n f) (name_there n ds f r e)) (q ∙ ap (λ (w : Function). w.name.text) (sym same)))
    by false m a (inr r) (inr s) go = go a r s
    by false m a (inl p) (inr s) go =
        let same : x ≡ f = cc in
        let bad : false ≡ true = sym m ∙ ap can_be_meant same ∙ e in
        cc
    by false m a (inr r) (inl p) go =
        let same : x ≡ g = cc in
        let bad : false ≡ true = sym m ∙ ap can_be_meant same ∙ i in
        cc

same_body : (ds : List TopLevelDeclaration) (b c : BodyPlace) (h : OfFunction ds b) (k : OfFunction ds c) → h.function ≡ k.function → b ≡ c
same_body ds b c h k e =
    let blocks : Some h.block ≡ Some k.block = sym h.has_block ∙ ap (λ (f : Function). f.body) e ∙ k.has_block in
    let block : h.block ≡ k.block = cc in
    sym h.is_it ∙ ap (λ f. function_body f h.block) e ∙ ap (function_body k.function) block ∙ k.is_it

-- of files

-- one of the files' functions has the name
record IsAmong (n : ℕ) (trees : List SourceFile) (name : List ℕ) : Type 0 where
  entry : FunctionName
  is_there : Contains (function_names_from n trees) entry
  has_name : entry.name.text ≡ name

module _ (known : ℕ → Known) (name : List ℕ) where
  here : (n : ℕ) (tree : SourceFile) (s : Seen) (b : BodyPlace) → seen_file (known n) tree ≡ s → Contains (bodies_of s) b → is_function name b ≡ true → OfName tree.declarations name b
  here n tree s b q h e = of_name (known n) tree name b (subst (λ x. Contains (bodies_of x) b) (sym q) h) e

  named_in : (n : ℕ) (tree : SourceFile) (b : BodyPlace) → (h : OfName tree.declarations name b) → Contains (function_names_in n tree.declarations) (its_name n h.of.function)
  named_in n tree b h = name_there n tree.declarations h.of.function h.of.is_there h.is_meant

  of_file : (n : ℕ) (trees : List SourceFile) (s : Seen) (b : BodyPlace) → Contains (seen_from known n trees) s → Contains (bodies_of s) b → is_function name b ≡ true → IsAmong n trees name
  of_file n [] s b h k e = absurd (contains_nil s h)
  of_file n (tree ∷ trees) s b h k e = elim (contains_cases (seen_file (known n) tree) s (seen_from known (n + 1) trees) h) [
    | inl q ↦
        let w = here n tree s b q k e in
        record {
          entry = its_name n w.of.function;
          is_there = Contains-append_left (function_names_in n tree.declarations) (function_names_from (n + 1) trees) (its_name n w.of.function) (named_in n tree b w);
          has_name = w.has_name;
        }
    | inr r ↦
        let w = of_file (n + 1) trees s b r k e in
        record {
          entry = w.entry;
          is_there = Contains-append_right (function_names_in n tree.declarations) (function_names_from (n + 1) trees) w.entry w.is_there;
          has_name = w.has_name;
        }
  ]

  never : (n : ℕ) (tree : SourceFile) (trees : List SourceFile) → AreApart (function_names_from n (tree ∷ trees)) → (s t : Seen) (b c : BodyPlace) → seen_file (known n) tree ≡ s → Contains (seen_from known (n + 1) trees) t → Contains (bodies_of s) b → Contains (bodies_of t) c → is_function name b ≡ true → is_function name c ≡ true → ⊥
  never n tree trees parted s t b c q r hb hc eb ec =
      let w = here n tree s b q hb eb in
      let v = of_file (n + 1) trees t c r hc ec in
      apart_both (function_names_in n tree.declarations) (function_names_from (n + 1) trees) parted (its_name n w.of.function) v.entry (named_in n tree b w) v.is_there (v.has_name ∙ sym w.has_name)

  pub one_body : (n : ℕ) (trees : List SourceFile) → AreApart (function_names_from n trees) → (s t : Seen) (b c : BodyPlace) → Contains (seen_from known n trees) s → Contains (seen_from known n trees) t → Contains (bodies_of s) b → Contains (bodies_of t) c → is_function name b ≡ true → is_function name c ≡ true → (s ≡ t) × (b ≡ c)
  one_body n [] parted s t b c hs ht hb hc eb ec = absurd (contains_nil s hs)
  one_body n (tree ∷ trees) parted s t b c hs ht hb hc eb ec =
      elim (contains_cases (seen_file (known n) tree) s (seen_from known (n + 1) trees) hs) [
        | inl q ↦ elim (contains_cases (seen_file (known n) tree) t (seen_from known (n + 1) trees) ht) [
          | inl p ↦
              let w = here n tree s b q hb eb in
              let v = here n tree t c p hc ec in
              (sym q ∙ p, same_body tree.declarations b c w.of v.of (one_in n tree.declarations (function_names_from (n + 1) trees) parted w.of.function v.of.function w.of.is_there v.of.is_there w.is_meant v.is_meant (w.has_name ∙ sym v.has_name)))
          | inr r ↦ absurd (never n tree trees parted s t b c q r hb hc eb ec)
        ]
        | inr r ↦ elim (contains_cases (seen_file (known n) tree) t (seen_from known (n + 1) trees) ht) [
          | inl p ↦ absurd (never n tree trees parted t s c b p r hc hb ec eb)
          | inr l ↦ one_body (n + 1) trees (apart_right (function_names_in n tree.declarations) (function_names_from (n + 1) trees) parted) s t b c r l hb hc eb ec
        ]
      ]
