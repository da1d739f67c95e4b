-- What plain facts claim: the parameters of a function that are known to be called, each with its type.
use Rattle.std.proofs.Common.{◌≡◌, ℕ, ◌+◌, ◌<◌, ◌^◌, ◌⊎◌, inl, inr, Bool, true, false, ◌&&◌, ◌||◌, List, [], ◌∷◌, ◌++◌, Option, Some, None, Contains, refl, sym, ap, ◌∙◌, subst, arith}
use Rattle.std.specs.Prelude.{◌==◌, if◌then◌else◌, flat_map, nat_lt, option_map}
use Rattle.std.specs.List.{list_any}
use Rattle.std.specs.Str.{bytes_eq}
use Rattle.std.proofs.lemmas.Bool.{and_parts, or_left, or_right, false≢true, lt-ltb}
use Rattle.std.proofs.lemmas.Bool.Decides.{Decides-eqb}
use Rattle.std.proofs.lemmas.Slice.Eq.{bytes_eq-Decides}
use Rattle.plain_tables.specs.Tables.{as_list, parameter_kept, parameter_told, entry_told, is_none_of, entries_with, entries_for}
use Rattle.meaning.proofs.Membership.{contains_nil, contains_cases}
use Rattle.meaning.specs.FunctionFacts.{Meanings, CancelType, plain, with_cause, TrackedType, cancel_type, group_type, TrackedParameter, parameter_at, tracked_parameters, Item, items_of, item_type, FunctionFacts, signature_facts, function_facts, facts_in, facts_from}
use Rattle.meaning.specs.FunctionFacts.{cancel}
use Rattle.meaning.specs.OuterBlocks.{or_else, can_be_meant}
use Rattle.meaning.specs.Uses.{has_kind_at, has_type_at}
use Rattle.meaning_reports.specs.Loaded.{PackageTable}
use Rattle.table_json.specs.declared.table.Parameter.{Parameter}
use Rattle.table_json.specs.TableValues.{if_fits}
use Rattle.tree.specs.declared.edition.Edition.{Edition}
use Rattle.tree.specs.declared.edition.Edition.TheVariants.{First, Second}
use Rattle.tree.specs.Syntax.{Signature, signature_of, Function, TopLevelDeclaration, function_declaration, general_declaration, SourceFile}
use Rattle.verifier.specs.GivenViews.{claim_at, first_params}

-- The parameters that are told

abbrev pub told : (ℕ → Bool) → List TrackedParameter → List Parameter
told calls qs = flat_map (λ q. as_list (parameter_told calls q)) qs

fits_so : (n : ℕ) (t : Bool) → nat_lt n (2 ^ 32) ≡ t → if_fits n ≡ (if t then Some n else None)
fits_so n t e = ap (λ b. if b then Some n else None) e

some_not_none : {A : Type 0} (a : A) → None ≡ Some a → ⊥
some_not_none a e = cc

-- a claim that is told is one of a parameter that is known to be called
of_one : (calls : ℕ → Bool) (q : TrackedParameter) (k : ℕ) (t : CancelType) (typed : TrackedType) (rest : List Parameter)
    → claim_at (parameter_kept calls q typed q.position ∷ rest) k ≡ Some t
    → (calls k ≡ true) ⊎ (claim_at rest k ≡ Some t)
of_one calls q k t typed rest e = by typed e
  where
    known : (s : CancelType) → (q.position == k) ≡ true → (if calls q.position then Some s else None) ≡ Some t → calls k ≡ true
    known s here h = ap calls (sym ((Decides-eqb q.position k).0 here)) ∙ by_call (calls q.position) h
      where
        by_call : (c : Bool) → (if c then Some s else None) ≡ Some t → c ≡ true
        by_call true g = refl
        by_call false g = absurd (some_not_none t g)

    at_place : (o : Option CancelType) → ((q.position == k) ≡ true → o ≡ Some t → calls k ≡ true)
        → (if q.position == k then o else claim_at rest k) ≡ Some t
        → (calls k ≡ true) ⊎ (claim_at rest k ≡ Some t)
    at_place o so h = by_place (q.position == k) refl h
      where
        by_place : (b : Bool) → (q.position == k) ≡ b → (if b then o else claim_at rest k) ≡ Some t
            → (calls k ≡ true) ⊎ (claim_at rest k ≡ Some t)
        by_place true p g = inl (so p g)
        by_place false p g = inr g

    by : (s : TrackedType) → claim_at (parameter_kept calls q s q.position ∷ rest) k ≡ Some t
        → (calls k ≡ true) ⊎ (claim_at rest k ≡ Some t)
    by (cancel_type plain) h = at_place (if calls q.position then Some plain else None) (known plain) h
    by (cancel_type with_cause) h = at_place (if calls q.position then Some with_cause else None) (known with_cause) h
    by group_type h = at_place None (λ p g. absurd (some_not_none t g)) h

pub told_is_known : (calls : ℕ → Bool) (qs : List TrackedParameter) (k : ℕ) (t : CancelType)
    → claim_at (told calls qs) k ≡ Some t
    → calls k ≡ true
told_is_known calls [] k t e = absurd (some_not_none t e)
told_is_known calls (q ∷ qs) k t e = by (nat_lt q.position (2 ^ 32)) refl e (told_is_known calls qs k t)
  where
    listed : (b : Bool) → nat_lt q.position (2 ^ 32) ≡ b → parameter_told calls q
        ≡ option_map (parameter_kept calls q q.typed) (if b then Some q.position else None)
    listed b h = ap (option_map (parameter_kept calls q q.typed)) (fits_so q.position b h)

    by : (b : Bool) → nat_lt q.position (2 ^ 32) ≡ b → claim_at (told calls (q ∷ qs)) k ≡ Some t
        → (claim_at (told calls qs) k ≡ Some t → calls k ≡ true)
        → calls k ≡ true
    by true h g rest =
        elim (of_one calls q k t q.typed (told calls qs)
        (ap (λ o. claim_at (as_list o ++ told calls qs) k) (sym (listed true h)) ∙ g)) [
          | inl known ↦ known
          | inr later ↦ rest later
        ]
    by false h g rest = rest (ap (λ o. claim_at (as_list o ++ told calls qs) k) (sym (listed false h)) ∙ g)

-- A parameter that is known to be called is told, with its type

pub record IsTold (qs : List TrackedParameter) (ps : List Parameter) (k : ℕ) : Type 0 where
  pub type : CancelType
  pub is_told : claim_at ps k ≡ Some type
  pub has_its_type : list_any (has_type_at (cancel_type type) k) qs ≡ true

none_before : (means : Meanings) (j : ℕ) (is : List Item) (k : ℕ) → k < j
    → list_any (has_kind_at cancel k) (tracked_parameters means j is) ≡ true
    → ⊥
none_before means j [] k l e = false≢true e
none_before means j (i ∷ is) k l e = by (item_type means i) e (none_before means (j + 1) is k (omega (arith, l)))
  where
    by : (o : Option TrackedType) → list_any (has_kind_at cancel k) (parameter_at j o ++ tracked_parameters means (j + 1) is) ≡ true
        → (list_any (has_kind_at cancel k) (tracked_parameters means (j + 1) is) ≡ true → ⊥)
        → ⊥
    by None h go = go h
    by (Some t) h go =
        elim (or_parts (has_kind_at cancel k record { position = j; typed = t })
        (list_any (has_kind_at cancel k) (tracked_parameters means (j + 1) is)) h) [
          | inl here ↦
              let same = (Decides-eqb j k).0 (second _ (j == k) here) in
              omega (arith, l, same)
          | inr later ↦ go later
        ]
      where
        or_parts : (x y : Bool) → (x || y) ≡ true → (x ≡ true) ⊎ (y ≡ true)
        or_parts true y q = inl refl
        or_parts false y q = inr q

        second : (x y : Bool) → (x && y) ≡ true → y ≡ true
        second x y q = (and_parts x y q).1

module _ (calls : ℕ → Bool) (k : ℕ) (known : calls k ≡ true) (fits : k < 2 ^ 32) (means : Meanings) where
  -- the one at that position
  at_place : (j : ℕ) (t : TrackedType) (is : List Item) → j ≡ k
      → list_any (has_kind_at cancel k) (record { position = j; typed = t } ∷ tracked_parameters means (j + 1) is) ≡ true
      → IsTold (record { position = j; typed = t } ∷ tracked_parameters means (j + 1) is)
      (told calls (record { position = j; typed = t } ∷ tracked_parameters means (j + 1) is)) k
  at_place j t is same e = by t e
    where
      here : (j == k) ≡ true
      here = (Decides-eqb j k).1 same

      fit : nat_lt j (2 ^ 32) ≡ true
      fit = lt-ltb j (2 ^ 32) (omega (arith, same, fits))

      kept : (s : TrackedType) → claim_at (told calls (record { position = j; typed = s } ∷ tracked_parameters means (j + 1) is)) k
          ≡ claim_at (parameter_kept calls record { position = j; typed = s } s j ∷ told calls (tracked_parameters means (j + 1) is)) k
      kept s =
          ap (λ o. claim_at (as_list (option_map (parameter_kept calls record { position = j; typed = s } s) o)
          ++ told calls (tracked_parameters means (j + 1) is)) k) (fits_so j true fit)

      its_call : calls j ≡ true
      its_call = ap calls same ∙ known

      by : (s : TrackedType) → list_any (has_kind_at cancel k) (record { position = j; typed = s } ∷ tracked_parameters means (j + 1) is) ≡ true
          → IsTold (record { position = j; typed = s } ∷ tracked_parameters means (j + 1) is)
          (told calls (record { position = j; typed = s } ∷ tracked_parameters means (j + 1) is)) k
      by (cancel_type plain) h = record {
        type = plain;
        is_told =
            kept (cancel_type plain)
            ∙ (ap (λ b. if b then (if calls j then Some plain else None) else claim_at (told calls (tracked_parameters means (j + 1) is)) k) here
            ∙ ap (λ b. if b then Some plain else None) its_call);
        has_its_type = or_left (j == k) (list_any (has_type_at (cancel_type plain) k) (tracked_parameters means (j + 1) is)) here;
      }
      by (cancel_type with_cause) h = record {
        type = with_cause;
        is_told =
            kept (cancel_type with_cause)
            ∙ (ap (λ b. if b then (if calls j then Some with_cause else None) else claim_at (told calls (tracked_parameters means (j + 1) is)) k) here
            ∙ ap (λ b. if b then Some with_cause else None) its_call);
        has_its_type = or_left (j == k) (list_any (has_type_at (cancel_type with_cause) k) (tracked_parameters means (j + 1) is)) here;
      }
      by group_type h = absurd (none_before means (j + 1) is k (omega (arith, same)) h)

  pub known_is_told : (j : ℕ) (is : List Item) → list_any (has_kind_at cancel k) (tracked_parameters means j is) ≡ true
      → IsTold (tracked_parameters means j is) (told calls (tracked_parameters means j is)) k
  known_is_told j [] e = absurd (false≢true e)
  known_is_told j (i ∷ is) e = by (item_type means i) e (known_is_told (j + 1) is)
    where
      rest : List TrackedParameter
      rest = tracked_parameters means (j + 1) is

      skipped : (t : TrackedType) → (j == k) ≡ false → (b : Bool) → nat_lt j (2 ^ 32) ≡ b
          → claim_at (told calls (record { position = j; typed = t } ∷ tracked_parameters means (j + 1) is)) k
          ≡ claim_at (told calls (tracked_parameters means (j + 1) is)) k
      skipped t other b fit =
          ap (λ o. claim_at (as_list (option_map (parameter_kept calls record { position = j; typed = t } t) o)
          ++ told calls (tracked_parameters means (j + 1) is)) k) (fits_so j b fit)
          ∙ by_fit t b
        where
          off : (s : Option CancelType) → (if j == k then s else claim_at (told calls (tracked_parameters means (j + 1) is)) k)
              ≡ claim_at (told calls (tracked_parameters means (j + 1) is)) k
          off s = ap (λ c. if c then s else claim_at (told calls (tracked_parameters means (j + 1) is)) k) other

          by_fit : (s : TrackedType) (c : Bool)
              → claim_at (as_list (option_map (parameter_kept calls record { position = j; typed = t } s) (if c then Some j else None))
              ++ told calls (tracked_parameters means (j + 1) is)) k
              ≡ claim_at (told calls (tracked_parameters means (j + 1) is)) k
          by_fit (cancel_type plain) true = off (if calls j then Some plain else None)
          by_fit (cancel_type with_cause) true = off (if calls j then Some with_cause else None)
          by_fit group_type true = off None
          by_fit s false = refl

      by : (o : Option TrackedType)
          → list_any (has_kind_at cancel k) (parameter_at j o ++ tracked_parameters means (j + 1) is) ≡ true
          → (list_any (has_kind_at cancel k) (tracked_parameters means (j + 1) is) ≡ true
          → IsTold (tracked_parameters means (j + 1) is) (told calls (tracked_parameters means (j + 1) is)) k)
          → IsTold (parameter_at j o ++ tracked_parameters means (j + 1) is)
          (told calls (parameter_at j o ++ tracked_parameters means (j + 1) is)) k
      by None h go = go h
      by (Some t) h go = by_place (j == k) refl
        where
          later : (j == k) ≡ false → list_any (has_kind_at cancel k) (tracked_parameters means (j + 1) is) ≡ true
          later other = by_kind (has_kind_at cancel k record { position = j; typed = t }) refl h
            where
              by_kind : (b : Bool) → has_kind_at cancel k record { position = j; typed = t } ≡ b
                  → (b || list_any (has_kind_at cancel k) (tracked_parameters means (j + 1) is)) ≡ true
                  → list_any (has_kind_at cancel k) (tracked_parameters means (j + 1) is) ≡ true
              by_kind true q g = absurd (false≢true (sym other ∙ (and_parts _ (j == k) q).1))
              by_kind false q g = g

          by_place : (b : Bool) → (j == k) ≡ b
              → IsTold (record { position = j; typed = t } ∷ tracked_parameters means (j + 1) is)
              (told calls (record { position = j; typed = t } ∷ tracked_parameters means (j + 1) is)) k
          by_place true p = at_place j t is ((Decides-eqb j k).0 p) h
          by_place false p =
              let w = go (later p) in
              record {
                type = w.type;
                is_told = skipped t p (nat_lt j (2 ^ 32)) refl ∙ w.is_told;
                has_its_type =
                    or_right (has_type_at (cancel_type w.type) k record { position = j; typed = t })
                    (list_any (has_type_at (cancel_type w.type) k) (tracked_parameters means (j + 1) is)) w.has_its_type;
              }

-- Functions

-- the facts of a function are those of a signature
pub record OfSignature (f : FunctionFacts) : Type 0 where
  pub means : Meanings
  pub items : List Item
  pub are_parameters : f.parameters ≡ tracked_parameters means 0 items

of_signature : (means : Meanings) (s : Signature) → OfSignature (signature_facts means s)
of_signature means (signature_of ps rs brackets) = record { means = means; items = items_of ps; are_parameters = refl }

of_function : (edition : Edition) (means : Meanings) (f : Function) → OfSignature (function_facts edition means f)
of_function First means f = of_signature means f.signature
of_function Second means f =
    let it = of_signature means f.signature in
    record { means = it.means; items = it.items; are_parameters = it.are_parameters }

in_file : (edition : Edition) (means : Meanings) (name : List ℕ) (ds : List TopLevelDeclaration) (f : FunctionFacts)
    → facts_in edition means name ds ≡ Some f
    → OfSignature f
in_file edition means name [] f e = absurd (some_not_none f e)
in_file edition means name (general_declaration d ∷ ds) f e = in_file edition means name ds f e
in_file edition means name (function_declaration g ∷ ds) f e =
    by (can_be_meant g && bytes_eq g.name.text name) e (in_file edition means name ds f)
  where
    by : (b : Bool) → (if b then Some (function_facts edition means g) else facts_in edition means name ds) ≡ Some f
        → (facts_in edition means name ds ≡ Some f → OfSignature f)
        → OfSignature f
    by true h go = let same : function_facts edition means g ≡ f = cc in subst OfSignature same (of_function edition means g)
    by false h go = go h

pub in_files : (edition : Edition) (means : ℕ → Meanings) (name : List ℕ) (n : ℕ) (trees : List SourceFile)
    (f : FunctionFacts) → facts_from edition means name n trees ≡ Some f
    → OfSignature f
in_files edition means name n [] f e = absurd (some_not_none f e)
in_files edition means name n (tree ∷ trees) f e =
    by (facts_in edition (means n) name tree.declarations) refl e (in_files edition means name (n + 1) trees f)
  where
    by : (o : Option FunctionFacts) → facts_in edition (means n) name tree.declarations ≡ o
        → or_else o (facts_from edition means name (n + 1) trees) ≡ Some f
        → (facts_from edition means name (n + 1) trees ≡ Some f → OfSignature f)
        → OfSignature f
    by None p h go = go h
    by (Some g) p h go = in_file edition (means n) name tree.declarations f (p ∙ h)

-- Entries of a table

module _ (table : PackageTable) (name : List ℕ) where
  -- the parameters are those that are told of the function of that name
  pub record TellsOf (params : List Parameter) : Type 0 where
    pub facts : FunctionFacts
    pub are_facts : table.signatures name ≡ Some facts
    pub are_told : params ≡ told (table.calls name) facts.parameters

  -- the entries before that of the name are of other names
  pub first_is : (ns : List (List ℕ)) (params : List Parameter)
      → first_params (flat_map (entries_for table) ns) name ≡ Some params
      → TellsOf params
  first_is [] params e = absurd (some_not_none params e)
  first_is (n ∷ ns) params e = by (table.signatures n) refl e (first_is ns params)
    where
      here : (facts : FunctionFacts) → table.signatures n ≡ Some facts → n ≡ name
          → Some (told (table.calls n) facts.parameters) ≡ Some params
          → TellsOf params
      here facts is same h =
          let its : told (table.calls n) facts.parameters ≡ params = cc in
          record {
            facts = facts;
            are_facts = ap table.signatures (sym same) ∙ is;
            are_told = sym its ∙ ap (λ m. told (table.calls m) facts.parameters) same;
          }

      by : (o : Option FunctionFacts) → table.signatures n ≡ o
          → first_params (entries_with (table.calls n) n o ++ flat_map (entries_for table) ns) name ≡ Some params
          → (first_params (flat_map (entries_for table) ns) name ≡ Some params → TellsOf params)
          → TellsOf params
      by None p h go = go h
      by (Some facts) p h go =
          by_told (is_none_of (entry_told (table.calls n) n facts).gives
          && (is_none_of (entry_told (table.calls n) n facts).causes && is_none_of (entry_told (table.calls n) n facts).params)) h
        where
          by_name : (b : Bool) → bytes_eq n name ≡ b
              → (if b then Some (told (table.calls n) facts.parameters) else first_params (flat_map (entries_for table) ns) name)
              ≡ Some params
              → TellsOf params
          by_name true q g = here facts p ((bytes_eq-Decides n name).0 q) g
          by_name false q g = go g

          by_told : (b : Bool) → first_params ((if b then [] else entry_told (table.calls n) n facts ∷ [])
              ++ flat_map (entries_for table) ns) name ≡ Some params
              → TellsOf params
          by_told true g = go g
          by_told false g = by_name (bytes_eq n name) refl g

  -- the name's own entry is the first of its name
  pub first_told : (ns : List (List ℕ)) (facts : FunctionFacts) → Contains ns name → table.signatures name ≡ Some facts
      → is_none_of (told (table.calls name) facts.parameters) ≡ false
      → first_params (flat_map (entries_for table) ns) name ≡ Some (told (table.calls name) facts.parameters)
  first_told [] facts h is some = absurd (contains_nil name h)
  first_told (n ∷ ns) facts h is some = by (bytes_eq n name) refl (λ later. first_told ns facts later is some)
    where
      and_none : (x y : Bool) → (x && (y && false)) ≡ false
      and_none true true = refl
      and_none true false = refl
      and_none false y = refl

      its : entries_for table name ≡ entry_told (table.calls name) name facts ∷ []
      its =
          ap (entries_with (table.calls name) name) is
          ∙ (ap (λ b. if is_none_of (entry_told (table.calls name) name facts).gives
          && (is_none_of (entry_told (table.calls name) name facts).causes && b)
          then [] else entry_told (table.calls name) name facts ∷ []) some
          ∙ ap (λ b. if b then [] else entry_told (table.calls name) name facts ∷ [])
          (and_none (is_none_of (entry_told (table.calls name) name facts).gives)
          (is_none_of (entry_told (table.calls name) name facts).causes)))

      other : bytes_eq n name ≡ false → first_params (flat_map (entries_for table) (n ∷ ns)) name
          ≡ first_params (flat_map (entries_for table) ns) name
      other q = of_entries (table.signatures n)
        where
          of_entries : (o : Option FunctionFacts) → first_params (entries_with (table.calls n) n o ++ flat_map (entries_for table) ns) name
              ≡ first_params (flat_map (entries_for table) ns) name
          of_entries None = refl
          of_entries (Some f) =
              by_told (is_none_of (entry_told (table.calls n) n f).gives
              && (is_none_of (entry_told (table.calls n) n f).causes && is_none_of (entry_told (table.calls n) n f).params))
            where
              by_told : (b : Bool) → first_params ((if b then [] else entry_told (table.calls n) n f ∷ [])
                  ++ flat_map (entries_for table) ns) name
                  ≡ first_params (flat_map (entries_for table) ns) name
              by_told true = refl
              by_told false =
                  ap (λ b. if b then Some (entry_told (table.calls n) n f).params
                  else first_params (flat_map (entries_for table) ns) name) q

      by : (b : Bool) → bytes_eq n name ≡ b
          → (Contains ns name → first_params (flat_map (entries_for table) ns) name ≡ Some (told (table.calls name) facts.parameters))
          → first_params (flat_map (entries_for table) (n ∷ ns)) name ≡ Some (told (table.calls name) facts.parameters)
      by true q go =
          let same = (bytes_eq-Decides n name).0 q in
          ap (λ m. first_params (entries_for table m ++ flat_map (entries_for table) ns) name) same
          ∙ (ap (λ es. first_params (es ++ flat_map (entries_for table) ns) name) its
          ∙ ap (λ b. if b then Some (told (table.calls name) facts.parameters) else first_params (flat_map (entries_for table) ns) name)
          ((bytes_eq-Decides name name).1 refl))
      by false q go =
          other q
          ∙ elim (contains_cases n name ns h) [
            | inl same ↦ absurd (false≢true (sym q ∙ (bytes_eq-Decides n name).1 same))
            | inr later ↦ go later
          ]
