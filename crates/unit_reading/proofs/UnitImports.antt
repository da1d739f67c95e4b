-- What was read of imports so far completes what is read of those that are left.
use Rattle.std.proofs.Common.{◌≡◌, Bor, inl, inr, ℕ, Bool, true, false, cond, List, [], ◌∷◌, ◌++◌, Option, Some, None, is_some, option_and_then, option_to_list, All, Contains, filter, map, refl, ap, ◌∙◌, subst, sym}
use Rattle.std.proofs.lemmas.List.{append-nil, append_assoc, map-append}
use Rattle.std.proofs.lemmas.List.Elements.{All-nil, All-push}
use Rattle.std.proofs.lemmas.List.Kept.{IsStrictlySortedBy-filter}
use Rattle.std.specs.Cmp.Lexicographic.{slice_cmp}
use Rattle.std.specs.Ordering.{nat_cmp}
use Rattle.std.specs.List.Sorted.{IsStrictlySortedBy}
use Rattle.meaning.proofs.Membership.{contains_cases, contains_filter, contains_nil}
use Rattle.unit_config.specs.KeyedTexts.{AreKeys}
use Rattle.unit_config.specs.UnitValues.{UnitEntry}
use Rattle.unit_reading.specs.ToldImports.{files_told, AreTold, IsReadOf, IsTold}
use Rattle.unit_reading.specs.declared.vetx_input.ToldImport.{ToldImport}

abbrev imports_of : List ToldImport → List (List ℕ)
imports_of = map (λ t. t.import.now)

module _ (edition : ℕ) (digest : List ℕ) (unit : UnitEntry) where
  abbrev has : List ℕ → Bool
  has import = is_some (files_told unit import)

  pub record ToldSo (all left : List (List ℕ)) (told : List ToldImport) : Type 0 where
    pub each : All (IsTold edition digest unit) told
    pub together : imports_of told ++ filter has left ≡ filter has all

  filter_by : (b : Bool) (k : List ℕ) (ks : List (List ℕ)) → has k ≡ b
      → filter has (k ∷ ks) ≡ cond b (k ∷ filter has ks) (filter has ks)
  filter_by b k ks eq = ap (λ c. cond c (k ∷ filter has ks) (filter has ks)) eq

  abbrev pub ReadSo : List (Bor (List ℕ)) → List (Bor (List ℕ)) → List ToldImport → Type 0
  ReadSo all left told = AreKeys unit.imports (map (λ i. i.now) all)
      × ToldSo (map (λ i. i.now) all) (map (λ i. i.now) left) told

  told_none : (all : List (List ℕ)) (told : List ToldImport) → told ≡ [] → ToldSo all all told
  told_none all told none =
      subst (ToldSo all all) (sym none) (record { each = All-nil (IsTold edition digest unit); together = refl })

  pub read_none : (keys all left : List (Bor (List ℕ))) (told : List ToldImport) → all ≡ keys → left ≡ all → told ≡ []
      → AreKeys unit.imports (map (λ i. i.now) keys)
      → ReadSo all left told
  read_none keys all left told same whole none are = (
    subst (λ l. AreKeys unit.imports (map (λ i. i.now) l)) (sym same) are,
    subst (λ l. ToldSo (map (λ i. i.now) all) (map (λ i. i.now) l) told) (sym whole)
        (told_none (map (λ i. i.now) all) told none),
  )

  has_file : (told : ToldImport) → IsTold edition digest unit told → has told.import.now ≡ true
  has_file told is = ap is_some (ap (option_and_then unit.told) is.is_meant ∙ is.is_file)

  by_one : (all rest : List (List ℕ)) (told : List ToldImport) (import : List ℕ) (one : Option ToldImport)
      → IsReadOf edition digest unit import one
      → ToldSo all (import ∷ rest) told
      → ToldSo all rest (told ++ option_to_list one)
  by_one all rest told import None is so = record {
    each = subst (All (IsTold edition digest unit)) (sym (append-nil told)) so.each;
    together = ap (λ l. imports_of l ++ filter has rest) (append-nil told)
        ∙ ap (λ l. imports_of told ++ l) (sym (filter_by false import rest (ap is_some is)))
        ∙ so.together;
  }
  by_one all rest told import (Some one) is so = record {
    each = All-push (IsTold edition digest unit) told one so.each is.1;
    together = ap (λ l. l ++ filter has rest) (map-append (λ t. t.import.now) told (one ∷ []))
        ∙ append_assoc (imports_of told) (one.import.now ∷ []) (filter has rest)
        ∙ ap (λ k. imports_of told ++ k ∷ filter has rest) is.0
        ∙ ap (λ l. imports_of told ++ l)
        (sym (filter_by true import rest (subst (λ k. has k ≡ true) is.0 (has_file one is.1))))
        ∙ so.together;
  }

  pub told_next : (all left rest : List (List ℕ)) (told now : List ToldImport) (import : List ℕ) (one : Option ToldImport)
      → left ≡ import ∷ rest
      → IsReadOf edition digest unit import one
      → now ≡ told ++ option_to_list one
      → ToldSo all left told
      → ToldSo all rest now
  told_next all left rest told now import one parts is more so =
      subst (ToldSo all rest) (sym more)
      (by_one all rest told import one is (subst (λ l. ToldSo all l told) parts so))

  from_filter : (ks : List (List ℕ)) (key : List ℕ) → Contains (filter has ks) key → has key ≡ true
  from_filter [] key h = absurd (contains_nil key h)
  from_filter (k ∷ ks) key h =
      by (has k) refl (from_filter ks key) (subst (λ l. Contains l key) (filter_by (has k) k ks refl) h)
    where
      by : (b : Bool) → has k ≡ b → (Contains (filter has ks) key → has key ≡ true)
          → Contains (cond b (k ∷ filter has ks) (filter has ks)) key
          → has key ≡ true
      by true eq among c =
          elim (contains_cases k key (filter has ks) c) [
            | inl same ↦ subst (λ x. has x ≡ true) same eq
            | inr rest ↦ among rest
          ]
      by false eq among c = among c

  is_import : (o : Option (List ℕ)) → is_some (option_and_then unit.told o) ≡ true → is_some o ≡ true
  is_import None e = e
  is_import (Some path) e = refl

  pub told_all : (all left : List (List ℕ)) (told : List ToldImport) → left ≡ [] → AreKeys unit.imports all
      → ToldSo all left told
      → AreTold edition digest unit told
  told_all all left told none keys so =
      let same : imports_of told ≡ filter has all
      = sym (append-nil (imports_of told)) ∙ subst (λ l. imports_of told ++ filter has l ≡ filter has all) none so.together in
      record {
        each = so.each;
        are_imports = record {
          each = λ key. (
            λ h. from_filter all key (subst (λ l. Contains l key) same h),
            λ e. subst (λ l. Contains l key) (sym same)
                (contains_filter has all key ((keys.each key).1 (is_import (unit.imports key) e)) e),
          );
          ascend = subst (IsStrictlySortedBy (slice_cmp nat_cmp)) (sym same)
              (IsStrictlySortedBy-filter (slice_cmp nat_cmp) has all keys.ascend);
        };
      }
