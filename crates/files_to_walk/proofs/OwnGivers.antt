-- Functions of a package that give cancel functions, or have anything that is tracked, are found by the names that its
-- files declare.
use Rattle.std.proofs.Common.{◌≡◌, ◌⊎◌, inl, inr, ℕ, ◌+◌, Bool, true, false, ◌&&◌, ◌||◌, List, [], ◌∷◌, ◌++◌, Option, Some, None, is_some, bytes_eq, true≢false, refl, sym, ap, ◌∙◌}
use Rattle.std.specs.Prelude.{if◌then◌else◌}
use Rattle.std.specs.List.{list_any}
use Rattle.std.proofs.lemmas.Bool.{and_parts, false≢true}
use Rattle.std.proofs.lemmas.Slice.Eq.{bytes_eq-Decides}
use Rattle.meaning.specs.FunctionFacts.{CancelResult, FunctionFacts, Meanings, function_facts, facts_in, facts_from, package_facts}
use Rattle.meaning.specs.OuterBlocks.{can_be_meant, has_any, or_else}
use Rattle.meaning.specs.TwoFunctions.{FunctionName, function_names_in, function_names_from}
use Rattle.meaning_reports.specs.PackageTables.{tells}
use Rattle.tree.specs.declared.edition.Edition.{Edition}
use Rattle.tree.specs.Syntax.{SourceFile, TopLevelDeclaration, function_declaration, general_declaration}
use Rattle.silent_files.specs.SilentPackages.{GiveNone}
use Rattle.silent_files.proofs.SilentFiles.{neither_first, neither_second}
use Rattle.files_to_walk.specs.Functions.{gives_by, declares_giver, declares_told, has_giver, has_told}

either_known : (a b : Option FunctionFacts) → is_some (or_else a b) ≡ true → (is_some a ≡ true) ⊎ (is_some b ≡ true)
either_known (Some x) b e = inl refl
either_known None b e = inr e

nothing_given : (results : List CancelResult) → has_any results ≡ false → results ≡ []
nothing_given [] none = refl
nothing_given (r ∷ rs) none = absurd (true≢false none)

module _ (facts : List ℕ → Option FunctionFacts) (name : List ℕ) (edition : Edition) where
  none_in : (means : Meanings) (ds : List TopLevelDeclaration) → list_any (declares_giver facts) ds ≡ false
      → is_some (facts_in edition means name ds) ≡ true
      → gives_by (facts name) ≡ false
  none_in means [] none is = absurd (false≢true is)
  none_in means (general_declaration d ∷ ds) none is = none_in means ds none is
  none_in means (function_declaration f ∷ ds) none is =
      by (can_be_meant f && bytes_eq f.name.text name) refl is
      (none_in means ds (neither_second (declares_giver facts (function_declaration f)) (list_any (declares_giver facts) ds) none))
    where
      by : (b : Bool) → (can_be_meant f && bytes_eq f.name.text name) ≡ b
          → is_some (if b then Some (function_facts edition means f) else facts_in edition means name ds) ≡ true
          → (is_some (facts_in edition means name ds) ≡ true → gives_by (facts name) ≡ false)
          → gives_by (facts name) ≡ false
      by true test it rest =
          let parts = and_parts _ _ test in
          let first = neither_first (declares_giver facts (function_declaration f)) (list_any (declares_giver facts) ds) none in
          ap (λ n. gives_by (facts n)) (sym ((bytes_eq-Decides f.name.text name).0 parts.1))
          ∙ (ap (λ b. b && gives_by (facts f.name.text)) (sym parts.0) ∙ first)
      by false test it rest = rest it

  none_from : (means : ℕ → Meanings) (n : ℕ) (fs : List SourceFile) → list_any (has_giver facts) fs ≡ false
      → is_some (facts_from edition means name n fs) ≡ true
      → gives_by (facts name) ≡ false
  none_from means n [] none is = absurd (false≢true is)
  none_from means n (f ∷ fs) none is =
      elim (either_known (facts_in edition (means n) name f.declarations) (facts_from edition means name (n + 1) fs) is) [
        | inl here ↦
            none_in (means n) f.declarations
            (neither_first (has_giver facts f) (list_any (has_giver facts) fs) none) here
        | inr later ↦
            none_from means (n + 1) fs (neither_second (has_giver facts f) (list_any (has_giver facts) fs) none) later
      ]

-- where no file has a giver, none gives
pub none_gives : (facts : List ℕ → Option FunctionFacts) (edition : Edition) (means : ℕ → Meanings) (fs : List SourceFile)
    → ((name : List ℕ) → facts name ≡ package_facts edition means fs name)
    → list_any (has_giver facts) fs ≡ false
    → GiveNone facts
none_gives facts edition means fs are none name f is =
    nothing_given f.gives
    (sym (ap gives_by is) ∙ none_from facts name edition means 0 fs none (ap is_some (sym (are name) ∙ is)))

-- Something tracked

module _ (facts : List ℕ → Option FunctionFacts) where
  abbrev told : FunctionName → Bool
  told n = tells (facts n.name.text)

  told_in : (n : ℕ) (ds : List TopLevelDeclaration)
      → list_any (declares_told facts) ds ≡ list_any told (function_names_in n ds)
  told_in n [] = refl
  told_in n (general_declaration d ∷ ds) = told_in n ds
  told_in n (function_declaration f ∷ ds) = by (can_be_meant f) (told_in n ds)
    where
      by : (b : Bool) → list_any (declares_told facts) ds ≡ list_any told (function_names_in n ds)
          → ((b && tells (facts f.name.text)) || list_any (declares_told facts) ds)
          ≡ list_any told (if b then record { file = n; name = f.name } ∷ function_names_in n ds else function_names_in n ds)
      by true rest = ap (λ b. tells (facts f.name.text) || b) rest
      by false rest = rest

  any_append : (xs ys : List FunctionName) → list_any told (xs ++ ys) ≡ (list_any told xs || list_any told ys)
  any_append [] ys = refl
  any_append (x ∷ xs) ys = by (told x) (any_append xs ys)
    where
      by : (b : Bool) → list_any told (xs ++ ys) ≡ (list_any told xs || list_any told ys)
          → (b || list_any told (xs ++ ys)) ≡ ((b || list_any told xs) || list_any told ys)
      by true rest = refl
      by false rest = rest

  -- by the functions of all files
  pub told_from : (n : ℕ) (fs : List SourceFile)
      → list_any (has_told facts) fs ≡ list_any told (function_names_from n fs)
  told_from n [] = refl
  told_from n (f ∷ fs) =
      (λ i. told_in n f.declarations i || told_from (n + 1) fs i)
      ∙ sym (any_append (function_names_in n f.declarations) (function_names_from (n + 1) fs))
