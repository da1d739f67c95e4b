-- What is kept of the uses of a package's files gives each diagnostic the reason of its use.
use Rattle.std.proofs.Common.{◌≡◌, ℕ, zero, suc, ◌+◌, false, if◌then◌else◌, List, [], ◌∷◌, map, Contains, Option, None, Some, option_map, is_some, refl, sym, ap, ◌∙◌, arith}
use Rattle.std.specs.Prelude.{slice_get}
use Rattle.std.proofs.lemmas.Bool.{eq-eqb, false≢true}
use Rattle.explanations.proofs.FirstAsked.{found}
use Rattle.explanations.specs.KeptUses.{any_of_use, asked_in, asked_there, asked_view, file_reasons, kept_reason, reason_by, reasons_from, FileReasons, HaveReasons}
use Rattle.explanations.specs.Uses.{Asked, asked_at, asked_by, asked_of, reason_if, reason_in}
use Rattle.imports.proofs.Membership.{makes}
use Rattle.meaning.specs.FunctionFacts.{Meanings, FunctionFacts}
use Rattle.meaning.specs.Tracked.{Fields, Known}
use Rattle.meaning_reports.specs.Loaded.{LoadedPackage, Tables, imported_signatures, keeping_in, known_in, means_in, signatures_of, trees_of}
use Rattle.path_faults.proofs.Places.{any_holds}
use Rattle.report.specs.Entries.{entry_of}
use Rattle.report.specs.declared.diagnostics.Diagnostic.{Diagnostic}
use Rattle.tree.specs.declared.edition.Edition.{Edition}
use Rattle.tree.specs.Syntax.{SourceFile}
use Rattle.use_reasons.specs.UseReasons.{AskedOf, UseReason}
use Rattle.use_reasons.specs.declared.uses.AskedUse.{AskedUse}

-- the reasons of uses as they are kept
pub of_views : (f : Asked → Option UseReason) (us : List AskedUse)
    → map (λ u. f (asked_view u)) us ≡ map f (map asked_view us)
of_views f [] = refl
of_views f (u ∷ us) = ap (λ rs. f (asked_view u) ∷ rs) (of_views f us)

module _ (known : ℕ → Known) (ds : List Diagnostic) where
  -- the reasons of the file of that number
  abbrev reasons_there : ℕ → SourceFile → FileReasons
  reasons_there n tree = file_reasons (known n) tree (asked_in n ds)

  file_from : (n : ℕ) (trees : List SourceFile) (k : ℕ)
      → slice_get (reasons_from known ds n trees) k ≡ option_map (reasons_there (n + k)) (slice_get trees k)
  file_from n [] k = refl
  file_from n (tree ∷ trees) zero =
      let same : n ≡ n + 0 = omega arith in ap (λ m. Some (reasons_there m tree)) same
  file_from n (tree ∷ trees) (suc k) =
      let same : (n + 1) + k ≡ n + suc k = omega arith in
      file_from (n + 1) trees k ∙ ap (λ m. option_map (reasons_there m) (slice_get trees k)) same

  asked_among : (d : Diagnostic) (u : Asked) → Contains ds d → asked_by (entry_of d) ≡ Some u
      → Contains (asked_in d.file ds) u
  asked_among d u h e =
      makes (asked_there d.file) ds d u h
      (ap (λ b. if b then asked_by (entry_of d) else None) (eq-eqb d.file d.file refl) ∙ e)

  there_told : (d : Diagnostic) → Contains ds d → (a : Option Asked) (tree : Option SourceFile)
      → asked_by (entry_of d) ≡ a
      → kept_reason a (option_map (reasons_there d.file) tree) ≡ reason_if (known d.file) a tree
  there_told d h None tree e = refl
  there_told d h (Some u) None e = refl
  there_told d h (Some u) (Some tree) e =
      found (reason_in (known d.file) tree) u (asked_in d.file ds) (asked_among d u h e)

  use_told : (trees : List SourceFile) (d : Diagnostic) → Contains ds d
      → reason_by (reasons_from known ds 0 trees) (entry_of d)
      ≡ reason_if (known d.file) (asked_by (entry_of d)) (slice_get trees d.file)
  use_told trees d h =
      let same : 0 + d.file ≡ d.file = omega arith in
      ap (kept_reason (asked_by (entry_of d)))
      (file_from 0 trees d.file ∙ ap (λ m. option_map (reasons_there m) (slice_get trees d.file)) same)
      ∙ there_told d h (asked_by (entry_of d)) (slice_get trees d.file) refl

module _ (ps : List LoadedPackage) (tables : Tables) (p : LoadedPackage) (edition : Edition)
    (means : ℕ → Meanings) (fields : Fields) (functions : List ℕ → Option FunctionFacts)
    (imported : List ℕ → List ℕ → Option FunctionFacts)
    (is_edition : edition ≡ p.edition)
    (are_means : (file at : ℕ) → means file at ≡ means_in ps p file at)
    (are_fields : fields ≡ keeping_in ps tables p)
    (are_functions : (name : List ℕ) → functions name ≡ signatures_of ps p name)
    (are_imported : (path name : List ℕ) → imported path name ≡ imported_signatures p tables path name) where
  abbrev pub known_there : ℕ → Known
  known_there number = record {
    edition = edition;
    means = means number;
    fields = fields;
    object_lefts = λ at. None;
    functions = functions;
    imported = imported;
  }

  is_known : (number : ℕ) → known_there number ≡ known_in ps tables p number
  is_known number i = record {
    edition = is_edition i;
    means = λ at. are_means number at i;
    fields = are_fields i;
    object_lefts = λ at. None;
    functions = λ name. are_functions name i;
    imported = λ path name. are_imported path name i;
  }

  pub have_reasons : (trees : List SourceFile) (ds : List Diagnostic) → trees ≡ trees_of p
      → HaveReasons ps tables p ds (reasons_from known_there ds 0 trees)
  have_reasons trees ds same d h =
      use_told known_there ds trees d h
      ∙ λ i. reason_if (is_known d.file i) (asked_by (entry_of d)) (slice_get (same i) d.file)

-- Where none of the diagnostics tells of a use, none has a reason.

none_told : (ps : List LoadedPackage) (tables : Tables) (p : LoadedPackage) (d : Diagnostic) (of : Option AskedOf)
    → is_some of ≡ false
    → kept_reason (option_map (asked_at d.offset) of) None
    ≡ reason_if (known_in ps tables p d.file) (option_map (asked_at d.offset) of) (slice_get (trees_of p) d.file)
none_told ps tables p d None e = refl
none_told ps tables p d (Some of) e = absurd (false≢true (sym e))

is_none : (ds : List Diagnostic) (d : Diagnostic) → any_of_use ds ≡ false → Contains ds d
    → is_some (asked_of d.code) ≡ false
is_none ds d none h = by (asked_of d.code) refl
  where
    by : (of : Option AskedOf) → asked_of d.code ≡ of → is_some (asked_of d.code) ≡ false
    by None e = ap is_some e
    by (Some of) e =
        absurd (false≢true (sym none ∙ any_holds (λ (x : Diagnostic). is_some (asked_of x.code)) ds d h (ap is_some e)))

pub none_asked : (ps : List LoadedPackage) (tables : Tables) (p : LoadedPackage) (ds : List Diagnostic)
    → any_of_use ds ≡ false
    → HaveReasons ps tables p ds []
none_asked ps tables p ds none d h = none_told ps tables p d (asked_of d.code) (is_none ds d none h)
