-- The ways of the packages that are explained, one package after the other.
use Rattle.std.proofs.Common.{◌≡◌, ℕ, ◌+◌, true, inl, inr, List, [], ◌∷◌, ◌++◌, map, drop, get_or, length, ◌<◌, Contains, Result, Ok, Err, Some, is_some, sym, ap, ◌∙◌, subst}
use Rattle.std.specs.Prelude.{IfOk, slice_get}
use Rattle.std.proofs.lemmas.List.{append_assoc, drop_more, length-append, map-append}
use Rattle.std.proofs.lemmas.Option.{none-some, same_Some, slice_get-get_or}
use Rattle.body_ways.specs.BodyWays.{ToldWay}
use Rattle.all_packages.specs.Reports.{AreReports}
use Rattle.explanations.proofs.DiagnosticWays.{says_path, tells_way}
use Rattle.explanations.proofs.RightImports.{by_tables}
use Rattle.explanations.specs.Explained.{AreExplained, AreToldBy, HaveTheirNotes}
use Rattle.explanations.specs.Found.{any_of_path, path_code_of, AreNotesByWays}
use Rattle.explanations.specs.Plain.{judged_view, plain_view}
use Rattle.explanations.specs.Right.{AreJudgedBy}
use Rattle.explanations.specs.Ways.{ArePackageWays}
use Rattle.lexer.specs.declared.source.Source.{Source}
use Rattle.meaning.proofs.Membership.{contains_map}
use Rattle.meaning_reports.specs.Loaded.{LoadedPackage, Tables}
use Rattle.meaning_reports.specs.PackageReports.{AreFindingsBy, by_paths}
use Rattle.meaning_reports.specs.WholeFaults.{HasNoWholeFault}
use Rattle.given_packages.specs.Given.{TellsGiven}
use Rattle.given_packages.specs.declared.given.Given.{Given}
use Rattle.one_package.specs.declared.judged.Judged.{Judged}
use Rattle.path_faults.proofs.Places.{any_holds}
use Rattle.report.specs.Entries.{entry_of}
use Rattle.report.specs.declared.diagnostics.Diagnostic.{Diagnostic}
use Rattle.report.specs.Notes.{plain_of}
use Rattle.report.specs.declared.notes.ExplainedDiagnostic.{ExplainedDiagnostic}
use Rattle.report.specs.declared.notes.ExplainedPackage.{ExplainedPackage}
use Rattle.silent_files.proofs.OneMore.{last_or_before}
use Rattle.whole_packages.specs.LoadedViews.{HaveDistinctPaths, TellPackages}
use Rattle.whole_packages.specs.declared.loaded_package.LoadedPackage.{LoadedPackage as KeptPackage}

pub if_both : {T E : Type 0} (P Q : T → Type 0) (r : Result T E) → IfOk r P → IfOk r Q → IfOk r (λ t. P t × Q t)
if_both P Q (Ok t) p q = (p, q)
if_both P Q (Err e) p q = p

-- the diagnostics of a report, with notes by what is told of the package's paths
pub are_told : (declared : Tables) (ps : List LoadedPackage) (tables : Tables) (i : ℕ) (sources : List Source)
    (ways : List (List ToldWay)) (diagnostics : List Diagnostic) (explained : List ExplainedDiagnostic)
    → (any_of_path diagnostics ≡ true → HasNoWholeFault ps i → ArePackageWays ps tables i ways)
    → AreFindingsBy (by_paths declared) ps tables i (map entry_of diagnostics)
    → plain_of explained ≡ diagnostics
    → AreNotesByWays sources ways explained
    → AreToldBy ps tables i sources explained
are_told declared ps tables i sources ways diagnostics explained so found same noted d is_d of_path =
    let there = subst (λ ds. Contains ds d.diagnostic) same
    (contains_map (λ (e : ExplainedDiagnostic). e.diagnostic) explained d is_d) in
    let said = says_path declared ps tables i (entry_of d.diagnostic)
    ((found.each (entry_of d.diagnostic)).0 (contains_map entry_of diagnostics d.diagnostic there)) of_path in
    let are = so (any_holds (λ (x : Diagnostic). is_some (path_code_of x.code)) diagnostics d.diagnostic there of_path)
    said.0 in
    let has = noted d is_d of_path in
    tells_way ps tables i sources ways d are said.1 of_path has.0 has.1

-- one more says what its report says
pub more_packages : (judged : List Judged) (i : ℕ) (one : Judged) (e : ExplainedPackage)
    (before after : List ExplainedPackage)
    → i < length judged
    → slice_get judged i ≡ Some one
    → after ≡ before ++ e ∷ []
    → plain_view e ≡ judged_view one
    → map plain_view before ++ map judged_view (drop i judged) ≡ map judged_view judged
    → map plain_view after ++ map judged_view (drop (i + 1) judged) ≡ map judged_view judged
more_packages judged i one e before after within is_one after_is same so_far =
    let rest = map judged_view (drop (i + 1) judged) in
    let here = same_Some (get_or judged i one) one (sym (slice_get-get_or judged i one within) ∙ is_one) in
    ap (λ es. map plain_view es ++ rest) after_is
    ∙ (ap (λ vs. vs ++ rest) (map-append plain_view before (e ∷ []))
    ∙ (append_assoc (map plain_view before) (plain_view e ∷ []) rest
    ∙ (ap (λ v. map plain_view before ++ v ∷ rest) (same ∙ ap judged_view (sym here))
    ∙ (ap (λ js. map plain_view before ++ map judged_view js) (sym (drop_more judged i one within)) ∙ so_far))))

-- What is explained of a place, by whatever tables these packages were judged right

module _ (given : Given) (judged : List Judged) where
  abbrev pub TellsAt : ℕ → ExplainedPackage → Type 0
  TellsAt i e = (declared : Tables) (ps : List LoadedPackage) (tables : Tables) (p : LoadedPackage)
      → TellsGiven declared ps given
      → HaveDistinctPaths ps
      → AreJudgedBy declared ps tables judged
      → slice_get ps i ≡ Some p
      → HaveTheirNotes ps tables i p e.sources.now e.diagnostics.items

  -- those before the place are
  pub record AreExplainedTo (count : ℕ) (explained : List ExplainedPackage) : Type 0 where
    pub are_as_many : length explained ≡ count
    pub each : (i : ℕ) (e : ExplainedPackage) → slice_get explained i ≡ Some e → TellsAt i e

  pub none_explained : (explained : List ExplainedPackage) → explained ≡ [] → AreExplainedTo 0 explained
  none_explained explained none = record {
    are_as_many = ap length none;
    each = λ i e is. absurd (none-some e (ap (λ es. slice_get es i) (sym none) ∙ is));
  }

  pub one_explained : (count : ℕ) (explained next : List ExplainedPackage) (one : Judged) (e : ExplainedPackage)
      → slice_get judged count ≡ Some one
      → next ≡ explained ++ e ∷ []
      → ((declared : Tables) (ps : List LoadedPackage) (tables : Tables) (p : LoadedPackage)
      → TellsGiven declared ps given → HaveDistinctPaths ps → AreJudgedBy declared ps tables judged
      → slice_get ps count ≡ Some p
      → AreFindingsBy (by_paths declared) ps tables count (map entry_of one.report.diagnostics.items)
      → HaveTheirNotes ps tables count p e.sources.now e.diagnostics.items)
      → AreExplainedTo count explained
      → AreExplainedTo (count + 1) next
  one_explained count explained next one e is_one is_next so h = record {
    are_as_many = ap length is_next ∙ (length-append explained (e ∷ []) ∙ ap (λ n. n + 1) h.are_as_many);
    each = λ i f is. elim (last_or_before explained e i f (ap (λ es. slice_get es i) (sym is_next) ∙ is)) [
      | inl before ↦ h.each i f before
      | inr last ↦ λ declared ps tables p tells distinct right is_p.
          let same : i ≡ count = last.0 ∙ h.are_as_many in
          let is_p_there = ap (slice_get ps) (sym same) ∙ is_p in
          subst (λ n. HaveTheirNotes ps tables n p f.sources.now f.diagnostics.items) (sym same)
          (subst (λ (x : ExplainedPackage). HaveTheirNotes ps tables count p x.sources.now x.diagnostics.items) last.1
          (so declared ps tables p tells distinct right is_p_there
          (right.each count p one is_p_there is_one).are_findings))
    ];
  }

  pub all_explained : (count : ℕ) (explained : List ExplainedPackage) → length judged ≡ count
      → AreExplainedTo count explained
      → (declared : Tables) (ps : List LoadedPackage) (kept : List KeptPackage)
      → TellsGiven declared ps given
      → TellPackages ps kept
      → HaveDistinctPaths ps
      → AreReports declared ps kept judged
      → AreExplained declared ps explained
  all_explained count explained size h declared ps kept given tell distinct reports =
      let right = by_tables declared ps kept judged tell reports in
      record {
        tables = reports.is_report.tables;
        are_tables = reports.is_report.are_tables;
        each = λ i p e is_p is. h.each i e is declared ps reports.is_report.tables p given distinct right is_p;
      }
