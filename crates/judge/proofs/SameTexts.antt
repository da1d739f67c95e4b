-- By `one_report` the same is said of packages with the same sources, so that the same is told of them.
use Rattle.std.proofs.Common.{◌≡◌, ℕ, suc, List, [], ◌∷◌, map, Some, refl, ap, sym, ◌∙◌}
use Rattle.std.specs.Prelude.{slice_get}
use Rattle.accepting.specs.Findings.{FindingEntry, FoundEntry, plain_finding, plain_package}
use Rattle.report.specs.declared.diagnostics.Diagnostic.{Diagnostic}
use Rattle.report.specs.declared.diagnostics.PackageReport.{PackageReport}
use Rattle.report.specs.Entries.{Entry, entry_of, texts_of}
use Rattle.meaning_reports.specs.Loaded.{LoadedPackage, PackageTable, Tables}
use Rattle.meaning_reports.specs.PackageReports.{Said, IsReportOf}
use Rattle.meaning_reports.proofs.OneReport.{one_report}
use Rattle.std.specs.Prelude.{None}

-- a finding without notes, of what is said
abbrev finding_of : Entry → FindingEntry
finding_of x = record { said = x; notes = []; way = []; accepted = None }

findings_of : (ds : List Diagnostic) → map plain_finding ds ≡ map finding_of (map entry_of ds)
findings_of [] = refl
findings_of (d ∷ ds) = ap (λ fs. plain_finding d ∷ fs) (findings_of ds)

-- what is kept of each package, with its report and its table
module _ {J : Type 0} (report_of : J → PackageReport) (table_of : J → PackageTable) where
  abbrev said_of : J → Said
  said_of j = record {
    path = (report_of j).path.now;
    entries = map entry_of (report_of j).diagnostics.items;
    keeping = texts_of (report_of j).keeping.items;
    table = table_of j;
  }

  -- at each place the sources are the same
  abbrev pub HaveOneSource : List J → List J → Type 0
  HaveOneSource one other = (i : ℕ) (a b : J)
      → slice_get one i ≡ Some a
      → slice_get other i ≡ Some b
      → (report_of a).sources.now ≡ (report_of b).sources.now

  tell_the_same : (a b : J) → said_of a ≡ said_of b → (report_of a).sources.now ≡ (report_of b).sources.now
      → plain_package (report_of a) ≡ plain_package (report_of b)
  tell_the_same a b same sources =
      let findings : map plain_finding (report_of a).diagnostics.items ≡ map plain_finding (report_of b).diagnostics.items =
      findings_of (report_of a).diagnostics.items
      ∙ (ap (λ (s : Said). map finding_of s.entries) same ∙ sym (findings_of (report_of b).diagnostics.items)) in
      λ i. record {
        path = (same i).path;
        sources = sources i;
        keeping = (same i).keeping;
        findings = findings i;
      }

  all_tell_the_same : (one other : List J) → map said_of one ≡ map said_of other → HaveOneSource one other
      → map plain_package (map report_of one) ≡ map plain_package (map report_of other)
  all_tell_the_same [] [] same sources = refl
  all_tell_the_same [] (b ∷ bs) same sources = let bad : [] ≡ said_of b ∷ map said_of bs = same in cc
  all_tell_the_same (a ∷ more) [] same sources = let bad : said_of a ∷ map said_of more ≡ [] = same in cc
  all_tell_the_same (a ∷ others) (b ∷ bs) same sources =
      let first : said_of a ≡ said_of b = cc in
      let rest : map said_of others ≡ map said_of bs = cc in
      let here = tell_the_same a b first (sources 0 a b refl refl) in
      let there = all_tell_the_same others bs rest (λ i c d is that. sources (suc i) c d is that) in
      λ i. here i ∷ there i

  pub one_telling : (declared : Tables) (ps : List LoadedPackage) (one other : List J)
      → IsReportOf declared ps (map said_of one)
      → IsReportOf declared ps (map said_of other)
      → HaveOneSource one other
      → map plain_package (map report_of one) ≡ map plain_package (map report_of other)
  one_telling declared ps one other h k sources =
      all_tell_the_same one other (one_report declared ps (map said_of one) (map said_of other) h k) sources
