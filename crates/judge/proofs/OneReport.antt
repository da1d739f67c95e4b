-- Given packages have one report. They are loaded in one way, but for the reasons why trees are missing; and where one is
-- missing, the package is no yes in either report.
use Rattle.std.proofs.Common.{◌≡◌, ℕ, ◌+◌, zero, suc, ◌⊎◌, inl, inr, Bool, true, false, ◌&&◌, cond, List, [], ◌∷◌, length, map, Some, None, Contains, refl, sym, ap, ◌∙◌, subst, arith}
use Rattle.std.specs.Prelude.{option_map, slice_get}
use Rattle.std.specs.List.{list_all}
use Rattle.std.proofs.lemmas.List.{length-map}
use Rattle.std.proofs.lemmas.List.Sorted.{Contains-permutation, IsPermutation-sym}
use Rattle.std.proofs.lemmas.Option.{same_Some, slice_get_within, get_or_from_slice_get, slice_get-map}
use Rattle.lexer.specs.declared.source.Source.{Source}
use Rattle.meaning.proofs.Membership.{contains_nil, contains_unmap}
use Rattle.report.specs.declared.diagnostics.Diagnostic.{Diagnostic}
use Rattle.report.specs.Entries.{Entry, entry_of}
use Rattle.report_formats.specs.Formats.{text_of}
use Rattle.accepting.specs.ByBaseline.{Key, baseline_keys, key_in}
use Rattle.accepting.specs.Findings.{FoundEntry, plain_package}
use Rattle.accepting.specs.Found.{asked_among, found_by, told_in}
use Rattle.accepting.specs.declared.telling.Telling.{Telling}
use Rattle.baseline_json.specs.BaselineValues.{entry_of as known_entry}
use Rattle.baseline_json.specs.declared.baseline.BaselineFinding.{BaselineFinding}
use Rattle.meaning_reports.specs.Loaded.{Reading, has_tree, has_text_fault, has_tree_fault, LoadedPackage, Tables}
use Rattle.meaning_reports.specs.WholeFaults.{IsWholeFault, has_no_tree}
use Rattle.meaning_reports.specs.PackageReports.{of_whole, Said, IsReportOf}
use Rattle.meaning_reports.proofs.OneReport.{one_report}
use Rattle.whole_packages.specs.declared.loaded_package.LoadedPackage.{LoadedPackage as KeptPackage}
use Rattle.load.specs.declared.packages.GivenPackage.{GivenPackage}
use Rattle.load.specs.Readings.{IsReadingOf}
use Rattle.load.specs.GivenPackages.{PathAndFiles, entry_of as path_and_files, paths_of, AreLoaded, IsLoad}
use Rattle.load.specs.MeantPaths.{MeantPath}
use Rattle.one_package.specs.declared.judged.Judged.{Judged}
use Rattle.one_package.specs.Judgments.{table_view, said_view, says_nothing, is_yes}
use Rattle.all_packages.specs.Reports.{report_in}
use Rattle.told_reports.specs.Reports.{gone_by, gone_in, package_passes, AreCounted}
use Rattle.told_reports.specs.declared.reports.Counts.{Counts}
use Rattle.declared_tables.specs.DeclaredTables.{declared_tables}
use Rattle.declared_json.specs.DeclaredPackages.{PackageEntry}
use Rattle.judge.specs.Reports.{Report, IsReport}
use Rattle.judge.specs.OneReport.{AcceptTheSame, HaveTrees, GivenPackagesHaveOneReport}
use Rattle.judge.proofs.LoadedPackages.{are_as_many, each_loaded}
use Rattle.judge.proofs.SourcePlaces.{source_there, there}
use Rattle.judge.proofs.SameTexts.{one_telling}
use Rattle.judge.proofs.OneLoad.{one_order, HasTreeFault, HasNoTreeIn, one_way, one_source}

-- Verdicts

-- there is no entry
abbrev is_empty : List Entry → Bool
is_empty [] = true
is_empty (x ∷ xs) = false

abbrev is_quiet : Said → Bool
is_quiet said = is_empty said.entries

nothing_said : (ds : List Diagnostic) → says_nothing ds ≡ is_empty (map entry_of ds)
nothing_said [] = refl
nothing_said (d ∷ ds) = refl

all_quiet : (said : List Judged) → list_all is_yes (map report_in said) ≡ list_all is_quiet (map said_view said)
all_quiet [] = refl
all_quiet (j ∷ js) =
    let first = nothing_said j.report.diagnostics.items in
    let rest = all_quiet js in
    λ i. first i && rest i

not_all : (said : List Said) (i : ℕ) (s : Said) → slice_get said i ≡ Some s → is_quiet s ≡ false → list_all is_quiet said ≡ false
not_all [] zero s is loud = let bad : None ≡ Some s = is in cc
not_all [] (suc i) s is loud = let bad : None ≡ Some s = is in cc
not_all (x ∷ xs) zero s is loud =
    ap (λ (b : Bool). b && list_all is_quiet xs) (ap is_quiet (same_Some x s is) ∙ loud)
not_all (x ∷ xs) (suc i) s is loud = by (is_quiet x) (not_all xs i s is loud)
  where
    by : (b : Bool) → list_all is_quiet xs ≡ false → (b && list_all is_quiet xs) ≡ false
    by true rest = rest
    by false rest = refl

some_entry : (xs : List Entry) (x : Entry) → Contains xs x → is_empty xs ≡ false
some_entry [] x h = absurd (contains_nil x h)
some_entry (y ∷ ys) x h = refl

whole_fault : (ps : List LoadedPackage) (h : HasNoTreeIn ps) → (x : Entry) × IsWholeFault ps h.place x
whole_fault ps h = by h.file.reading h.file.is_there h.file.is_fault
  where
    by : (r : Reading) → slice_get h.loaded.files h.file.place ≡ Some r → HasTreeFault r → (x : Entry) × IsWholeFault ps h.place x
    by (has_tree tree) is fault = absurd fault
    by (has_text_fault at why) is fault = absurd fault
    by (has_tree_fault at why) is fault = (_, has_no_tree h.loaded h.file.place at why h.is_there is)

-- a package in which a tree is missing is no yes
no_yes : (declared : Tables) (ps : List LoadedPackage) (said : List Said) → IsReportOf declared ps said → HasNoTreeIn ps → list_all is_quiet said ≡ false
no_yes declared ps said reports h =
    let within = slice_get_within ps h.place h.loaded h.is_there in
    let long = reports.is_as_long in
    let s = there said h.place (omega (arith, within, long)) in
    let findings = (reports.of_package h.place h.loaded s.0 h.is_there s.1).are_findings in
    let fault = whole_fault ps h in
    not_all said h.place s.0 s.1 (some_entry s.0.entries fault.0 ((findings.each fault.0).1 (of_whole fault.1)))

-- What is told

counted : (gone : ℕ) (found : List FoundEntry) (one other : Counts) → AreCounted gone found one
    → AreCounted gone found other
    → one ≡ other
counted gone found one other h k = λ i. record {
  packages = (h.packages ∙ sym k.packages) i;
  yes = (h.yes ∙ sym k.yes) i;
  accepted = (h.accepted ∙ sym k.accepted) i;
  findings = (h.findings ∙ sym k.findings) i;
  accepted_findings = (h.accepted_findings ∙ sym k.accepted_findings) i;
  gone = (h.are_gone ∙ sym k.are_gone) i;
}

-- what is known, by its keys
keys_are : (fs : List BaselineFinding) → map key_in (map known_entry fs) ≡ baseline_keys fs
keys_are [] = refl
keys_are (f ∷ fs) = ap (λ (ks : List Key). key_in (known_entry f) ∷ ks) (keys_are fs)

same_keys : (one other : Telling) → AcceptTheSame one other
    → baseline_keys one.baseline.now ≡ baseline_keys other.baseline.now
same_keys one other same =
    sym (keys_are one.baseline.now) ∙ (ap (map key_in) same.known ∙ keys_are other.baseline.now)

-- what is found by two that accept the same, and what is gone
found_too : (one other : Telling) → AcceptTheSame one other → (ps : List FoundEntry) → told_in one ps ≡ told_in other ps
found_too one other same ps =
    λ i. found_by (same.wording i) (same.stale i) (same_keys one other same i) (asked_among (same.unasked i) ps)

gone_too : (one other : Telling) → AcceptTheSame one other → (ps : List FoundEntry) → gone_in one ps ≡ gone_in other ps
gone_too one other same ps = λ i. gone_by (same.wording i) (same.known i) ps

-- Two reports

module _
    (telling telling_too : Telling) (outside : List PackageEntry) (given : List GivenPackage) (one other : Report)
    (h : IsReport telling outside given one) (k : IsReport telling_too outside given other) where
  abbrev declared : Tables
  declared = declared_tables outside

  abbrev first_kept : List KeptPackage
  first_kept = h.loaded.packages.items

  abbrev second_kept : List KeptPackage
  second_kept = k.loaded.packages.items

  abbrev first_load : IsLoad given first_kept
  first_load = h.load.load

  abbrev second_load : IsLoad given second_kept
  second_load = k.load.load

  order : first_load.in_order ≡ second_load.in_order
  order = one_order (map path_and_files given) first_kept second_kept first_load second_load

  -- what is kept in the second report, of the entries in the order of the first
  loaded_too : AreLoaded first_load.in_order second_load.meant second_kept
  loaded_too = subst (λ (es : List PathAndFiles). AreLoaded es second_load.meant second_kept) (sym order) second_load.are_loaded

  ways : (first_load.meant ≡ second_load.meant) ⊎ (HasNoTreeIn first_load.meant × HasNoTreeIn second_load.meant)
  ways = one_way first_load.in_order first_load.meant second_load.meant first_kept second_kept first_load.are_loaded loaded_too

  -- the second report as one of the packages of the first
  report_too : first_load.meant ≡ second_load.meant → IsReportOf declared first_load.meant (map said_view k.said)
  report_too same =
      subst (λ (ps : List LoadedPackage). IsReportOf declared ps (map said_view k.said)) (sym same) k.are_reports.is_report

  same_said : first_load.meant ≡ second_load.meant → map said_view h.said ≡ map said_view k.said
  same_said same =
      one_report declared first_load.meant (map said_view h.said) (map said_view k.said) h.are_reports.is_report
      (report_too same)

  verdicts : list_all is_quiet (map said_view h.said) ≡ list_all is_quiet (map said_view k.said)
  verdicts = by ways
    where
      by : (first_load.meant ≡ second_load.meant) ⊎ (HasNoTreeIn first_load.meant × HasNoTreeIn second_load.meant)
          → list_all is_quiet (map said_view h.said) ≡ list_all is_quiet (map said_view k.said)
      by (inl same) = ap (list_all is_quiet) (same_said same)
      by (inr w) =
          no_yes declared first_load.meant (map said_view h.said) h.are_reports.is_report w.0
          ∙ sym (no_yes declared second_load.meant (map said_view k.said) k.are_reports.is_report w.1)

  same_verdict : one.yes ≡ other.yes
  same_verdict =
      h.told.verdict ∙ (all_quiet h.said ∙ (verdicts ∙ (sym (all_quiet k.said) ∙ sym k.told.verdict)))

  -- no tree is missing
  none_missing : HaveTrees given → HasNoTreeIn first_load.meant → ⊥
  none_missing trees w =
      let within = slice_get_within first_load.meant w.place w.loaded w.is_there in
      let long = are_as_many first_load.in_order first_load.meant first_kept first_load.are_loaded in
      let kept = there first_kept w.place (omega (arith, within, long)) in
      let own = each_loaded first_load.in_order first_load.meant first_kept first_load.are_loaded w.place w.loaded kept.0 w.is_there kept.1 in
      let paths = paths_of own.of.1.imports in
      let s = source_there own.of.1.edition paths kept.0.sources.items w.loaded.files own.loaded.are_files w.file.place w.file.reading w.file.is_there in
      let among : Contains kept.0.sources.items s.0 =
      (w.file.place, slice_get_within kept.0.sources.items w.file.place s.0 s.1, get_or_from_slice_get kept.0.sources.items w.file.place s.0 s.0 s.1) in
      let by_name = own.loaded.by_name.same in
      let its = Contains-permutation kept.0.sources.items own.of.1.sources.items s.0
      (IsPermutation-sym own.of.1.sources.items kept.0.sources.items by_name) among in
      let entry = Contains-permutation first_load.in_order (map path_and_files given) own.of
      (IsPermutation-sym (map path_and_files given) first_load.in_order first_load.same) own.is_given in
      let g = contains_unmap path_and_files given own.of entry in
      let in_given : Contains g.0.sources.items s.0 =
      subst (λ (e : PathAndFiles). Contains e.1.sources.items s.0) (sym g.2) its in
      let edition : own.of.1.edition ≡ g.0.edition = ap (λ (e : PathAndFiles). e.1.edition) (sym g.2) in
      by g.0 paths s.0 g.1 in_given w.file.reading
      (subst (λ e. IsReadingOf e paths s.0.bytes.items w.file.reading) edition s.2)
      w.file.is_fault
    where
      by : (g : GivenPackage) (paths : List MeantPath) (s : Source) → Contains given g → Contains g.sources.items s → (r : Reading)
          → IsReadingOf g.edition paths s.bytes.items r
          → HasTreeFault r
          → ⊥
      by g paths s among its (has_tree tree) read fault = fault
      by g paths s among its (has_text_fault at why) read fault = fault
      by g paths s among its (has_tree_fault at why) read fault =
          let tree = trees g s read.tokens among its read.cut in read.no_tree tree.0 tree.1

  sources : (i : ℕ) (a b : Judged) → slice_get h.said i ≡ Some a → slice_get k.said i ≡ Some b
      → a.report.sources.now ≡ b.report.sources.now
  sources i a b is that =
      let first = slice_get-map said_view h.said i ∙ ap (option_map said_view) is in
      let second = slice_get-map said_view k.said i ∙ ap (option_map said_view) that in
      let in_first = slice_get_within (map said_view h.said) i (said_view a) first in
      let in_second = slice_get_within (map said_view k.said) i (said_view b) second in
      let long = h.are_reports.is_report.is_as_long in
      let long_too = k.are_reports.is_report.is_as_long in
      let many = are_as_many first_load.in_order first_load.meant first_kept first_load.are_loaded in
      let many_too = are_as_many second_load.in_order second_load.meant second_kept second_load.are_loaded in
      let kept = there first_kept i (omega (arith, in_first, long, many)) in
      let others = there second_kept i (omega (arith, in_second, long_too, many_too)) in
      (h.are_reports.are_told i kept.0 a kept.1 is).are_sources
      ∙ (one_source first_load.in_order first_load.meant second_load.meant first_kept second_kept first_load.are_loaded loaded_too i kept.0 others.0 kept.1 others.1
      ∙ sym (k.are_reports.are_told i others.0 b others.1 that).are_sources)

  -- where no tree is missing, the same is told of
  told_of : HaveTrees given → map plain_package (map report_in h.said) ≡ map plain_package (map report_in k.said)
  told_of trees = by ways
    where
      by : (first_load.meant ≡ second_load.meant) ⊎ (HasNoTreeIn first_load.meant × HasNoTreeIn second_load.meant)
          → map plain_package (map report_in h.said) ≡ map plain_package (map report_in k.said)
      by (inl same) =
          one_telling report_in table_view declared first_load.meant h.said k.said h.are_reports.is_report (report_too same) sources
      by (inr w) = absurd (none_missing trees w.0)

  found_same : HaveTrees given → AcceptTheSame telling telling_too
      → told_in telling (map plain_package (map report_in h.said))
      ≡ told_in telling_too (map plain_package (map report_in k.said))
  found_same trees same =
      ap (told_in telling) (told_of trees) ∙ found_too telling telling_too same (map plain_package (map report_in k.said))

  counts_too : HaveTrees given → AcceptTheSame telling telling_too → one.counts ≡ other.counts
  counts_too trees same =
      let found = told_in telling_too (map plain_package (map report_in k.said)) in
      counted (gone_in telling_too found) found one.counts other.counts
      (subst (λ gone. AreCounted gone found one.counts) (gone_too telling telling_too same found)
      (subst (λ ps. AreCounted (gone_in telling ps) ps one.counts) (found_same trees same) h.told.is_told.are_counted))
      k.told.is_told.are_counted

  passes_too : HaveTrees given → AcceptTheSame telling telling_too → one.passes ≡ other.passes
  passes_too trees same =
      h.told.is_told.passes ∙ (ap (list_all package_passes) (found_same trees same) ∙ sym k.told.is_told.passes)

  same_text : telling ≡ telling_too → HaveTrees given → one.text.items ≡ other.text.items
  same_text one_telling trees =
      h.told.is_told.is_text
      ∙ (ap (λ ps. text_of telling false (told_in telling ps)) (told_of trees)
      ∙ (ap (λ (t : Telling). text_of t false (told_in t (map plain_package (map report_in k.said)))) one_telling
      ∙ sym k.told.is_told.is_text))

pub given_packages_have_one_report : GivenPackagesHaveOneReport
given_packages_have_one_report = record {
  one_verdict = same_verdict;
  same_counts = λ telling telling_too outside given one other trees same h k. (
    counts_too telling telling_too outside given one other h k trees same,
    passes_too telling telling_too outside given one other h k trees same,
  );
  one_text = λ telling outside given one other trees h k.
      same_text telling telling outside given one other h k refl trees;
}
