-- What is said of loaded packages stands in their sources: the trees are those of the sources' texts, and the fault of a
-- text that has no tokens, or no tree, lies in it.
use Rattle.std.proofs.Common.{◌≡◌, ℕ, zero, suc, ◌<◌, ◌≤◌, inl, inr, List, [], ◌∷◌, length, map, drop, Some, None, refl, sym, ap, ◌∙◌, subst, arith}
use Rattle.std.specs.Prelude.{◌-◌, slice_get, option_map, sum_by}
use Rattle.std.proofs.lemmas.List.{length-drop}
use Rattle.std.proofs.lemmas.List.Sums.{sum_by-cons}
use Rattle.std.proofs.lemmas.Option.{slice_get_cases, slice_get_within, slice_get-map}
use Rattle.lexer.specs.declared.pieces.Piece.{Piece}
use Rattle.lexer.specs.declared.source.Source.{Source}
use Rattle.lexer.specs.Cut.{Cut}
use Rattle.lexer.specs.Faults.{StopsAt, IsFault}
use Rattle.lexer.specs.Tokens.{mark_size}
use Rattle.meaning.proofs.Membership.{contains_map}
use Rattle.report.specs.declared.codes.TextFault.{TextFault}
use Rattle.report.specs.declared.codes.TextFault.TheVariants.{NotUtf8, Nul, UnclosedString, UnclosedComment, UnclosedRune, UnknownCharacter, TooLong}
use Rattle.report.specs.Entries.{entry_of}
use Rattle.tree.specs.declared.edition.Edition.{Edition}
use Rattle.meaning_reports.specs.Loaded.{Reading, has_tree, has_text_fault, has_tree_fault, LoadedPackage}
use Rattle.whole_packages.specs.declared.loaded_package.LoadedPackage.{LoadedPackage as KeptPackage}
use Rattle.load.specs.GivenPackages.{PathAndFiles, paths_of, AreLoaded}
use Rattle.load.specs.MeantPaths.{MeantPath, meant_path}
use Rattle.load.specs.Readings.{IsUnreadable, IsReadingOf, AreReadingsOf}
use Rattle.one_package.specs.declared.judged.Judged.{Judged}
use Rattle.one_package.specs.Judgments.{said_view}
use Rattle.all_packages.specs.Reports.{AreReportsBy}
use Rattle.meaning_reports.specs.PackageReports.{Rules}
use Rattle.meaning_runs.specs.FilePlaces.{Fits, AreTextsOf}
use Rattle.meaning_runs.proofs.BodyOffsetsTokens.{mark_there}
use Rattle.meaning_runs.specs.EntryPlaces.{EntriesLieInFilesBy}
use Rattle.judge.specs.SourcePlaces.{StandInSources}
use Rattle.judge.proofs.LoadedPackages.{are_as_many, each_loaded}

-- Faults of texts

cut_within : (text : List ℕ) (pieces : List Piece) (rest : List ℕ) → Cut text pieces rest
    → sum_by (λ (p : Piece). p.size) pieces ≤ length text
unfolding Cut
cut_within text [] rest c = omega arith
cut_within text (p ∷ ps) rest c =
    let first : p.size ≤ length text = c.0.begins.within in
    let left : length (drop p.size text) ≡ length text - p.size = length-drop p.size text in
    let others = cut_within (drop p.size text) ps rest c.1 in
    let sum = sum_by-cons (λ (q : Piece). q.size) p ps in
    omega (arith, first, left, others, sum)

stop_within : (text : List ℕ) (at : ℕ) (rest : List ℕ) → StopsAt text at rest → at ≤ length text
stop_within text at rest s =
    let mark = mark_there text in
    let left : length (drop (mark_size text) text) ≡ length text - mark_size text = length-drop (mark_size text) text in
    let pieces = cut_within (drop (mark_size text) text) s.pieces rest s.cut in
    let place = s.place in
    omega (arith, mark, left, pieces, place)

unreadable_within : (text : List ℕ) (at : ℕ) (why : TextFault) → IsUnreadable text at why → at ≤ length text
unreadable_within text at NotUtf8 h =
    let f = subst (IsFault text) h.2.fault_there h.1 in let low = f.1 in omega (arith, low)
unreadable_within text at Nul h =
    let f = subst (IsFault text) h.2.fault_there h.1 in let low = f.2 in omega (arith, low)
unreadable_within text at UnclosedString h =
    let f = subst (IsFault text) h.2.fault_there h.1 in stop_within text at f.0 f.1
unreadable_within text at UnclosedComment h =
    let f = subst (IsFault text) h.2.fault_there h.1 in stop_within text at f.0 f.1
unreadable_within text at UnclosedRune h =
    let f = subst (IsFault text) h.2.fault_there h.1 in stop_within text at f.0 f.1
unreadable_within text at UnknownCharacter h =
    let f = subst (IsFault text) h.2.fault_there h.1 in stop_within text at f.0 f.1
unreadable_within text at TooLong h = let start = h.2.at_start refl in omega (arith, start)

-- Files

fits : (edition : Edition) (paths : List MeantPath) (text : List ℕ) (file : Reading) → IsReadingOf edition paths text file
    → Fits edition text file
fits edition paths text (has_tree tree) h =
    record { meant = meant_path edition paths; written = h.written; is_tree = h.is_tree; same = h.same }
fits edition paths text (has_text_fault at why) h = unreadable_within text at why h
fits edition paths text (has_tree_fault at why) h = h.within

abbrev text_of : Source → List ℕ
text_of s = s.bytes.items

pub source_there : (edition : Edition) (paths : List MeantPath) (sources : List Source) (files : List Reading)
    → AreReadingsOf edition paths sources files
    → (n : ℕ) (file : Reading)
    → slice_get files n ≡ Some file
    → (s : Source) × (slice_get sources n ≡ Some s) × IsReadingOf edition paths s.bytes.items file
source_there edition paths [] [] are zero file is = let bad : None ≡ Some file = is in cc
source_there edition paths [] [] are (suc n) file is = let bad : None ≡ Some file = is in cc
source_there edition paths [] (r ∷ rs) are n file is = absurd are
source_there edition paths (s ∷ ss) [] are n file is = absurd are
source_there edition paths (s ∷ ss) (r ∷ rs) are zero file is =
    let same : r ≡ file = cc in (s, refl, subst (IsReadingOf edition paths s.bytes.items) same are.0)
source_there edition paths (s ∷ ss) (r ∷ rs) are (suc n) file is = source_there edition paths ss rs are.1 n file is

are_texts : (paths : List MeantPath) (sources : List Source) (p : LoadedPackage)
    → AreReadingsOf p.edition paths sources p.files
    → AreTextsOf (map text_of sources) p
are_texts paths sources p are = record {
  each = λ n file is.
      let w = source_there p.edition paths sources p.files are n file is in
      (w.0.bytes.items, slice_get-map text_of sources n ∙ ap (option_map text_of) w.1, fits p.edition paths w.0.bytes.items file w.2);
}

from_map : (sources : List Source) (i : ℕ) (text : List ℕ) → slice_get (map text_of sources) i ≡ Some text
    → (s : Source) × (slice_get sources i ≡ Some s) × (s.bytes.items ≡ text)
from_map [] zero text is = let bad : None ≡ Some text = is in cc
from_map [] (suc i) text is = let bad : None ≡ Some text = is in cc
from_map (s ∷ ss) zero text is = let same : s.bytes.items ≡ text = cc in (s, refl, same)
from_map (s ∷ ss) (suc i) text is = from_map ss i text is

-- what stands at a place of the list
pub there : {X : Type 0} (xs : List X) (i : ℕ) → i < length xs → (x : X) × (slice_get xs i ≡ Some x)
there xs i l = elim (slice_get_cases xs i).1 [
  | inl w ↦ (w.0, w.2)
  | inr none ↦ let most = none.0 in absurd (omega (arith, l, most))
]

pub stand_in_sources : (rules : Rules) → EntriesLieInFilesBy rules
    → (es : List PathAndFiles) (ps : List LoadedPackage) (ks : List KeptPackage) (said : List Judged)
    → AreLoaded es ps ks
    → AreReportsBy rules ps ks said
    → StandInSources said
stand_in_sources rules they_lie es ps ks said loaded reports i judged d is among =
    let view = slice_get-map said_view said i ∙ ap (option_map said_view) is in
    let within = slice_get_within (map said_view said) i (said_view judged) view in
    let long = reports.is_report.is_as_long in
    let kept = are_as_many es ps ks loaded in
    let p = there ps i (omega (arith, within, long)) in
    let k = there ks i (omega (arith, within, long, kept)) in
    let own = each_loaded es ps ks loaded i p.0 k.0 p.1 k.1 in
    let sources = (reports.are_told i k.0 judged k.1 is).are_sources in
    let place = they_lie ps (map said_view said) p.0 (said_view judged) (map text_of k.0.sources.items) (entry_of d)
    reports.is_report record { place = i; is_package = p.1; is_said = view }
    (are_texts (paths_of own.of.1.imports) k.0.sources.items p.0
    (subst (λ edition. AreReadingsOf edition (paths_of own.of.1.imports) k.0.sources.items p.0.files) (sym own.loaded.is_edition) own.loaded.are_files)) (contains_map entry_of judged.report.diagnostics.items d among) in
    let s = from_map k.0.sources.items d.file place.text place.is_file in
    record {
      source = s.0;
      is_file = ap (λ (l : List Source). slice_get l d.file) sources ∙ s.1;
      within = subst (λ (t : List ℕ). d.offset ≤ length t) (sym s.2) place.within;
    }
