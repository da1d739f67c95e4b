-- Where no line has a directive, nothing is accepted and nothing is said of lines.
use Rattle.std.proofs.Common.{◌≡◌, ◌∙◌, ℕ, Bool, true, false, if◌then◌else◌, List, [], ◌∷◌, None, map, refl, sym, ap}
use Rattle.std.specs.Prelude.{filter}
use Rattle.std.specs.Option.{option_or}
use Rattle.lexer.specs.declared.source.Source.{Source}
use Rattle.accepting.specs.ByLines.{Lines, SourceDirective, accepted_by_line, all_directives, by_lines, by_reason, findings_by_lines, has_whole_fault, is_stale, lines_at, on_line, stale_finding}
use Rattle.accepting.specs.Findings.{FindingEntry, FoundEntry, finding_view, found_view}
use Rattle.accepting.specs.declared.findings.Finding.{Finding}
use Rattle.accepting.specs.declared.findings.FoundPackage.{FoundPackage}
use Rattle.accepting.specs.Merged.{merged}
use Rattle.accepting.proofs.KeptLines.{none_there}
use Rattle.accepting.proofs.LineLists.{none_gives}

merged_none : (fs : List FindingEntry) → merged fs [] ≡ fs
merged_none [] = refl
merged_none (f ∷ fs) = ap (λ l. f ∷ l) (merged_none fs)

none_accepted : (sources : List Source) (fs : List FindingEntry)
    → map (accepted_by_line (λ file n. None) sources) fs ≡ fs
none_accepted sources [] = refl
none_accepted sources (f ∷ fs) =
    λ i. record f {
      accepted = option_or (by_reason (none_gives f.said.file f.said.code (lines_at sources f.said) i)) f.accepted;
    }
    ∷ none_accepted sources fs i

module _ (sources : List Source) (fs : List FindingEntry) where
  abbrev by_these : Bool → Lines → List SourceDirective → List FindingEntry
  by_these true lines ds =
      merged (map (accepted_by_line lines sources) fs) (map stale_finding (filter (is_stale lines sources fs) ds))
  by_these false lines ds = merged (map (accepted_by_line lines sources) fs) []

  by_none : (tells : Bool) → by_these tells (λ file n. None) [] ≡ fs
  by_none true = merged_none (map (accepted_by_line (λ file n. None) sources) fs) ∙ none_accepted sources fs
  by_none false = merged_none (map (accepted_by_line (λ file n. None) sources) fs) ∙ none_accepted sources fs

  by_all : (tells : Bool) → has_whole_fault fs ≡ false
      → by_these tells (on_line (all_directives sources)) (all_directives sources) ≡ findings_by_lines tells sources fs
  by_all true none =
      λ i. if sym none i then fs else by_these true (on_line (all_directives sources)) (all_directives sources)
  by_all false none =
      λ i. if sym none i then fs else by_these false (on_line (all_directives sources)) (all_directives sources)

  none_stays : (tells : Bool) → has_whole_fault fs ≡ false
      → ((file n : ℕ) → on_line (all_directives sources) file n ≡ None)
      → fs ≡ findings_by_lines tells sources fs
  none_stays tells whole none =
      let empty = none_there (all_directives sources) none in
      sym (by_none tells)
      ∙ (λ i. by_these tells (on_line (sym empty i)) (sym empty i))
      ∙ by_all tells whole

abbrev with_findings : FoundEntry → List FindingEntry → FoundEntry
with_findings p fs = record p { findings = fs }

-- a package without directives stays as it is
pub package_without : (tells : Bool) (p : FoundPackage) (seen : List Finding) → seen ≡ p.findings.items
    → has_whole_fault (map finding_view seen) ≡ false
    → ((file n : ℕ) → on_line (all_directives p.sources.now) file n ≡ None)
    → found_view p ≡ by_lines tells (found_view p)
package_without tells p seen same is none =
    ap (with_findings (found_view p))
    (none_stays p.sources.now (map finding_view p.findings.items) tells
    (ap (λ l. has_whole_fault (map finding_view l)) (sym same) ∙ is) none)
