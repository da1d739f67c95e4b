-- By lines and by a baseline no finding is lost, and none comes but for lines that accept nothing.
use Rattle.std.proofs.Common.{◌≡◌, ◌∙◌, cond, Bool, true, false, ◌&&◌, if◌then◌else◌, List, [], ◌∷◌, ◌++◌, Option, Some, map, refl, ap}
use Rattle.std.specs.Prelude.{filter}
use Rattle.std.specs.List.{All}
use Rattle.std.proofs.lemmas.List.Elements.{All-head, All-tail}
use Rattle.lexer.specs.declared.source.Source.{Source}
use Rattle.report.specs.Entries.{Entry}
use Rattle.report.specs.declared.codes.Wording.{Wording}
use Rattle.report.specs.declared.codes.Wording.TheVariants.{First, Second}
use Rattle.accepting.specs.ByBaseline.{Key, accepted_if, baseline_keys, by_baseline, findings_by_baseline, has_more, is_open, key_of, open_keys}
use Rattle.accepting.specs.ByLines.{Lines, SourceDirective, accepted_by_line, all_directives, by_lines, findings_by_lines, has_whole_fault, is_stale, on_line, stale_finding, stale_if}
use Rattle.accepting.specs.Findings.{AcceptedBy, FindingEntry, FoundEntry, baseline}
use Rattle.accepting.specs.Found.{found_by}
use Rattle.accepting.specs.Laws.{IsOfProgram, NothingIsLost, FirstEditionAcceptsNothing, as_said, is_of_program, package_as_said, program_as_said}
use Rattle.accepting.specs.Merged.{merged, stands_before, told_before}

-- what is said of the program
abbrev of_program : List FindingEntry → List FindingEntry
of_program fs = map as_said (filter is_of_program fs)

-- the same finding, accepted or not, before others
same_next : (f : FindingEntry) (by : Option AcceptedBy) (xs ys : List FindingEntry) → of_program xs ≡ of_program ys
    → of_program (record f { accepted = by } ∷ xs) ≡ of_program (f ∷ ys)
same_next f by xs ys same = on (is_of_program f)
  where
    on : (t : Bool)
        → map as_said (cond t (record f { accepted = by } ∷ filter is_of_program xs) (filter is_of_program xs))
        ≡ map as_said (cond t (f ∷ filter is_of_program ys) (filter is_of_program ys))
    on true = ap (λ l. as_said f ∷ l) same
    on false = same

-- By lines

abbrev stale : List SourceDirective → List FindingEntry
stale ds = map stale_finding ds

before_lost : (said : Entry) (follow : List FindingEntry → List FindingEntry) (is : List FindingEntry)
    → ((ds : List SourceDirective) → of_program (follow (stale ds)) ≡ is)
    → (ds : List SourceDirective)
    → of_program (told_before said follow (stale ds)) ≡ is
before_lost said follow is follows [] = follows []
before_lost said follow is follows (d ∷ ds) =
    on (stands_before (stale_finding d).said said) (before_lost said follow is follows ds)
  where
    on : (t : Bool) → of_program (told_before said follow (stale ds)) ≡ is
        → of_program (if t then stale_finding d ∷ told_before said follow (stale ds)
        else follow (stale_finding d ∷ stale ds))
        ≡ is
    on true later = later
    on false later = follows (d ∷ ds)

none_of_program : (ds : List SourceDirective) → of_program (stale ds) ≡ []
none_of_program [] = refl
none_of_program (d ∷ ds) = none_of_program ds

merged_lost : (fs : List FindingEntry) (ds : List SourceDirective)
    → of_program (merged fs (stale ds)) ≡ of_program fs
merged_lost [] ds = none_of_program ds
merged_lost (f ∷ fs) ds =
    before_lost f.said (λ rest. f ∷ merged fs rest) (of_program (f ∷ fs))
    (λ rest. same_next f f.accepted (merged fs (stale rest)) fs (merged_lost fs rest)) ds

module _ (sources : List Source) where
  each_by_line : (lines : Lines) (fs : List FindingEntry)
      → of_program (map (accepted_by_line lines sources) fs) ≡ of_program fs
  each_by_line lines [] = refl
  each_by_line lines (f ∷ fs) =
      same_next f (accepted_by_line lines sources f).accepted (map (accepted_by_line lines sources) fs) fs
      (each_by_line lines fs)

  lines_lose_none : (tells : Bool) (fs : List FindingEntry)
      → of_program (findings_by_lines tells sources fs) ≡ of_program fs
  lines_lose_none tells fs = on (has_whole_fault fs)
    where
      by : (tells : Bool)
          → of_program (merged (map (accepted_by_line (on_line (all_directives sources)) sources) fs)
          (stale_if tells sources fs))
          ≡ of_program fs
      by true =
          merged_lost (map (accepted_by_line (on_line (all_directives sources)) sources) fs)
          (filter (is_stale (on_line (all_directives sources)) sources fs) (all_directives sources))
          ∙ each_by_line (on_line (all_directives sources)) fs
      by false =
          merged_lost (map (accepted_by_line (on_line (all_directives sources)) sources) fs) []
          ∙ each_by_line (on_line (all_directives sources)) fs

      on : (t : Bool)
          → of_program (if t then fs
          else merged (map (accepted_by_line (on_line (all_directives sources)) sources) fs)
          (stale_if tells sources fs))
          ≡ of_program fs
      on true = refl
      on false = by tells

-- By the baseline

if_next : (t : Bool) (f : FindingEntry) (xs ys : List FindingEntry) → of_program xs ≡ of_program ys
    → of_program (accepted_if t f ∷ xs) ≡ of_program (f ∷ ys)
if_next true f xs ys same = same_next f (Some baseline) xs ys same
if_next false f xs ys same = same_next f f.accepted xs ys same

baseline_loses_none : (known before : List Key) (sources : List Source) (fs : List FindingEntry)
    → of_program (findings_by_baseline known before sources fs) ≡ of_program fs
baseline_loses_none known before sources [] = refl
baseline_loses_none known before sources (f ∷ fs) =
    let behind = before ++ open_keys sources (f ∷ []) in
    if_next (is_open f && has_more known before (key_of sources f)) f (findings_by_baseline known behind sources fs) fs
    (baseline_loses_none known behind sources fs)

-- Packages

abbrev with_findings : FoundEntry → List FindingEntry → FoundEntry
with_findings p fs = record p { findings = fs }

packages_by_lines : (tells : Bool) (ps : List FoundEntry)
    → map program_as_said (map (by_lines tells) ps) ≡ map program_as_said ps
packages_by_lines tells [] = refl
packages_by_lines tells (p ∷ ps) =
    λ i. with_findings p (lines_lose_none p.sources tells p.findings i) ∷ packages_by_lines tells ps i

packages_by_baseline : (known before : List Key) (ps : List FoundEntry)
    → map program_as_said (by_baseline known before ps) ≡ map program_as_said ps
packages_by_baseline known before [] = refl
packages_by_baseline known before (p ∷ ps) =
    λ i. with_findings p (baseline_loses_none known before p.sources p.findings i)
    ∷ packages_by_baseline known (before ++ open_keys p.sources p.findings) ps i

-- where nothing is said of lines before

all_of_program : (fs : List FindingEntry) → All (λ f. is_of_program f ≡ true) fs → filter is_of_program fs ≡ fs
all_of_program [] each = refl
all_of_program (f ∷ fs) each =
    ap (λ t. cond t (f ∷ filter is_of_program fs) (filter is_of_program fs))
    (All-head (λ f. is_of_program f ≡ true) f fs each)
    ∙ ap (λ l. f ∷ l) (all_of_program fs (All-tail (λ f. is_of_program f ≡ true) f fs each))

packages_of_program : (ps : List FoundEntry) → All IsOfProgram ps
    → map program_as_said ps ≡ map package_as_said ps
packages_of_program [] each = refl
packages_of_program (p ∷ ps) each =
    λ i. with_findings p (map as_said (all_of_program p.findings (All-head IsOfProgram p ps each) i))
    ∷ packages_of_program ps (All-tail IsOfProgram p ps each) i

by_edition : (wording : Wording) (tells : Bool) (known : List Key) (ps : List FoundEntry)
    → map program_as_said (found_by wording tells known ps) ≡ map program_as_said ps
by_edition First tells known ps = refl
by_edition Second tells known ps =
    packages_by_baseline known [] (map (by_lines tells) ps) ∙ packages_by_lines tells ps

pub nothing_lost : NothingIsLost
nothing_lost telling ps each =
    by_edition telling.wording telling.tells_stale (baseline_keys telling.baseline.now) ps
    ∙ packages_of_program ps each

pub first_is_plain : FirstEditionAcceptsNothing
first_is_plain telling ps first =
    ap (λ wording. found_by wording telling.tells_stale (baseline_keys telling.baseline.now) ps) first
