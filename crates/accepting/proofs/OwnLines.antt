-- What lines accept is accepted for the reason that a line gives on which it is said.
use Rattle.std.proofs.Common.{◌≡◌, ◌∙◌, ℕ, Bool, true, false, if◌then◌else◌, List, [], ◌∷◌, Option, None, Some, is_some, map, refl, sym, ap, true≢false}
use Rattle.std.specs.Prelude.{filter}
use Rattle.std.specs.List.{All}
use Rattle.std.specs.Option.{option_or, unwrap_or}
use Rattle.std.proofs.lemmas.List.Elements.{All-cons, All-head, All-nil, All-tail}
use Rattle.lexer.specs.declared.source.Source.{Source}
use Rattle.report.specs.Entries.{Entry}
use Rattle.accepting.specs.ByLines.{SourceDirective, accepted_by_line, all_directives, by_reason, findings_by_lines, first_reason, has_whole_fault, is_stale, lines_at, on_line, stale_finding, stale_if}
use Rattle.accepting.specs.Findings.{AcceptedBy, FindingEntry, line}
use Rattle.accepting.specs.Laws.{IsAcceptedByItsLine, IsNotAccepted, LinesAcceptTheirOwn}
use Rattle.accepting.specs.Merged.{merged, stands_before, told_before}
use Rattle.accepting.proofs.LineLists.{given_in}

-- Of each of two lists it holds, and so when they are merged

module _ (P : FindingEntry → Type 0) where
  all_before : (said : Entry) (follow : List FindingEntry → List FindingEntry)
      → ((ss : List FindingEntry) → All P ss → All P (follow ss))
      → (ss : List FindingEntry)
      → All P ss
      → All P (told_before said follow ss)
  all_before said follow follows [] each = follows [] each
  all_before said follow follows (s ∷ ss) each =
      on (stands_before s.said said) (all_before said follow follows ss (All-tail P s ss each))
    where
      on : (t : Bool) → All P (told_before said follow ss)
          → All P (if t then s ∷ told_before said follow ss else follow (s ∷ ss))
      on true later = All-cons P s (told_before said follow ss) (All-head P s ss each) later
      on false later = follows (s ∷ ss) each

  all_merged : (fs ss : List FindingEntry) → All P fs → All P ss → All P (merged fs ss)
  all_merged [] ss first second = second
  all_merged (f ∷ fs) ss first second =
      all_before f.said (λ rest. f ∷ merged fs rest)
      (λ rest each. All-cons P f (merged fs rest) (All-head P f fs first)
      (all_merged fs rest (All-tail P f fs first) each)) ss second

-- one that is accepted by a reason, or was before
by_its_line : (given : Option (List ℕ)) (before : Option AcceptedBy) → is_some before ≡ false
    → (by : AcceptedBy)
    → option_or (by_reason given) before ≡ Some by
    → (reason : List ℕ) × (by ≡ line reason) × (given ≡ Some reason)
by_its_line None before none by e = absurd (true≢false (sym (ap is_some e) ∙ none))
by_its_line (Some reason) before none by e = (reason, ap (λ o. unwrap_or o by) (sym e), refl)

module _ (sources : List Source) where
  open_is : (f : FindingEntry) → IsNotAccepted f → IsAcceptedByItsLine sources f
  open_is f none by e = absurd (true≢false (sym (ap is_some e) ∙ none))

  open_are : (fs : List FindingEntry) → All IsNotAccepted fs → All (IsAcceptedByItsLine sources) fs
  open_are [] each = All-nil (IsAcceptedByItsLine sources)
  open_are (f ∷ fs) each =
      All-cons (IsAcceptedByItsLine sources) f fs (open_is f (All-head IsNotAccepted f fs each))
      (open_are fs (All-tail IsNotAccepted f fs each))

  stale_are : (ds : List SourceDirective) → All (IsAcceptedByItsLine sources) (map stale_finding ds)
  stale_are [] = All-nil (IsAcceptedByItsLine sources)
  stale_are (d ∷ ds) =
      All-cons (IsAcceptedByItsLine sources) (stale_finding d) (map stale_finding ds) (open_is (stale_finding d) refl)
      (stale_are ds)

  abbrev told : FindingEntry → FindingEntry
  told f = accepted_by_line (on_line (all_directives sources)) sources f

  told_is : (f : FindingEntry) → IsNotAccepted f → IsAcceptedByItsLine sources (told f)
  told_is f none by e =
      let lines = on_line (all_directives sources) in
      let ns = lines_at sources f.said in
      let its = by_its_line (first_reason lines f.said.file f.said.code ns) f.accepted none by e in
      let one = given_in lines f.said.file f.said.code ns its.0 its.2 in
      (its.0, one.0, its.1, one.1, one.2)

  told_are : (fs : List FindingEntry) → All IsNotAccepted fs → All (IsAcceptedByItsLine sources) (map told fs)
  told_are [] each = All-nil (IsAcceptedByItsLine sources)
  told_are (f ∷ fs) each =
      All-cons (IsAcceptedByItsLine sources) (told f) (map told fs) (told_is f (All-head IsNotAccepted f fs each))
      (told_are fs (All-tail IsNotAccepted f fs each))

  stale_if_are : (tells : Bool) (fs : List FindingEntry)
      → All (IsAcceptedByItsLine sources) (stale_if tells sources fs)
  stale_if_are true fs =
      stale_are (filter (is_stale (on_line (all_directives sources)) sources fs) (all_directives sources))
  stale_if_are false fs = All-nil (IsAcceptedByItsLine sources)

  all_own : (tells : Bool) (fs : List FindingEntry) → All IsNotAccepted fs
      → All (IsAcceptedByItsLine sources) (findings_by_lines tells sources fs)
  all_own tells fs each = on (has_whole_fault fs)
    where
      on : (t : Bool)
          → All (IsAcceptedByItsLine sources) (if t then fs else merged (map told fs) (stale_if tells sources fs))
      on true = open_are fs each
      on false =
          all_merged (IsAcceptedByItsLine sources) (map told fs) (stale_if tells sources fs) (told_are fs each)
          (stale_if_are tells fs)

pub own_lines : LinesAcceptTheirOwn
own_lines tells p each = all_own p.sources tells p.findings each
