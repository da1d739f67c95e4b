-- What is told of findings: those that are accepted are told where that is asked for, and so are their notes.
use Rattle.std.specs.Prelude.{ℕ, Bool, ◌||◌, not, if◌then◌else◌, List, [], codes}
use Rattle.accepting.specs.Findings.{AcceptedBy, FindingEntry, is_accepted, line, baseline}
use Rattle.accepting.specs.declared.telling.Telling.{Telling}
use Rattle.report.specs.declared.notes.Note.{Note}
use Rattle.format_parts.specs.declared.style.Style.{Style}

-- how a report is told in this way, with the notes of findings or without
abbrev pub style_of : Telling → Bool → Style
style_of telling with_reasons = record {
  wording = telling.wording;
  tells_accepted = telling.tells_accepted;
  is_quiet = telling.is_quiet;
  with_reasons = with_reasons;
}

abbrev pub is_told : Style → FindingEntry → Bool
is_told style f = style.tells_accepted || not (is_accepted f)

abbrev pub notes_told : Style → FindingEntry → List Note
notes_told style f = if is_told style f then f.notes else []

-- the reason for which a finding is accepted
abbrev pub reason_text : AcceptedBy → List ℕ
reason_text (line reason) = reason
reason_text baseline = codes "baseline"
