-- Where the value of which a finding tells was obtained or made, by its notes, as JSON of version 2 tells it with
-- notes, and the number of that binding. Findings of a package are about one binding where its place and their names
-- are the same. Bindings are counted from 1 in the order of the report, as far as 64 bits can count.
use Rattle.std.specs.Prelude.{ℕ, ◌+◌, ◌-◌, ◌^◌, min, Bool, true, false, ◌&&◌, not, if◌then◌else◌, List, [], ◌∷◌, ◌++◌, Option, None, Some, is_some, codes}
use Rattle.std.specs.List.{list_any}
use Rattle.std.specs.Str.{bytes_eq}
use Rattle.accepting.specs.Findings.{FindingEntry}
use Rattle.report.specs.declared.codes.Wording.{Wording}
use Rattle.report.specs.declared.codes.Wording.TheVariants.{First, Second}
use Rattle.report.specs.declared.notes.Note.{Note}
use Rattle.report.specs.declared.notes.NoteText.{NoteText}
use Rattle.report.specs.declared.notes.NoteText.TheVariants.{Words, Named, Finding}
use Rattle.format_parts.specs.Told.{notes_told}
use Rattle.format_parts.specs.declared.style.Style.{Style}
use Rattle.report_json.specs.NoteKinds.{is_either}
use Rattle.report_json.specs.Turns.{is_at}

-- the note tells where a value is obtained or made
abbrev pub binds : NoteText → Bool
binds (Words words) = is_either words.now (codes "cancel is obtained") (codes "group is made")
binds (Named before name after) = false
binds (Finding code name) = false

-- the first note that does
abbrev pub binding_in : List Note → Option Note
binding_in [] = None
binding_in (n ∷ ns) = if binds n.text then Some n else binding_in ns

abbrev pub told_by : Wording → (with_reasons : Bool) → List Note → Option Note
told_by First with_reasons notes = None
told_by Second false notes = None
told_by Second true notes = binding_in notes

-- the note of the binding that is told with a finding
abbrev pub told_cause : Style → FindingEntry → Option Note
told_cause style f = told_by style.wording style.with_reasons (notes_told style f)

-- two findings tell of one binding
abbrev pub is_at_both : Option Note → Option Note → Bool
is_at_both None other = false
is_at_both (Some n) None = false
is_at_both (Some n) (Some other) = is_at n other

abbrev pub is_same_binding : Style → FindingEntry → FindingEntry → Bool
is_same_binding style f other =
    is_at_both (told_cause style f) (told_cause style other) && bytes_eq f.said.name other.said.name

-- one binding more, as far as 64 bits can count
abbrev pub one_more : ℕ → ℕ
one_more count = min (count + 1) (2 ^ 64 - 1)

-- a finding tells of a binding of which none of those before it tells
abbrev pub is_new : Style → (before : List FindingEntry) → FindingEntry → Bool
is_new style before f = is_some (told_cause style f) && not (list_any (is_same_binding style f) before)

-- so many bindings are told of, with a finding behind those
abbrev pub count_after : Style → ℕ → (before : List FindingEntry) → FindingEntry → ℕ
count_after style count before f = if is_new style before f then one_more count else count

-- and with more findings
abbrev pub count_from : Style → ℕ → (before fs : List FindingEntry) → ℕ
count_from style count before [] = count
count_from style count before (f ∷ fs) =
    count_from style (count_after style count before f) (before ++ (f ∷ [])) fs

-- the number of the binding of one of these: those before the first finding that tells of it, and itself
abbrev pub number_from : Style → ℕ → (before fs : List FindingEntry) → FindingEntry → ℕ
number_from style count before [] f = one_more count
number_from style count before (g ∷ gs) f =
    if is_same_binding style f g then one_more count
    else number_from style (count_after style count before g) (before ++ (g ∷ [])) gs f
