-- The report of a unit as JSON, cut into what is put.
use Rattle.std.proofs.Common.{◌≡◌, ℕ, ◌+◌, ◌<◌, ◌≤◌, ◌^◌, Option, Some, None, List, [], ◌∷◌, ◌++◌, length, get_or, drop, map, filter, decimal, codes, slice_get, Bool, true, false, ◌||◌, cond, arith, refl, sym, ap, ◌∙◌}
use Rattle.std.proofs.lemmas.List.{append_assoc, append-nil, drop_more, drop_all}
use Rattle.std.proofs.lemmas.Bool.{cond-true, cond-false}
use Rattle.json.specs.Print.{escape_byte, escape}
use Rattle.serde_json.specs.Data.{Data, string}
use Rattle.serde_json.specs.Written.{comma_if, compact_text}
use Rattle.accepting.specs.Findings.{AcceptedBy, FindingEntry, finding_view, found_view}
use Rattle.accepting.specs.declared.findings.Finding.{Finding}
use Rattle.accepting.specs.declared.findings.FoundPackage.{FoundPackage}
use Rattle.lexer.specs.Place.{line_of, column_of}
use Rattle.lexer.specs.declared.source.Source.{Source}
use Rattle.report.specs.Codes.{code_number, code_words}
use Rattle.report.specs.Entries.{Entry}
use Rattle.report.specs.Notes.{note_words, source_of}
use Rattle.report.specs.ReportText.{name_of, bytes_of}
use Rattle.report.specs.declared.codes.Wording.{Wording}
use Rattle.report.specs.declared.notes.Note.{Note}
use Rattle.format_parts.specs.Fixes.{fix_members, told_fix}
use Rattle.format_parts.specs.Objects.{list_of}
use Rattle.format_parts.specs.Pieces.{listed, members_listed, opened}
use Rattle.report_formats.specs.ReportLines.{reason_shown}
use Rattle.format_parts.specs.Told.{is_told, reason_text}
use Rattle.report_formats.specs.UnitJson.{position_in, name_in, said_in, related_value, related_members, found_members, message_members, unit_finding, unit_findings, unit_value, unit_json_of, unit_json}
use Rattle.format_parts.specs.declared.style.Style.{Style}
use Rattle.suggested_fixes.specs.declared.edits.Fix.{Fix}
use Rattle.format_parts.proofs.NoteParts.{escaped_then}
use Rattle.format_parts.proofs.Spelled.{escape-append, number_stands}
use Rattle.format_parts.proofs.Values.{regroup, items_then_listed, joined, joined_then, value_is, value_then_is, listed_is, opened_then, object_parts, more_parts, last_parts}

-- a finding behind its comma: up to the end of what is said of it, the reason for which it is accepted, its notes, and
-- its fix
finding_parts : (later : Bool) (style : Style) (fixes : List Fix) (sources : List Source) (f : FindingEntry) → comma_if later ++ compact_text (unit_finding style fixes sources f) ≡ opened later (found_members (slice_get sources f.said.file) f.said) ++ (members_listed true (message_members style.wording f) ++ (members_listed true (related_members style f.notes) ++ (members_listed true (fix_members (told_fix style.wording fixes (slice_get sources f.said.file) f.said)) ++ codes "}")))
finding_parts later style fixes sources f =
    let found = found_members (slice_get sources f.said.file) f.said in
    let message = message_members style.wording f in
    let related = related_members style f.notes in
    let fix = fix_members (told_fix style.wording fixes (slice_get sources f.said.file) f.said) in
    object_parts later found (message ++ (related ++ fix))
    ∙ ap (λ t. opened later found ++ t)
    (more_parts message (related ++ fix) []
    ∙ ap (λ t. members_listed true message ++ t)
    (more_parts related fix [] ∙ ap (λ t. members_listed true related ++ t) (last_parts fix [])))

message_here : (said reason : List ℕ) → members_listed true ((codes "message", string (said ++ reason)) ∷ []) ≡ (codes ",\"message\":\"" ++ escape said) ++ (escape reason ++ codes "\"")
unfolding escape_byte
message_here said reason =
    listed_is true ((codes "message", string (said ++ reason)) ∷ [])
    ∙ (ap (λ t. codes ",\"message\":\"" ++ (t ++ codes "\"")) (escape-append said reason)
    ∙ ap (λ t. codes ",\"message\":\"" ++ t) (append_assoc (escape said) (escape reason) (codes "\"")))

-- two texts in the middle
cut : (a b c d e : List ℕ) → a ++ ((b ++ (c ++ d)) ++ e) ≡ (a ++ b) ++ (c ++ (d ++ e))
cut a b c d e = simp append_assoc

pub finding_is : (later : Bool) (style : Style) (fixes : List Fix) (sources : List Source) (f : FindingEntry) (notes : List Note) → notes ≡ f.notes → comma_if later ++ compact_text (unit_finding style fixes sources f) ≡ (opened later (found_members (slice_get sources f.said.file) f.said) ++ (codes ",\"message\":\"" ++ escape (said_in style.wording f.said))) ++ (escape (reason_shown f.accepted) ++ (codes "\"" ++ (members_listed true (related_members style notes) ++ (members_listed true (fix_members (told_fix style.wording fixes (slice_get sources f.said.file) f.said)) ++ codes "}"))))
finding_is later style fixes sources f notes n =
    let found = opened later (found_members (slice_get sources f.said.file) f.said) in
    let said = said_in style.wording f.said in
    let reason = reason_shown f.accepted in
    let fix = members_listed true (fix_members (told_fix style.wording fixes (slice_get sources f.said.file) f.said)) in
    let last = members_listed true (related_members style f.notes) ++ (fix ++ codes "}") in
    rw n
    (finding_parts later style fixes sources f
    ∙ (ap (λ t. found ++ (t ++ last)) (message_here said reason)
    ∙ cut found (codes ",\"message\":\"" ++ escape said) (escape reason) (codes "\"") last))

-- what is put of it first
abbrev pub found_pieces : (comma number file line column name space text : List ℕ) → List (List ℕ)
found_pieces comma number file line column name space text =
    comma ∷ codes "{\"category\":\"" ∷ escape number ∷ codes "\",\"posn\":\"" ∷ escape file ∷ codes ":" ∷ line
    ∷ codes ":" ∷ column ∷ codes "\",\"message\":\"" ∷ escape name ∷ escape space ∷ escape text ∷ []

said_parts : (name space text : List ℕ) → escape ((name ++ space) ++ text) ≡ escape name ++ (escape space ++ (escape text ++ []))
said_parts name space text =
    escape-append (name ++ space) text
    ∙ (ap (λ t. t ++ escape text) (escape-append name space)
    ∙ (append_assoc (escape name) (escape space) (escape text)
    ∙ ap (λ t. escape name ++ (escape space ++ t)) (sym (append-nil (escape text)))))

module _ (later : Bool) (wording : Wording) (source : Option Source) (said : Entry) where
  place_then : (rest : List ℕ) → opened later (found_members source said) ++ (codes ",\"message\":\"" ++ rest)
      ≡ joined (comma_if later ∷ codes "{\"category\":\"" ∷ escape (code_number said.code) ∷ codes "\",\"posn\":\"" ∷ escape (name_of source) ∷ codes ":" ∷ escape (decimal (line_of (bytes_of source) said.offset)) ∷ codes ":" ∷ escape (decimal (column_of (bytes_of source) said.offset)) ∷ codes "\",\"message\":\"" ∷ []) rest
  unfolding escape_byte
  place_then rest =
      let line = decimal (line_of (bytes_of source) said.offset) in
      let column = decimal (column_of (bytes_of source) said.offset) in
      opened_then later (found_members source said) (codes ",\"message\":\"" ++ rest)
      ∙ ap (λ t. comma_if later ++ (codes "{\"category\":\"" ++ (escape (code_number said.code) ++ (codes "\",\"posn\":\"" ++ t))))
      (escaped_then (name_of source) (codes ":") line (codes ":") column (position_in source said.offset) (codes "\",\"message\":\"" ++ rest) refl)

  found_here : (name space : List ℕ) → name ++ space ≡ name_in wording said.name
      → opened later (found_members source said) ++ (codes ",\"message\":\"" ++ escape (said_in wording said))
      ≡ joined (found_pieces (comma_if later) (code_number said.code) (name_of source) (escape (decimal (line_of (bytes_of source) said.offset))) (escape (decimal (column_of (bytes_of source) said.offset))) name space (code_words wording said.code)) []
  found_here name space parts =
      let front = opened later (found_members source said) in
      let text = code_words wording said.code in
      ap (λ n. front ++ (codes ",\"message\":\"" ++ escape (n ++ text))) (sym parts)
      ∙ (ap (λ t. front ++ (codes ",\"message\":\"" ++ t)) (said_parts name space text)
      ∙ place_then (escape name ++ (escape space ++ (escape text ++ []))))

  pub found_is : (comma number file name space text : List ℕ) (line column : ℕ) → comma ≡ comma_if later
      → number ≡ code_number said.code → file ≡ name_of source → name ++ space ≡ name_in wording said.name
      → text ≡ code_words wording said.code → line ≡ line_of (bytes_of source) said.offset
      → column ≡ column_of (bytes_of source) said.offset → line < 2 ^ 64 → column < 2 ^ 64
      → opened later (found_members source said) ++ (codes ",\"message\":\"" ++ escape (said_in wording said))
      ≡ joined (found_pieces comma number file (decimal line) (decimal column) name space text) []
  found_is comma number file name space text line column c n f parts t l o fits fit =
      let whole : opened later (found_members source said) ++ (codes ",\"message\":\"" ++ escape (said_in wording said))
      ≡ joined (found_pieces comma number file (escape (decimal line)) (escape (decimal column)) name space text) []
      = rw (c, n, f, t, l, o) (found_here name space parts) in
      whole
      ∙ (ap (λ x. joined (found_pieces comma number file x (escape (decimal column)) name space text) []) (number_stands line fits)
      ∙ ap (λ x. joined (found_pieces comma number file (decimal line) x name space text) []) (number_stands column fit))

-- the reason, as it stands in a string
reason_here : (by : AcceptedBy) → escape (reason_shown (Some by)) ≡ codes " (accepted: " ++ (escape (reason_text by) ++ codes ")")
unfolding escape_byte
reason_here by = ap (λ t. codes " (accepted: " ++ t) (escape-append (reason_text by) (codes ")"))

pub reason_is : (accepted : Option AcceptedBy) (by : AcceptedBy) (reason : List ℕ) → accepted ≡ Some by → reason ≡ reason_text by → escape (reason_shown accepted) ≡ codes " (accepted: " ++ (escape reason ++ codes ")")
reason_is accepted by reason a r = rw (a, r) (reason_here by)

pub no_reason : (accepted : Option AcceptedBy) → accepted ≡ None → escape (reason_shown accepted) ≡ []
no_reason accepted a = rw a refl

-- its notes
abbrev related_list : Wording → List Note → List (List ℕ × Data)
related_list wording notes = (codes "related", list_of (map (related_value wording) notes)) ∷ []

related_here : (wording : Wording) (notes : List Note) → members_listed true (related_list wording notes) ≡ codes ",\"related\":[" ++ (listed false (map (related_value wording) notes) ++ codes "]")
unfolding escape_byte
related_here wording notes =
    listed_is true (related_list wording notes)
    ∙ ap (λ t. codes ",\"related\":[" ++ t) (items_then_listed false (map (related_value wording) notes) [])

pub related_is : (style : Style) (notes : List Note) → style.with_reasons ≡ true → members_listed true (related_members style notes) ≡ codes ",\"related\":[" ++ (listed false (map (related_value style.wording) notes) ++ codes "]")
related_is style notes asked =
    ap (members_listed true) (cond-true style.with_reasons (related_list style.wording notes) [] asked)
    ∙ related_here style.wording notes

pub none_related : (style : Style) (notes : List Note) → style.with_reasons ≡ false → members_listed true (related_members style notes) ≡ []
none_related style notes asked =
    ap (members_listed true) (cond-false style.with_reasons (related_list style.wording notes) [] asked)

-- a note behind its comma
abbrev pub note_pieces : (comma file line column a b c d e : List ℕ) → List (List ℕ)
note_pieces comma file line column a b c d e =
    comma ∷ codes "{\"posn\":\"" ∷ escape file ∷ codes ":" ∷ line ∷ codes ":" ∷ column ∷ codes "\",\"message\":\""
    ∷ escape a ∷ escape b ∷ escape c ∷ escape d ∷ escape e ∷ codes "\"}" ∷ []

module _ (later : Bool) (wording : Wording) (n : Note) where
  note_here : (a b c d e : List ℕ) → a ++ (b ++ (c ++ (d ++ e))) ≡ note_words wording n.text
      → comma_if later ++ compact_text (related_value wording n)
      ≡ joined (note_pieces (comma_if later) (name_of (source_of n)) (escape (decimal (line_of (bytes_of (source_of n)) n.offset))) (escape (decimal (column_of (bytes_of (source_of n)) n.offset))) a b c d e) []
  unfolding escape_byte
  note_here a b c d e are =
      let file = name_of (source_of n) in
      let line = decimal (line_of (bytes_of (source_of n)) n.offset) in
      let column = decimal (column_of (bytes_of (source_of n)) n.offset) in
      let words = note_words wording n.text in
      ap (λ t. comma_if later ++ t) (value_is (related_value wording n))
      ∙ (ap (λ t. comma_if later ++ (codes "{\"posn\":\"" ++ t))
      (escaped_then file (codes ":") line (codes ":") column (position_in (source_of n) n.offset) (codes "\",\"message\":\"" ++ (escape words ++ codes "\"}")) refl)
      ∙ ap (λ t. comma_if later ++ (codes "{\"posn\":\"" ++ (escape file ++ (codes ":" ++ (escape line ++ (codes ":" ++ (escape column ++ (codes "\",\"message\":\"" ++ t))))))))
      (escaped_then a b c d e words (codes "\"}") are))

  pub note_is : (comma file : List ℕ) (line column : ℕ) (a b c d e : List ℕ) → comma ≡ comma_if later
      → file ≡ name_of (source_of n) → line ≡ line_of (bytes_of (source_of n)) n.offset
      → column ≡ column_of (bytes_of (source_of n)) n.offset → line < 2 ^ 64 → column < 2 ^ 64
      → a ++ (b ++ (c ++ (d ++ e))) ≡ note_words wording n.text
      → comma_if later ++ compact_text (related_value wording n)
      ≡ joined (note_pieces comma file (decimal line) (decimal column) a b c d e) []
  note_is comma file line column a b c d e k f l o fits fit are =
      let whole : comma_if later ++ compact_text (related_value wording n)
      ≡ joined (note_pieces comma file (escape (decimal line)) (escape (decimal column)) a b c d e) []
      = rw (k, f, l, o) (note_here a b c d e are) in
      whole
      ∙ (ap (λ x. joined (note_pieces comma file x (escape (decimal column)) a b c d e) []) (number_stands line fits)
      ∙ ap (λ x. joined (note_pieces comma file (decimal line) x a b c d e) []) (number_stands column fit))

-- what stands before the findings
abbrev pub unit_pieces : List ℕ → List (List ℕ)
unit_pieces name = codes "{\"" ∷ escape name ∷ codes "\":{\"ctxvet\":[" ∷ []

unit_here : (name : List ℕ) (findings : List Data)
    → unit_json_of name findings ≡ joined (unit_pieces name) [] ++ (listed false findings ++ codes "]}}\n")
unfolding escape_byte
unit_here name findings =
    value_then_is (unit_value name findings) (codes "\n")
    ∙ (ap (λ t. codes "{\"" ++ (escape name ++ (codes "\":{\"ctxvet\":[" ++ t))) (items_then_listed false findings (codes "}}\n"))
    ∙ sym (joined_then (unit_pieces name) (listed false findings ++ codes "]}}\n")))

-- the findings of these in memory that are told
abbrev pub told_data : Style → List Fix → List Source → List Finding → List Data
told_data style fixes sources findings = unit_findings style fixes sources (map finding_view findings)

pub unit_is : (style : Style) (fixes : List Fix) (name : List ℕ) (p : FoundPackage) (findings : List Finding) → findings ≡ p.findings.items
    → unit_json style fixes name (found_view p)
    ≡ joined (unit_pieces name) [] ++ (listed false (told_data style fixes p.sources.now findings) ++ codes "]}}\n")
unit_is style fixes name p findings f = rw f (unit_here name (told_data style fixes p.sources.now p.findings.items))

-- a finding that is told, and one that is not
module _ (style : Style) (fixes : List Fix) (sources : List Source) (later : Bool) (f : FindingEntry) where
  pub told_is : is_told style f ≡ true
      → listed later (unit_findings style fixes sources (f ∷ [])) ≡ comma_if later ++ compact_text (unit_finding style fixes sources f)
  told_is told =
      ap (λ l. listed later (map (unit_finding style fixes sources) l)) (cond-true (is_told style f) (f ∷ []) [] told)
      ∙ ap (λ t. comma_if later ++ t) (append-nil (compact_text (unit_finding style fixes sources f)))

  pub untold_is : is_told style f ≡ false → listed later (unit_findings style fixes sources (f ∷ [])) ≡ []
  untold_is told =
      ap (λ l. listed later (map (unit_finding style fixes sources) l)) (cond-false (is_told style f) (f ∷ []) [] told)

-- the next one, the rest, and the end
told_then : (value : FindingEntry → Data) (told later : Bool) (f : FindingEntry) (fs : List FindingEntry)
    → listed later (map value (cond told (f ∷ fs) fs))
    ≡ listed later (map value (cond told (f ∷ []) [])) ++ listed (later || told) (map value fs)
told_then value true true f fs = regroup (comma_if true) (compact_text (value f)) [] (listed true (map value fs))
told_then value true false f fs = regroup (comma_if false) (compact_text (value f)) [] (listed true (map value fs))
told_then value false true f fs = refl
told_then value false false f fs = refl

pub next_told : (style : Style) (fixes : List Fix) (sources : List Source) (later : Bool) (fs : List Finding) (i : ℕ) (f : Finding)
    → i < length fs → f ≡ get_or fs i f → (after : Bool) → after ≡ (later || is_told style (finding_view f))
    → listed later (told_data style fixes sources (drop i fs))
    ≡ listed later (unit_findings style fixes sources (finding_view f ∷ [])) ++ listed after (told_data style fixes sources (drop (i + 1) fs))
next_told style fixes sources later fs i f inside there after is =
    rw is
    (ap (λ l. listed later (told_data style fixes sources l)) (drop_more fs i f inside)
    ∙ (ap (λ (x : Finding). listed later (told_data style fixes sources (x ∷ drop (i + 1) fs))) (sym there)
    ∙ told_then (unit_finding style fixes sources) (is_told style (finding_view f)) later (finding_view f) (filter (is_told style) (map finding_view (drop (i + 1) fs)))))

pub none_told : (style : Style) (fixes : List Fix) (sources : List Source) (later : Bool) (fs : List Finding) (i : ℕ) → length fs ≤ i
    → listed later (told_data style fixes sources (drop i fs)) ≡ []
none_told style fixes sources later fs i over = ap (λ l. listed later (told_data style fixes sources l)) (drop_all i fs over)

nothing_found : unit_json_of (codes "m") [] ≡ codes "{\"m\":{\"ctxvet\":[]}}\n"
unfolding escape_byte
nothing_found = refl
