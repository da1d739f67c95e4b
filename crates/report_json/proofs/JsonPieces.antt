-- The text of a report as JSON, cut into what is put.
use Rattle.std.proofs.Common.{◌≡◌, ℕ, ◌+◌, ◌<◌, ◌≤◌, length, get_or, take, drop, Option, Some, None, List, [], ◌∷◌, ◌++◌, map, decimal, codes, Bool, true, false, slice_get, refl, sym, ap, ◌∙◌}
use Rattle.std.proofs.lemmas.List.{append_assoc, drop_all, drop_more, take_more}
use Rattle.std.proofs.lemmas.Simd.{map-map}
use Rattle.std.specs.Borrow.{Bor}
use Rattle.std.specs.Prelude.{option_map}
use Rattle.json.specs.Print.{escape_byte, escape}
use Rattle.serde_json.specs.Data.{Data, string}
use Rattle.serde_json.specs.Written.{comma_if, compact_text}
use Rattle.accepting.specs.Findings.{AcceptedBy, FindingEntry, finding_view, found_view, verdict_of}
use Rattle.accepting.specs.declared.findings.Finding.{Finding}
use Rattle.accepting.specs.declared.findings.FoundPackage.{FoundPackage}
use Rattle.accepting.specs.declared.findings.Verdict.{Verdict}
use Rattle.accepting.specs.declared.findings.Verdict.TheVariants.{Yes, Accepted, No}
use Rattle.lexer.specs.declared.source.Place.{Place}
use Rattle.lexer.specs.declared.source.Source.{Source}
use Rattle.lexer.specs.Place.{line_of, column_of}
use Rattle.report.specs.Codes.{code_number, code_words}
use Rattle.report.specs.Entries.{Entry, texts_of}
use Rattle.report.specs.Notes.{note_words, source_of}
use Rattle.report.specs.ReportText.{name_of, bytes_of}
use Rattle.report.specs.declared.codes.Wording.{Wording}
use Rattle.report.specs.declared.codes.Wording.TheVariants.{First, Second}
use Rattle.report.specs.declared.notes.Note.{Note}
use Rattle.report.specs.declared.notes.NoteText.{NoteText}
use Rattle.format_parts.specs.Pieces.{listed, members_listed, opened}
use Rattle.report_json.specs.Pieces.{IsByteRegion, json_end}
use Rattle.format_parts.specs.Objects.{items_of, list_of, object_of}
use Rattle.report_json.specs.JsonText.{byte_end, code_members, end_members, kind_members, place_members_at, place_members, said_members, reason_members, version_members, why_members, finding_value, verdict_members, package_value, note_value, note_values, json_of, json_text}
use Rattle.format_parts.specs.Fixes.{fix_members, told_fix}
use Rattle.format_parts.specs.NameEnds.{told_end}
use Rattle.report_json.specs.InFunctions.{around_members}
use Rattle.report_json.specs.NoteKinds.{kind_text, taken_in, taken_members}
use Rattle.report_json.specs.StepEnds.{byte_place, step_end_place}
use Rattle.report_json.specs.Turns.{told_turn, turn_members}
use Rattle.format_parts.specs.Told.{notes_told, reason_text}
use Rattle.format_parts.specs.declared.ends.Region.{Region}
use Rattle.format_parts.specs.declared.style.Style.{Style}
use Rattle.suggested_fixes.specs.declared.edits.Fix.{Fix}
use Rattle.format_parts.proofs.NoteParts.{escaped_then}
use Rattle.format_parts.proofs.Values.{items_then, joined, value_then_is, value_is, items_then_listed, listed_is, listed_then, listed_then_is, listed_then_parts, opened_then, opened_is, object_parts, more_parts, last_parts}

-- a place behind its comma
abbrev pub place_pieces : (comma file : List ℕ) (line column : ℕ) → List (List ℕ)
place_pieces comma file line column =
    comma ∷ codes "{\"file\":\"" ∷ escape file ∷ codes "\",\"line\":" ∷ decimal line ∷ codes ",\"column\":" ∷ decimal column ∷ []

place_here : (later : Bool) (file : List ℕ) (line column : ℕ) → opened later (place_members_at file line column) ≡ joined (place_pieces (comma_if later) file line column) []
unfolding escape_byte
place_here later file line column = opened_is later (place_members_at file line column)

pub place_is : (later : Bool) (file : List ℕ) (line column : ℕ) (comma : List ℕ) → comma ≡ comma_if later → opened later (place_members_at file line column) ≡ joined (place_pieces comma file line column) []
place_is later file line column comma c = rw c (place_here later file line column)

-- what stands behind the place of a finding
abbrev pub said_pieces : (number name text : List ℕ) → List (List ℕ)
said_pieces number name text =
    codes ",\"code\":\"" ∷ escape number ∷ codes "\",\"name\":\"" ∷ escape name ∷ codes "\",\"text\":\"" ∷ escape text
    ∷ codes "\"" ∷ []

said_here : (later : Bool) (wording : Wording) (source : Option Source) (said : Entry) → opened later (said_members wording source said) ≡ opened later (place_members source said.offset) ++ (members_listed true (end_members (byte_end wording source said)) ++ joined (said_pieces (code_number said.code) said.name (code_words wording said.code)) [])
unfolding escape_byte
said_here later wording source said =
    let place = place_members source said.offset in
    let end = end_members (byte_end wording source said) in
    let code = code_members wording said in
    opened_is later (said_members wording source said)
    ∙ (sym (opened_then later place (listed_then true (end ++ code) []))
    ∙ ap (λ t. opened later place ++ t) (listed_then_parts end code [] ∙ sym (listed_then_is true end (listed_then true code []))))

pub said_is : (later : Bool) (wording : Wording) (source : Option Source) (said : Entry) (file : List ℕ) (region : Region) (number text : List ℕ) → file ≡ name_of source → IsByteRegion wording source said region → number ≡ code_number said.code → text ≡ code_words wording said.code → opened later (said_members wording source said) ≡ opened later (place_members_at file region.start.line region.start.column) ++ (members_listed true (end_members region.end) ++ joined (said_pieces number said.name text) [])
said_is later wording source said file region number text f is n t =
    rw (f, is.start.line, is.start.column, is.end, n, t) (said_here later wording source said)

-- where a name ends
end_here : (place : Place) → members_listed true (end_members (Some place)) ≡ joined (codes ",\"end_line\":" ∷ decimal place.line ∷ codes ",\"end_column\":" ∷ decimal place.column ∷ []) []
unfolding escape_byte
end_here place = listed_is true (end_members (Some place))

pub end_is : (end : Option Place) (place : Place) → end ≡ Some place → members_listed true (end_members end) ≡ joined (codes ",\"end_line\":" ∷ decimal place.line ∷ codes ",\"end_column\":" ∷ decimal place.column ∷ []) []
end_is end place e = rw e (end_here place)

pub no_end : (end : Option Place) → end ≡ None → members_listed true (end_members end) ≡ []
no_end end e = rw e refl

-- the reason, in its string
reason_here : (by : AcceptedBy) → members_listed true (reason_members (Some by)) ≡ codes ",\"accepted\":\"" ++ (escape (reason_text by) ++ codes "\"")
unfolding escape_byte
reason_here by = listed_is true (reason_members (Some by))

pub reason_is : (accepted : Option AcceptedBy) (by : AcceptedBy) (reason : List ℕ) → accepted ≡ Some by → reason ≡ reason_text by → members_listed true (reason_members accepted) ≡ codes ",\"accepted\":\"" ++ (escape reason ++ codes "\"")
reason_is accepted by reason a r = rw (a, r) (reason_here by)

pub no_reason : (accepted : Option AcceptedBy) → accepted ≡ None → members_listed true (reason_members accepted) ≡ []
no_reason accepted a = rw a refl

-- its notes
why_here : (wording : Wording) (notes : List Note) → members_listed true (why_members true wording notes) ≡ codes ",\"why\":[" ++ (listed false (note_values wording [] notes) ++ codes "]")
unfolding escape_byte
why_here wording notes =
    listed_is true (why_members true wording notes)
    ∙ ap (λ t. codes ",\"why\":[" ++ t) (items_then_listed false (note_values wording [] notes) [])

pub why_is : (asked : Bool) (wording : Wording) (notes told : List Note) → asked ≡ true → told ≡ notes → members_listed true (why_members asked wording notes) ≡ codes ",\"why\":[" ++ (listed false (note_values wording [] told) ++ codes "]")
why_is asked wording notes told a t = rw (a, t) (why_here wording notes)

pub no_why : (asked : Bool) (wording : Wording) (notes : List Note) → asked ≡ false → members_listed true (why_members asked wording notes) ≡ []
no_why asked wording notes a = rw a refl

-- a note behind its place
abbrev pub note_pieces : (a b c d e : List ℕ) → List (List ℕ)
note_pieces a b c d e =
    codes ",\"text\":\"" ∷ escape a ∷ escape b ∷ escape c ∷ escape d ∷ escape e ∷ codes "\"}" ∷ []

note_here : (later : Bool) (wording : Wording) (behind : List Note) (n : Note) (a b c d e : List ℕ) → a ++ (b ++ (c ++ (d ++ e))) ≡ note_words wording n.text → comma_if later ++ compact_text (note_value wording behind n) ≡ opened later (place_members (source_of n) n.offset) ++ (members_listed true (end_members (step_end_place wording n)) ++ (members_listed true (kind_members wording n.text) ++ (members_listed true (turn_members (told_turn wording behind n)) ++ joined (note_pieces a b c d e) [])))
unfolding escape_byte
note_here later wording behind n a b c d e are =
    let before = place_members (source_of n) n.offset in
    let end = end_members (step_end_place wording n) in
    let kind = kind_members wording n.text in
    let turn = turn_members (told_turn wording behind n) in
    let last = (codes "text", string (note_words wording n.text)) ∷ [] in
    object_parts later before (end ++ (kind ++ (turn ++ last)))
    ∙ ap (λ t. opened later before ++ t)
    (more_parts end (kind ++ (turn ++ last)) []
    ∙ ap (λ t. members_listed true end ++ t)
    (more_parts kind (turn ++ last) []
    ∙ ap (λ t. members_listed true kind ++ t)
    (more_parts turn last []
    ∙ ap (λ t. members_listed true turn ++ (codes ",\"text\":\"" ++ t)) (escaped_then a b c d e (note_words wording n.text) (codes "\"}") are))))

pub note_is : (later : Bool) (wording : Wording) (behind : List Note) (n : Note) (file : List ℕ) (line column : ℕ) (end : Option Place) (turn : Option ℕ) (a b c d e : List ℕ) → file ≡ name_of (source_of n) → line ≡ line_of (bytes_of (source_of n)) n.offset → column ≡ column_of (bytes_of (source_of n)) n.offset → end ≡ step_end_place wording n → turn ≡ told_turn wording behind n → a ++ (b ++ (c ++ (d ++ e))) ≡ note_words wording n.text → comma_if later ++ compact_text (note_value wording behind n) ≡ opened later (place_members_at file line column) ++ (members_listed true (end_members end) ++ (members_listed true (kind_members wording n.text) ++ (members_listed true (turn_members turn) ++ joined (note_pieces a b c d e) [])))
note_is later wording behind n file line column end turn a b c d e f l o z t are =
    rw (f, l, o, z, t) (note_here later wording behind n a b c d e are)

-- the next note of a list, and the rest
pub next_note : (wording : Wording) (later : Bool) (notes : List Note) (i : ℕ) (n : Note) (before : List Note) → i < length notes → n ≡ get_or notes i n → before ≡ take i notes → listed later (note_values wording (take i notes) (drop i notes)) ≡ (comma_if later ++ compact_text (note_value wording before n)) ++ listed true (note_values wording (take (i + 1) notes) (drop (i + 1) notes))
next_note wording later notes i n before inside there is =
    let x = get_or notes i n in
    let rest = drop (i + 1) notes in
    let cut : listed later (note_values wording (take i notes) (drop i notes)) ≡ comma_if later ++ (compact_text (note_value wording (take i notes) x) ++ listed true (note_values wording (take (i + 1) notes) rest))
    = ap (λ l. listed later (note_values wording (take i notes) l)) (drop_more notes i n inside)
    ∙ ap (λ l. comma_if later ++ (compact_text (note_value wording (take i notes) x) ++ listed true (note_values wording l rest))) (sym (take_more notes i n inside)) in
    cut
    ∙ sym (append_assoc (comma_if later) (compact_text (note_value wording (take i notes) x)) (listed true (note_values wording (take (i + 1) notes) rest)))
    ∙ (λ k. (comma_if later ++ compact_text (note_value wording (sym is k) (sym there k))) ++ listed true (note_values wording (take (i + 1) notes) rest))

pub none_noted : (wording : Wording) (later : Bool) (notes : List Note) (i : ℕ) → length notes ≤ i → listed later (note_values wording (take i notes) (drop i notes)) ≡ []
none_noted wording later notes i over = ap (λ l. listed later (note_values wording (take i notes) l)) (drop_all i notes over)

-- the turn that a note tells
turn_here : (turn : ℕ) → members_listed true (turn_members (Some turn)) ≡ joined (codes ",\"turn\":" ∷ decimal turn ∷ []) []
unfolding escape_byte
turn_here turn = listed_is true (turn_members (Some turn))

pub turn_is : (told : Option ℕ) (turn : ℕ) → told ≡ Some turn → members_listed true (turn_members told) ≡ joined (codes ",\"turn\":" ∷ decimal turn ∷ []) []
turn_is told turn t = rw t (turn_here turn)

pub no_turn : (told : Option ℕ) → told ≡ None → members_listed true (turn_members told) ≡ []
no_turn told t = rw t refl

-- of which kind a note is
kind_here : (text : NoteText) → members_listed true (kind_members Second text) ≡ joined (codes ",\"kind\":\"" ∷ escape (kind_text text) ∷ codes "\"" ∷ members_listed true (taken_members (taken_in text)) ∷ []) []
unfolding escape_byte
kind_here text =
    let taken = taken_members (taken_in text) in
    listed_is true (kind_members Second text)
    ∙ ap (λ t. codes ",\"kind\":\"" ++ (escape (kind_text text) ++ (codes "\"" ++ t))) (sym (listed_then_is true taken []))

pub kind_is : (wording : Wording) (text : NoteText) (kind taken : List ℕ) → wording ≡ Second → kind ≡ kind_text text → taken ≡ members_listed true (taken_members (taken_in text)) → members_listed true (kind_members wording text) ≡ joined (codes ",\"kind\":\"" ∷ escape kind ∷ codes "\"" ∷ taken ∷ []) []
kind_is wording text kind taken w k t = rw (w, k, t) (kind_here text)

pub no_kind : (wording : Wording) (text : NoteText) → wording ≡ First → members_listed true (kind_members wording text) ≡ []
no_kind wording text w = rw w refl

-- a name behind its comma
abbrev pub name_pieces : (comma name : List ℕ) → List (List ℕ)
name_pieces comma name = comma ∷ codes "\"" ∷ escape name ∷ codes "\"" ∷ []

name_here : (later : Bool) (name : List ℕ) → comma_if later ++ compact_text (string name) ≡ joined (name_pieces (comma_if later) name) []
name_here later name = ap (λ t. comma_if later ++ t) (value_is (string name))

pub name_is : (later : Bool) (name comma : List ℕ) → comma ≡ comma_if later → comma_if later ++ compact_text (string name) ≡ joined (name_pieces comma name) []
name_is later name comma c = rw c (name_here later name)

-- names, one by one
abbrev pub name_value : Bor (List ℕ) → Data
name_value name = string name.now

pub names_are : (names : List (Bor (List ℕ))) → listed false (map string (texts_of names)) ≡ listed false (map name_value names)
names_are names = ap (listed false) (map-map string (λ (name : Bor (List ℕ)). name.now) names)

-- what is told of the verdict
pub yes_is : (keeping : List (List ℕ)) → members_listed true (verdict_members Yes keeping) ≡ codes ",\"yes\":true,\"keeping\":[" ++ (listed false (map string keeping) ++ codes "]")
unfolding escape_byte
yes_is keeping =
    listed_is true (verdict_members Yes keeping)
    ∙ ap (λ t. codes ",\"yes\":true,\"keeping\":[" ++ t) (items_then_listed false (map string keeping) [])

accepted_here : (keeping : List (List ℕ)) → members_listed true (verdict_members Accepted keeping) ≡ codes ",\"yes\":false,\"accepted\":true,\"keeping\":[]"
unfolding escape_byte
accepted_here keeping = listed_is true (verdict_members Accepted keeping)

pub accepted_is : (verdict : Verdict) (keeping : List (List ℕ)) → verdict ≡ Accepted → members_listed true (verdict_members verdict keeping) ≡ codes ",\"yes\":false,\"accepted\":true,\"keeping\":[]"
accepted_is verdict keeping v = rw v (accepted_here keeping)

no_here : (keeping : List (List ℕ)) → members_listed true (verdict_members No keeping) ≡ codes ",\"yes\":false,\"keeping\":[]"
unfolding escape_byte
no_here keeping = listed_is true (verdict_members No keeping)

pub no_is : (verdict : Verdict) (keeping : List (List ℕ)) → verdict ≡ No → members_listed true (verdict_members verdict keeping) ≡ codes ",\"yes\":false,\"keeping\":[]"
no_is verdict keeping v = rw v (no_here keeping)

-- a package behind its comma, up to its verdict
abbrev pub path_pieces : (comma path : List ℕ) → List (List ℕ)
path_pieces comma path = comma ∷ codes "{\"path\":\"" ∷ escape path ∷ codes "\"" ∷ []

path_here : (later : Bool) (path : List ℕ) → opened later ((codes "path", string path) ∷ []) ≡ joined (path_pieces (comma_if later) path) []
unfolding escape_byte
path_here later path = opened_is later ((codes "path", string path) ∷ [])

-- and behind its verdict
diagnostics_here : (ds : List Data) → members_listed true ((codes "diagnostics", list_of ds) ∷ []) ++ codes "}" ≡ codes ",\"diagnostics\":[" ++ (listed false ds ++ codes "]}")
unfolding escape_byte
diagnostics_here ds =
    sym (last_parts ((codes "diagnostics", list_of ds) ∷ []) [])
    ∙ ap (λ t. codes ",\"diagnostics\":[" ++ t) (items_then_listed false ds (codes "}"))

pub package_here : (later : Bool) (path : List ℕ) (verdict : Verdict) (keeping : List (List ℕ)) (ds : List Data) → comma_if later ++ compact_text (object_of ((codes "path", string path) ∷ (verdict_members verdict keeping ++ ((codes "diagnostics", list_of ds) ∷ [])))) ≡ joined (path_pieces (comma_if later) path) [] ++ (members_listed true (verdict_members verdict keeping) ++ (codes ",\"diagnostics\":[" ++ (listed false ds ++ codes "]}")))
package_here later path verdict keeping ds =
    let said = verdict_members verdict keeping in
    let last = (codes "diagnostics", list_of ds) ∷ [] in
    object_parts later ((codes "path", string path) ∷ []) (said ++ last)
    ∙ (ap (λ t. opened later ((codes "path", string path) ∷ []) ++ t) (more_parts said last [] ∙ ap (λ t. members_listed true said ++ t) (last_parts last [] ∙ diagnostics_here ds))
    ∙ ap (λ t. t ++ (members_listed true said ++ (codes ",\"diagnostics\":[" ++ (listed false ds ++ codes "]}")))) (path_here later path))

-- whether a branch is taken
taken_here : codes ",\"taken\":true" ≡ members_listed true (taken_members (Some true))
unfolding escape_byte
taken_here = refl

passed_here : codes ",\"taken\":false" ≡ members_listed true (taken_members (Some false))
unfolding escape_byte
passed_here = refl

pub is_taken : (taken : Option Bool) → taken ≡ Some true → codes ",\"taken\":true" ≡ members_listed true (taken_members taken)
is_taken taken t = rw t taken_here

pub is_passed : (taken : Option Bool) → taken ≡ Some false → codes ",\"taken\":false" ≡ members_listed true (taken_members taken)
is_passed taken t = rw t passed_here

pub no_branch : (taken : Option Bool) → taken ≡ None → [] ≡ members_listed true (taken_members taken)
no_branch taken t = rw t refl

-- what stands behind the packages
first_end : json_end First ≡ joined (codes "],\"version\":" ∷ decimal 1 ∷ codes "}\n" ∷ []) []
unfolding escape_byte
first_end = ap (λ t. 93 ∷ t) (listed_then_is true (version_members First) (codes "}\n"))

second_end : json_end Second ≡ joined (codes "],\"version\":" ∷ decimal 2 ∷ codes ",\"edition\":" ∷ decimal 2 ∷ codes "}\n" ∷ []) []
unfolding escape_byte
second_end = ap (λ t. 93 ∷ t) (listed_then_is true (version_members Second) (codes "}\n"))

pub ends_first : (wording : Wording) → wording ≡ First → json_end wording ≡ joined (codes "],\"version\":" ∷ decimal 1 ∷ codes "}\n" ∷ []) []
ends_first wording w = rw w first_end

pub ends_second : (wording : Wording) → wording ≡ Second → json_end wording ≡ joined (codes "],\"version\":" ∷ decimal 2 ∷ codes ",\"edition\":" ∷ decimal 2 ∷ codes "}\n" ∷ []) []
ends_second wording w = rw w second_end

pub report_here : (wording : Wording) (packages : List Data) → json_of wording packages ≡ codes "{\"packages\":[" ++ (listed false packages ++ json_end wording)
unfolding escape_byte
report_here wording packages =
    let version = version_members wording in
    value_then_is (object_of ((codes "packages", list_of packages) ∷ version)) (codes "\n")
    ∙ (ap (λ t. codes "{\"packages\":[" ++ items_then false (items_of packages) t) (last_parts version (codes "\n"))
    ∙ ap (λ t. codes "{\"packages\":[" ++ t) (items_then_listed false packages (members_listed true version ++ codes "}\n")))

-- where a name ends, as it was found
place_same : (place : Place) (line column : ℕ) → place.line ≡ line → place.column ≡ column → place ≡ record { line = line; column = column }
place_same place line column l c = λ i. record { line = l i; column = c i }

pub end_found : (wording : Wording) (source : Option Source) (said : Entry) (offset : ℕ) (place : Place) (found : Option ℕ) → found ≡ told_end wording source said → found ≡ Some offset → place.line ≡ line_of (bytes_of source) offset → place.column ≡ column_of (bytes_of source) offset → Some place ≡ byte_end wording source said
end_found wording source said offset place found told is line column =
    ap Some (place_same place _ _ line column) ∙ ap (option_map (byte_place source)) (sym is ∙ told)

pub none_found : (wording : Wording) (source : Option Source) (said : Entry) (found : Option ℕ) → found ≡ told_end wording source said → found ≡ None → None ≡ byte_end wording source said
none_found wording source said found told is = ap (option_map (byte_place source)) (sym is ∙ told)
