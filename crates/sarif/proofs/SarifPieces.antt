-- The text of a report in SARIF, cut into what is put.
use Rattle.std.proofs.Common.{◌≡◌, ℕ, ◌+◌, ◌<◌, ◌^◌, Option, Some, None, slice_get, List, [], ◌∷◌, ◌++◌, length, get_or, drop, map, flat_map, decimal, codes, Bool, true, false, true≢false, refl, sym, ap, ◌∙◌}
use Rattle.std.proofs.Math.Dec.{eqb-suc-zero}
use Rattle.std.proofs.lemmas.List.{append_assoc, append-nil}
use Rattle.std.proofs.lemmas.List.Folds.{flat_map-map}
use Rattle.std.proofs.lemmas.Simd.{map-map}
use Rattle.std.specs.Prelude.{◌==◌, option_map}
use Rattle.json.specs.Print.{escape_byte, escape}
use Rattle.serde_json.specs.Data.{Data, Members, string}
use Rattle.serde_json.specs.Written.{comma_if, compact_text, members_text}
use Rattle.accepting.specs.Findings.{AcceptedBy, FindingEntry, line, baseline, finding_view, found_view}
use Rattle.accepting.specs.declared.findings.Finding.{Finding}
use Rattle.accepting.specs.declared.findings.FoundPackage.{FoundPackage}
use Rattle.lexer.specs.declared.source.Place.{Place}
use Rattle.lexer.specs.declared.source.Source.{Source}
use Rattle.report.specs.Codes.{code_number, code_words}
use Rattle.report.specs.Entries.{Entry}
use Rattle.report.specs.Notes.{note_words, source_of}
use Rattle.report.specs.ReportText.{bytes_of, name_of}
use Rattle.report.specs.declared.codes.DiagnosticCode.{DiagnosticCode}
use Rattle.report.specs.declared.codes.Wording.{Wording}
use Rattle.report.specs.declared.codes.Wording.TheVariants.{First, Second}
use Rattle.report.specs.declared.notes.Note.{Note}
use Rattle.format_parts.specs.FileUris.{file_uri, is_absolute, uri_scheme, uri_path}
use Rattle.lexer.specs.Place.{line_of}
use Rattle.sarif.specs.CodePoints.{code_point_column}
use Rattle.sarif.specs.Fingerprints.{sum_at}
use Rattle.format_parts.specs.Fixes.{told_fix}
use Rattle.format_parts.specs.NameEnds.{told_end}
use Rattle.format_parts.specs.Objects.{list_of, members_of}
use Rattle.format_parts.specs.Pieces.{listed, members_listed, opened, after_results}
use Rattle.sarif.specs.Pieces.{front_end, log_front, base_text, notes_front, notes_end, note_front, note_end, IsPlaceOf, IsRegionOf}
use Rattle.sarif.specs.RuleHelp.{help_markdown, help_text, meaning}
use Rattle.sarif.specs.SarifCodes.{level, rule_codes, rule_index, rule_text, tells_way, topic}
use Rattle.format_parts.specs.NameEnds.{name_before}
use Rattle.sarif.specs.SarifText.{end_place, message, place_at, base_members, detail_members, end_members, fingerprint_members, fixes_members, information_members, kind_members, location_members, location_of, only, said_location, tool_members, result_members, result_value, kind_text, suppression_members, note_location, told_note, notes_member, note_members, package_results, rule_value, log_value, sarif_of, sarif_text}
use Rattle.format_parts.specs.Told.{notes_told, reason_text}
use Rattle.format_parts.specs.declared.ends.Region.{Region}
use Rattle.format_parts.specs.declared.style.Style.{Style}
use Rattle.suggested_fixes.specs.declared.edits.Fix.{Fix}
use Rattle.sarif.specs.declared.version.TheConstants.{INFORMATION_URI, VERSION}
use Rattle.format_parts.proofs.NoteParts.{escaped_then}
use Rattle.format_parts.proofs.Spelled.{escape-append, file_uri_then}
use Rattle.format_parts.proofs.Spelled.{number_stands}
use Rattle.format_parts.proofs.Values.{joined, joined_then, value_then, members_then, members_then_is, value_then_is, value_is, items_then_listed, listed_is, listed_then_is, opened_then, opened_is, object_parts, more_parts, last_parts, next_values}

-- what stands for a finding in memory, and the results of a package
abbrev pub result_data : Style → List Fix → List Source → Finding → Data
result_data style fixes sources f = result_value style fixes sources (finding_view f)

abbrev pub results_of : Style → List Fix → FoundPackage → List Data
results_of style fixes p = package_results style fixes (found_view p)

-- a rule behind its comma, up to what is said beside its text
abbrev pub rule_pieces : (comma number text : List ℕ) → List (List ℕ)
rule_pieces comma number text =
    comma ∷ codes "{\"id\":\"" ∷ escape number ∷ codes "\",\"shortDescription\":{\"text\":\"" ∷ escape text ∷ codes "\"}" ∷ []

abbrev rule_front : Wording → DiagnosticCode → List (List ℕ × Data)
rule_front wording code =
    (codes "id", string (code_number code)) ∷ (codes "shortDescription", only (codes "text") (string (rule_text wording code))) ∷ []

rule_opened : (later : Bool) (wording : Wording) (code : DiagnosticCode) → opened later (rule_front wording code) ≡ joined (rule_pieces (comma_if later) (code_number code) (rule_text wording code)) []
unfolding escape_byte
rule_opened later wording code = opened_is later (rule_front wording code)

rule_here : (later : Bool) (wording : Wording) (code : DiagnosticCode) → comma_if later ++ compact_text (rule_value wording code) ≡ joined (rule_pieces (comma_if later) (code_number code) (rule_text wording code)) [] ++ (members_listed true (detail_members wording code) ++ codes "}")
rule_here later wording code =
    let details = members_listed true (detail_members wording code) ++ codes "}" in
    object_parts later (rule_front wording code) (detail_members wording code)
    ∙ (ap (λ t. opened later (rule_front wording code) ++ t) (last_parts (detail_members wording code) [])
    ∙ ap (λ t. t ++ details) (rule_opened later wording code))

pub rule_is : (later : Bool) (wording : Wording) (code : DiagnosticCode) (comma number text : List ℕ) → comma ≡ comma_if later → number ≡ code_number code → text ≡ rule_text wording code → comma_if later ++ compact_text (rule_value wording code) ≡ joined (rule_pieces comma number text) [] ++ (members_listed true (detail_members wording code) ++ codes "}")
rule_is later wording code comma number text c n t = rw (c, n, t) (rule_here later wording code)

-- what is said of a rule beside its text
abbrev pub help_pieces : (said text markdown grave about : List ℕ) → List (List ℕ)
help_pieces said text markdown grave about =
    codes ",\"fullDescription\":{\"text\":\"" ∷ escape said ∷ codes "\"},\"help\":{\"text\":\"" ∷ escape text
    ∷ codes "\",\"markdown\":\"" ∷ escape markdown ∷ codes "\"},\"defaultConfiguration\":{\"level\":\"" ∷ escape grave
    ∷ codes "\"},\"properties\":{\"tags\":[\"go\",\"" ∷ escape about ∷ codes "\"]}" ∷ []

help_here : (code : DiagnosticCode) → members_listed true (detail_members Second code) ≡ joined (help_pieces (meaning code) (help_text code) (help_markdown code) (level code) (topic code)) []
unfolding escape_byte
help_here code = listed_is true (detail_members Second code)

pub help_is : (code : DiagnosticCode) (said text markdown grave about : List ℕ) → said ≡ meaning code → text ≡ help_text code → markdown ≡ help_markdown code → grave ≡ level code → about ≡ topic code → members_listed true (detail_members Second code) ≡ joined (help_pieces said text markdown grave about) []
help_is code said text markdown grave about s t m g a = rw (s, t, m, g, a) (help_here code)

pub no_details : (wording : Wording) (code : DiagnosticCode) → wording ≡ First → members_listed true (detail_members wording code) ≡ []
no_details wording code w = rw w refl

-- where a result stands, up to where its region ends
abbrev pub location_pieces : (scheme path base : List ℕ) (row column : ℕ) → List (List ℕ)
location_pieces scheme path base row column =
    codes "{\"physicalLocation\":{\"artifactLocation\":{\"uri\":\"" ∷ scheme ∷ path ∷ base
    ∷ codes "},\"region\":{\"startLine\":" ∷ decimal row ∷ codes ",\"startColumn\":" ∷ decimal column ∷ []

pub base_then : (absolute : Bool) (rest : List ℕ) → 34 ∷ members_then true (members_of (base_members absolute)) rest ≡ base_text absolute ++ 125 ∷ rest
unfolding escape_byte
base_then true rest = refl
base_then false rest = refl

location_here : (name : List ℕ) (row column : ℕ) (end : Option Place) → opened false (location_members name row column end) ≡ joined (location_pieces (uri_scheme name) (uri_path name) (base_text (is_absolute name)) row column) [] ++ (members_listed true (end_members end) ++ codes "}}")
unfolding escape_byte
location_here name row column end =
    let tail = members_listed true (end_members end) ++ codes "}}" in
    let begin = codes "{\"physicalLocation\":{\"artifactLocation\":{\"uri\":\"" in
    let starts = codes ",\"region\":{\"startLine\":" ∷ decimal row ∷ codes ",\"startColumn\":" ∷ decimal column ∷ [] in
    let base = members_of (base_members (is_absolute name)) in
    let pieces = location_pieces (uri_scheme name) (uri_path name) (base_text (is_absolute name)) row column in
    opened_is false (location_members name row column end)
    ∙ (ap (λ t. begin ++ (escape (file_uri name) ++ 34 ∷ members_then true base (joined starts t))) (last_parts (end_members end) (codes "}"))
    ∙ (ap (λ t. begin ++ t) (file_uri_then name (34 ∷ members_then true base (joined starts tail)))
    ∙ (ap (λ t. begin ++ (uri_scheme name ++ (uri_path name ++ t))) (base_then (is_absolute name) (joined starts tail))
    ∙ sym (joined_then pieces tail))))

pub location_is : (name : List ℕ) (row column : ℕ) (end : Option Place) (scheme base : List ℕ) → scheme ≡ uri_scheme name → base ≡ base_text (is_absolute name) → opened false (location_members name row column end) ≡ joined (location_pieces scheme (uri_path name) base row column) [] ++ (members_listed true (end_members end) ++ codes "}}")
location_is name row column end scheme base s b = rw (s, b) (location_here name row column end)

-- where its region ends
abbrev pub end_pieces : (row column : ℕ) → List (List ℕ)
end_pieces row column =
    codes ",\"endLine\":" ∷ decimal row ∷ codes ",\"endColumn\":" ∷ decimal column ∷ codes "}}" ∷ []

end_here : (place : Place) → members_listed true (end_members (Some place)) ++ codes "}}" ≡ joined (end_pieces place.line place.column) []
unfolding escape_byte
end_here place = listed_then_is true (end_members (Some place)) (codes "}}")

pub end_is : (end : Option Place) (place : Place) → end ≡ Some place → members_listed true (end_members end) ++ codes "}}" ≡ joined (end_pieces place.line place.column) []
end_is end place e = rw e (end_here place)

pub no_end : (end : Option Place) → end ≡ None → members_listed true (end_members end) ++ codes "}}" ≡ codes "}}"
no_end end e = rw e refl

-- by what a result is known again
abbrev pub print_pieces : (number name : List ℕ) (sum : ℕ) → List (List ℕ)
print_pieces number name sum =
    codes ",\"partialFingerprints\":{\"ctxvet/v1\":\"" ∷ escape number ∷ codes "/" ∷ escape name ∷ codes "/" ∷ decimal sum
    ∷ codes "\"}" ∷ []

print_here : (source : Option Source) (d : Entry) (sum : ℕ) → sum ≡ sum_at (bytes_of source) d.offset → sum < 2 ^ 64 → members_listed true (fingerprint_members Second source d) ≡ joined (print_pieces (code_number d.code) d.name sum) []
unfolding escape_byte
print_here source d sum is fits =
    let number = code_number d.code in
    let begin = codes ",\"partialFingerprints\":{\"ctxvet/v1\":\"" in
    let text = number ++ (codes "/" ++ (d.name ++ (codes "/" ++ decimal sum))) in
    listed_is true (fingerprint_members Second source d)
    ∙ (ap (λ n. begin ++ (escape (number ++ (codes "/" ++ (d.name ++ (codes "/" ++ decimal n)))) ++ codes "\"}")) (sym is)
    ∙ (ap (λ t. begin ++ t) (escaped_then number (codes "/") d.name (codes "/") (decimal sum) text (codes "\"}") refl)
    ∙ ap (λ t. begin ++ (escape number ++ (codes "/" ++ (escape d.name ++ (codes "/" ++ (t ++ codes "\"}")))))) (number_stands sum fits)))

pub print_is : (wording : Wording) (source : Option Source) (d : Entry) (number : List ℕ) (sum : ℕ) → wording ≡ Second → number ≡ code_number d.code → sum ≡ sum_at (bytes_of source) d.offset → sum < 2 ^ 64 → members_listed true (fingerprint_members wording source d) ≡ joined (print_pieces number d.name sum) []
print_is wording source d number sum w n is fits = rw (w, n) (print_here source d sum is fits)

pub no_print : (wording : Wording) (source : Option Source) (d : Entry) → wording ≡ First → members_listed true (fingerprint_members wording source d) ≡ []
no_print wording source d w = rw w refl

-- a result behind its comma, up to where it stands
abbrev pub result_pieces : (comma number : List ℕ) (index : ℕ) (grave name space text : List ℕ) → List (List ℕ)
result_pieces comma number index grave name space text =
    comma ∷ codes "{\"ruleId\":\"" ∷ escape number ∷ codes "\",\"ruleIndex\":" ∷ decimal index ∷ codes ",\"level\":\"" ∷ escape grave
    ∷ codes "\",\"message\":{\"text\":\"" ∷ escape name ∷ escape space ∷ escape text ∷ codes "\"},\"locations\":[" ∷ []

-- the message in its string, and the rest
message_then : (name space text rest : List ℕ) → escape ((name ++ space) ++ text) ++ rest ≡ escape name ++ (escape space ++ (escape text ++ rest))
message_then name space text rest =
    ap (λ t. t ++ rest) (escape-append (name ++ space) text ∙ ap (λ t. t ++ escape text) (escape-append name space))
    ∙ (append_assoc (escape name ++ escape space) (escape text) rest ∙ append_assoc (escape name) (escape space) (escape text ++ rest))

result_here : (later : Bool) (wording : Wording) (source : Option Source) (d : Entry) (name space : List ℕ) → name ++ space ≡ name_before d.name → opened later (result_members wording source d) ≡ joined (result_pieces (comma_if later) (code_number d.code) (rule_index d.code) (level d.code) name space (code_words wording d.code)) [] ++ (opened false (said_location wording source d) ++ codes "}]")
unfolding escape_byte
result_here later wording source d name space parts =
    let before = comma_if later ∷ codes "{\"ruleId\":\"" ∷ escape (code_number d.code) ∷ codes "\",\"ruleIndex\":" ∷ decimal (rule_index d.code) ∷ codes ",\"level\":\"" ∷ escape (level d.code) ∷ codes "\",\"message\":{\"text\":\"" ∷ [] in
    let after = codes "\"},\"locations\":[" ++ (opened false (said_location wording source d) ++ codes "}]") in
    let pieces = result_pieces (comma_if later) (code_number d.code) (rule_index d.code) (level d.code) name space (code_words wording d.code) in
    opened_is later (result_members wording source d)
    ∙ (ap (λ t. joined before (escape (message wording d) ++ (codes "\"},\"locations\":[" ++ t))) (sym (opened_then false (said_location wording source d) (codes "}]")))
    ∙ (ap (λ n. joined before (escape (n ++ code_words wording d.code) ++ after)) (sym parts)
    ∙ (ap (λ t. joined before t) (message_then name space (code_words wording d.code) after)
    ∙ sym (joined_then pieces (opened false (said_location wording source d) ++ codes "}]")))))

pub result_is : (later : Bool) (wording : Wording) (source : Option Source) (d : Entry) (name space comma number : List ℕ) (index : ℕ) (grave text : List ℕ) → name ++ space ≡ name_before d.name → comma ≡ comma_if later → number ≡ code_number d.code → index ≡ rule_index d.code → grave ≡ level d.code → text ≡ code_words wording d.code → opened later (result_members wording source d) ≡ joined (result_pieces comma number index grave name space text) [] ++ (opened false (said_location wording source d) ++ codes "}]")
result_is later wording source d name space comma number index grave text parts c n i g t = rw (c, n, i, g, t) (result_here later wording source d name space parts)

-- a result behind its comma: what is said, by what it is accepted, its fix, and its notes
members_alone : (later : Bool) (ms : Members) → members_text later ms ≡ members_then later ms []
members_alone later ms = sym (append-nil (members_text later ms)) ∙ members_then_is later ms []

pub finding_is : (later : Bool) (style : Style) (fixes : List Fix) (sources : List Source) (f : FindingEntry) (notes : List Note) → notes ≡ notes_told style f → comma_if later ++ compact_text (result_value style fixes sources f) ≡ opened later (result_members style.wording (slice_get sources f.said.file) f.said) ++ (members_listed true (fingerprint_members style.wording (slice_get sources f.said.file) f.said) ++ (members_listed true (suppression_members f.accepted) ++ (members_listed true (fixes_members (slice_get sources f.said.file) (told_fix style.wording fixes (slice_get sources f.said.file) f.said)) ++ members_text true (members_of (note_members style.wording f.said.code notes)))))
finding_is later style fixes sources f notes n =
    let said = result_members style.wording (slice_get sources f.said.file) f.said in
    let known = fingerprint_members style.wording (slice_get sources f.said.file) f.said in
    let by = suppression_members f.accepted in
    let fix = fixes_members (slice_get sources f.said.file) (told_fix style.wording fixes (slice_get sources f.said.file) f.said) in
    let last = note_members style.wording f.said.code (notes_told style f) in
    let ending = more_parts fix last [] ∙ ap (λ t. members_listed true fix ++ t) (sym (members_alone true (members_of last))) in
    rw n
    (object_parts later said (known ++ (by ++ (fix ++ last)))
    ∙ ap (λ t. opened later said ++ t)
    (more_parts known (by ++ (fix ++ last)) []
    ∙ ap (λ t. members_listed true known ++ t)
    (more_parts by (fix ++ last) [] ∙ ap (λ t. members_listed true by ++ t) ending)))

-- by what it is accepted
kind_here : (by : AcceptedBy) → escape (kind_text by) ≡ kind_text by
unfolding escape_byte
kind_here (line reason) = refl
kind_here baseline = refl

abbrev pub kind_pieces : List ℕ → List (List ℕ)
kind_pieces kind = codes ",\"suppressions\":[{\"kind\":\"" ∷ kind ∷ codes "\",\"justification\":\"" ∷ []

suppression_here : (by : AcceptedBy) → members_listed true (suppression_members (Some by)) ≡ joined (kind_pieces (escape (kind_text by))) [] ++ (escape (reason_text by) ++ codes "\"}]")
unfolding escape_byte
suppression_here by =
    listed_is true (suppression_members (Some by))
    ∙ sym (joined_then (kind_pieces (escape (kind_text by))) (escape (reason_text by) ++ codes "\"}]"))

pub suppression_is : (accepted : Option AcceptedBy) (by : AcceptedBy) (kind reason : List ℕ) → accepted ≡ Some by → kind ≡ kind_text by → reason ≡ reason_text by → members_listed true (suppression_members accepted) ≡ joined (kind_pieces kind) [] ++ (escape reason ++ codes "\"}]")
suppression_is accepted by kind reason a k r =
    rw (a, k, r)
    (suppression_here by ∙ ap (λ x. joined (kind_pieces x) [] ++ (escape (reason_text by) ++ codes "\"}]")) (kind_here by))

pub no_suppression : (accepted : Option AcceptedBy) → accepted ≡ None → members_listed true (suppression_members accepted) ≡ []
no_suppression accepted a = rw a refl

-- which program found the results
abbrev pub version_pieces : (version : List ℕ) → List (List ℕ)
version_pieces version =
    codes ",\"version\":\"" ∷ escape version ∷ codes "\",\"semanticVersion\":\"" ∷ escape version ∷ codes "\"" ∷ []

pub tool_is : members_listed true (tool_members Second) ≡ joined (version_pieces VERSION.now) [] ++ members_listed true (information_members INFORMATION_URI.now)
unfolding escape_byte
tool_is =
    let information = information_members INFORMATION_URI.now in
    listed_is true (tool_members Second)
    ∙ (ap (λ t. joined (version_pieces VERSION.now) t) (sym (listed_is true information))
    ∙ sym (joined_then (version_pieces VERSION.now) (members_listed true information)))

pub no_tool : (wording : Wording) → wording ≡ First → members_listed true (tool_members wording) ≡ []
no_tool wording w = rw w refl

-- where more stands about it
pub information_is : (uri : List ℕ) → false ≡ (length uri == 0) → members_listed true (information_members uri) ≡ joined (codes ",\"informationUri\":\"" ∷ escape uri ∷ codes "\"" ∷ []) []
unfolding escape_byte
information_is [] some = absurd (true≢false (sym some))
information_is (b ∷ bs) some = listed_is true (information_members (b ∷ bs))

pub no_information : (uri : List ℕ) → true ≡ (length uri == 0) → members_listed true (information_members uri) ≡ []
no_information [] none = refl
no_information (b ∷ bs) none = absurd (true≢false (none ∙ eqb-suc-zero (length bs)))

-- of which kind the run is
run_here : codes ",\"automationDetails\":{\"id\":\"ctxvet/\"}" ≡ members_listed true (kind_members Second)
unfolding escape_byte
run_here = refl

pub kind_second : (wording : Wording) → wording ≡ Second → codes ",\"automationDetails\":{\"id\":\"ctxvet/\"}" ≡ members_listed true (kind_members wording)
kind_second wording w = rw w run_here

pub kind_first : (wording : Wording) → wording ≡ First → [] ≡ members_listed true (kind_members wording)
kind_first wording w = rw w refl

-- what stands before the results
abbrev pub head_text : List ℕ
head_text = codes "{\"$schema\":\"https://json.schemastore.org/sarif-2.1.0.json\",\"version\":\"2.1.0\",\"runs\":[{\"tool\":{\"driver\":{\"name\":\"ctxvet\""

abbrev pub results_text : List ℕ
results_text = codes ",\"columnKind\":\"unicodeCodePoints\",\"results\":["

pub front_is : (wording : Wording) (ruled : List DiagnosticCode) → ruled ≡ rule_codes wording → log_front wording ≡ head_text ++ (members_listed true (tool_members wording) ++ (codes ",\"rules\":[" ++ (listed false (map (rule_value wording) ruled) ++ front_end wording)))
front_is wording ruled same = rw same refl

pub front_ends : (wording : Wording) (kind : List ℕ) → kind ≡ members_listed true (kind_members wording) → front_end wording ≡ joined (codes "]}}" ∷ kind ∷ results_text ∷ []) []
front_ends wording kind is = rw is refl

in_parts : (a b c d e f g rest : List ℕ) → a ++ (b ++ (c ++ (d ++ (e ++ (f ++ (g ++ rest)))))) ≡ (a ++ (b ++ (c ++ (d ++ (e ++ (f ++ g)))))) ++ rest
in_parts a b c d e f g rest = simp append_assoc

log_here : (wording : Wording) (results : List Data) → sarif_of wording results ≡ log_front wording ++ (listed false results ++ codes "]}]}\n")
unfolding escape_byte
log_here wording results =
    let tool = tool_members wording in
    let kind = kind_members wording in
    let ruled = map (rule_value wording) (rule_codes wording) in
    let rules = (codes "rules", list_of ruled) ∷ [] in
    let last = (codes "columnKind", string (codes "unicodeCodePoints")) ∷ (codes "results", list_of results) ∷ [] in
    let told = members_listed true tool in
    let named = codes ",\"rules\":[" in
    let after = members_then true (members_of (kind ++ last)) (codes "]}\n") in
    let rest = listed false results ++ codes "]}]}\n" in
    value_then_is (log_value wording results) (codes "\n")
    ∙ (ap (λ t. head_text ++ t) (more_parts tool rules (125 ∷ after))
    ∙ (ap (λ t. head_text ++ (told ++ (named ++ t))) (items_then_listed false ruled (125 ∷ 125 ∷ after))
    ∙ (ap (λ t. head_text ++ (told ++ (named ++ (listed false ruled ++ (codes "]}}" ++ t))))) (more_parts kind last (codes "]}\n"))
    ∙ (ap (λ t. head_text ++ (told ++ (named ++ (listed false ruled ++ (codes "]}}" ++ (members_listed true kind ++ (results_text ++ t)))))))
    (items_then_listed false results (codes "}]}\n"))
    ∙ in_parts head_text told named (listed false ruled) (codes "]}}") (members_listed true kind) results_text rest))))

-- the whole report
pub log_is : (style : Style) (fixes : List Fix) (packages : List FoundPackage) → sarif_text style fixes (map found_view packages) ≡ log_front style.wording ++ (listed false (flat_map (results_of style fixes) packages) ++ codes "]}]}\n")
log_is style fixes packages =
    ap (sarif_of style.wording) (flat_map-map (package_results style fixes) found_view packages)
    ∙ log_here style.wording (flat_map (results_of style fixes) packages)

-- where what is said stands, and where its region ends, as they were put
pub region_same : (wording : Wording) (source : Option Source) (said : Entry) (region : Region) → IsRegionOf wording source said region → (file : List ℕ) → file ≡ name_of source → (rest : List ℕ) → opened false (said_location wording source said) ++ rest ≡ opened false (location_members file region.start.line region.start.column region.end) ++ rest
region_same wording source said region is file named rest = rw (named, is.start.line, is.start.column, is.end) refl

-- the place that was put is that of the offset
pub location_same : (source : Option Source) (offset : ℕ) (place : Place) → IsPlaceOf source offset place → (file : List ℕ) → file ≡ name_of source → (rest : List ℕ) → opened false (location_of source offset) ++ rest ≡ opened false (location_members file place.line place.column None) ++ rest
location_same source offset place is file named rest = rw (named, is.line, is.column) refl

-- the results of the next package
pub next_results : (style : Style) (fixes : List Fix) (later : Bool) (ps : List FoundPackage) (i : ℕ) (p : FoundPackage) → i < length ps → p ≡ get_or ps i p → (findings : List Finding) → findings ≡ p.findings.items → (after : Bool) → after ≡ after_results later p.findings.items → listed later (flat_map (results_of style fixes) (drop i ps)) ≡ listed later (map (result_data style fixes p.sources.now) findings) ++ listed after (flat_map (results_of style fixes) (drop (i + 1) ps))
next_results style fixes later ps i p inside there findings same after is =
    rw (same, is)
    (next_values (results_of style fixes) later ps i p (result_data style fixes p.sources.now) p.findings.items inside there
    (map-map (result_value style fixes p.sources.now) finding_view p.findings.items))

-- all notes of a result, and its end
notes_here : (are_steps : Bool) (notes : List Data) → members_text true (members_of (notes_member are_steps notes ∷ [])) ≡ joined (notes_front are_steps ∷ []) [] ++ (listed false notes ++ joined (notes_end are_steps ∷ []) [])
unfolding escape_byte
notes_here true notes =
    members_alone true (members_of (notes_member true notes ∷ []))
    ∙ ap (λ t. notes_front true ++ t) (items_then_listed false notes (codes "}]}]}"))
notes_here false notes =
    members_alone true (members_of (notes_member false notes ∷ []))
    ∙ ap (λ t. notes_front false ++ t) (items_then_listed false notes (codes "}"))

notes_for : (wording : Wording) (code : DiagnosticCode) (n : Note) (ns : List Note) (are_steps : Bool) (front end : List ℕ) → are_steps ≡ tells_way code → front ≡ notes_front are_steps → end ≡ notes_end are_steps → members_text true (members_of (note_members wording code (n ∷ ns))) ≡ joined (front ∷ []) [] ++ (listed false (map (told_note wording are_steps) (n ∷ ns)) ++ joined (end ∷ []) [])
notes_for wording code n ns are_steps front end way f e =
    rw (f, e)
    (ap (λ (w : Bool). members_text true (members_of (notes_member w (map (told_note wording w) (n ∷ ns)) ∷ []))) (sym way)
    ∙ notes_here are_steps (map (told_note wording are_steps) (n ∷ ns)))

pub no_notes : (wording : Wording) (code : DiagnosticCode) (notes : List Note) → true ≡ (length notes == 0) → members_text true (members_of (note_members wording code notes)) ≡ codes "}"
no_notes wording code [] none = refl
no_notes wording code (n ∷ ns) none = absurd (true≢false (none ∙ eqb-suc-zero (length ns)))

pub notes_are : (wording : Wording) (code : DiagnosticCode) (notes : List Note) → false ≡ (length notes == 0) → (are_steps : Bool) (front end : List ℕ) → are_steps ≡ tells_way code → front ≡ notes_front are_steps → end ≡ notes_end are_steps → members_text true (members_of (note_members wording code notes)) ≡ joined (front ∷ []) [] ++ (listed false (map (told_note wording are_steps) notes) ++ joined (end ∷ []) [])
notes_are wording code [] some are_steps front end way f e = absurd (true≢false (sym some))
notes_are wording code (n ∷ ns) some are_steps front end way f e = notes_for wording code n ns are_steps front end way f e

-- what stands behind the place of a note
abbrev pub message_pieces : (a b c d e end : List ℕ) → List (List ℕ)
message_pieces a b c d e end =
    codes ",\"message\":{\"text\":\"" ∷ escape a ∷ escape b ∷ escape c ∷ escape d ∷ escape e ∷ codes "\"}}" ∷ end ∷ []

location_then : (wording : Wording) (n : Note) (a b c d e rest : List ℕ) → a ++ (b ++ (c ++ (d ++ e))) ≡ note_words wording n.text → value_then (note_location wording n) rest ≡ opened false (location_of (source_of n) n.offset) ++ joined (message_pieces a b c d e []) rest
unfolding escape_byte
location_then wording n a b c d e rest are =
    let place = location_of (source_of n) n.offset in
    let message = codes ",\"message\":{\"text\":\"" in
    sym (opened_then false place (message ++ (escape (note_words wording n.text) ++ (codes "\"}}" ++ rest))))
    ∙ ap (λ t. opened false place ++ (message ++ t)) (escaped_then a b c d e (note_words wording n.text) (codes "\"}}" ++ rest) are)

note_here : (is_step later : Bool) (wording : Wording) (n : Note) (a b c d e : List ℕ) → a ++ (b ++ (c ++ (d ++ e))) ≡ note_words wording n.text → comma_if later ++ compact_text (told_note wording is_step n) ≡ joined (comma_if later ∷ note_front is_step ∷ []) [] ++ (opened false (location_of (source_of n) n.offset) ++ joined (message_pieces a b c d e (note_end is_step)) [])
unfolding escape_byte
note_here true later wording n a b c d e are =
    let rest = opened false (location_of (source_of n) n.offset) ++ joined (message_pieces a b c d e (note_end true)) [] in
    ap (λ t. comma_if later ++ t) (value_is (told_note wording true n) ∙ ap (λ t. note_front true ++ t) (location_then wording n a b c d e (codes "}") are))
    ∙ sym (joined_then (comma_if later ∷ note_front true ∷ []) rest)
note_here false later wording n a b c d e are =
    let rest = opened false (location_of (source_of n) n.offset) ++ joined (message_pieces a b c d e (note_end false)) [] in
    ap (λ t. comma_if later ++ t) (value_is (told_note wording false n) ∙ location_then wording n a b c d e [] are)
    ∙ sym (joined_then (comma_if later ∷ note_front false ∷ []) rest)

-- a note behind its comma
pub note_is : (is_step later : Bool) (wording : Wording) (n : Note) (place : Place) (file comma front end a b c d e : List ℕ) → IsPlaceOf (source_of n) n.offset place → file ≡ name_of (source_of n) → comma ≡ comma_if later → front ≡ note_front is_step → end ≡ note_end is_step → a ++ (b ++ (c ++ (d ++ e))) ≡ note_words wording n.text → comma_if later ++ compact_text (told_note wording is_step n) ≡ joined (comma ∷ front ∷ []) [] ++ (opened false (location_members file place.line place.column None) ++ joined (message_pieces a b c d e end) [])
note_is is_step later wording n place file comma front end a b c d e at named k f l are =
    rw (k, f, l)
    (note_here is_step later wording n a b c d e are
    ∙ ap (λ t. joined (comma_if later ∷ note_front is_step ∷ []) [] ++ t) (location_same (source_of n) n.offset place at file named (joined (message_pieces a b c d e (note_end is_step)) [])))

-- where a name ends, as it was found
place_same : (place : Place) (row column : ℕ) → place.line ≡ row → place.column ≡ column → place ≡ record { line = row; column = column }
place_same place row column l c = λ i. record { line = l i; column = c i }

pub end_found : (wording : Wording) (source : Option Source) (said : Entry) (offset : ℕ) (place : Place) (found : Option ℕ) → found ≡ told_end wording source said → found ≡ Some offset → place.line ≡ line_of (bytes_of source) offset → place.column ≡ code_point_column (bytes_of source) offset → Some place ≡ end_place wording source said
end_found wording source said offset place found told is row column =
    ap Some (place_same place _ _ row column) ∙ ap (option_map (place_at source)) (sym is ∙ told)

pub none_found : (wording : Wording) (source : Option Source) (said : Entry) (found : Option ℕ) → found ≡ told_end wording source said → found ≡ None → None ≡ end_place wording source said
none_found wording source said found told is = ap (option_map (place_at source)) (sym is ∙ told)
