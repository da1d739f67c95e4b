-- Findings and packages of a report as JSON, cut into what is put.
use Rattle.std.proofs.Common.{◌≡◌, ℕ, ◌+◌, ◌<◌, ◌≤◌, Option, Some, None, List, [], ◌∷◌, ◌++◌, length, get_or, drop, map, decimal, codes, Bool, true, false, slice_get, refl, sym, ap, ◌∙◌}
use Rattle.std.specs.Borrow.{Bor}
use Rattle.std.specs.Prelude.{option_map}
use Rattle.std.proofs.lemmas.List.{append_assoc, append-nil, drop_all, drop_more}
use Rattle.json.specs.Print.{escape, escape_byte, quoted}
use Rattle.serde_json.specs.Data.{Data}
use Rattle.serde_json.specs.Written.{comma_if, compact_text}
use Rattle.accepting.specs.Findings.{FindingEntry, FoundEntry, finding_view, found_view, verdict_of}
use Rattle.accepting.specs.declared.findings.Finding.{Finding}
use Rattle.accepting.specs.declared.findings.FoundPackage.{FoundPackage}
use Rattle.accepting.specs.declared.findings.Verdict.{Verdict}
use Rattle.function_spans.specs.Calls.{bound_by}
use Rattle.lexer.specs.Place.{line_of, column_of}
use Rattle.lexer.specs.declared.source.Source.{Source}
use Rattle.report.specs.Entries.{texts_of}
use Rattle.report.specs.Notes.{source_of}
use Rattle.report.specs.ReportText.{name_of, bytes_of}
use Rattle.report.specs.declared.notes.Note.{Note}
use Rattle.format_parts.specs.Fixes.{fix_members, told_fix}
use Rattle.format_parts.specs.Objects.{object_of, whole}
use Rattle.format_parts.specs.Pieces.{after_results, listed, members_listed, opened}
use Rattle.format_parts.specs.Told.{notes_told}
use Rattle.format_parts.specs.declared.style.Style.{Style}
use Rattle.format_parts.proofs.Values.{joined, last_parts, listed_is, more_parts, object_parts, value_is}
use Rattle.suggested_fixes.specs.declared.edits.Fix.{Fix}
use Rattle.report_json.specs.Causes.{count_from, number_from, told_cause}
use Rattle.report_json.specs.InFunctions.{around_members}
use Rattle.report_json.specs.JsonText.{by_members, cause_members, cause_value, finding_value, first_members, json_of, json_text, last_members, package_value, package_values, place_members_at, reason_members, said_members, told_members, verdict_members, way_members, why_members}
use Rattle.report_json.specs.Pieces.{json_end}
use Rattle.report_json.proofs.JsonPieces.{package_here, path_pieces, report_here}

-- members in two parts

after_true : {X : Type 0} (ds : List X) → after_results true ds ≡ true
after_true [] = refl
after_true (d ∷ ds) = refl

cut : (a b c d e : List ℕ) → a ++ (b ++ 58 ∷ (c ++ (d ++ e))) ≡ (a ++ (b ++ 58 ∷ (c ++ d))) ++ e
cut a b c d e =
    ap (λ t. a ++ t) (ap (λ t. b ++ 58 ∷ t) (sym (append_assoc c d e)) ∙ sym (append_assoc b (58 ∷ (c ++ d)) e))
    ∙ sym (append_assoc a (b ++ 58 ∷ (c ++ d)) e)

members_two : (later : Bool) (ms more : List (List ℕ × Data)) → members_listed later (ms ++ more) ≡ members_listed later ms ++ members_listed (after_results later ms) more
members_two later [] more = refl
members_two later (m ∷ ms) more =
    ap (λ t. comma_if later ++ (quoted m.0 ++ 58 ∷ (compact_text m.1 ++ t)))
    (members_two true ms more ∙ ap (λ b. members_listed true ms ++ members_listed b more) (after_true ms))
    ∙ cut (comma_if later) (quoted m.0) (compact_text m.1) (members_listed true ms) (members_listed true more)

-- behind others
pub more_members : (ms more : List (List ℕ × Data)) → members_listed true (ms ++ more) ≡ members_listed true ms ++ members_listed true more
more_members ms more = members_two true ms more ∙ ap (λ b. members_listed true ms ++ members_listed b more) (after_true ms)

-- of an object that begins with some
opened_two : (later : Bool) (ms more : List (List ℕ × Data)) → after_results false ms ≡ true → opened later (ms ++ more) ≡ opened later ms ++ members_listed true more
opened_two later ms more some =
    ap (λ t. comma_if later ++ 123 ∷ t) (members_two false ms more ∙ ap (λ b. members_listed false ms ++ members_listed b more) some)
    ∙ sym (append_assoc (comma_if later) (123 ∷ members_listed false ms) (members_listed true more))

module _ (style : Style) (sources : List Source) where
  -- what is told of a finding before its binding
  pub first_is : (later : Bool) (f : FindingEntry) → opened later (first_members style sources f) ≡ opened later (said_members style.wording (slice_get sources f.said.file) f.said) ++ (members_listed true (reason_members f.accepted) ++ members_listed true (around_members style.wording (slice_get sources f.said.file) f.said))
  first_is later f =
      let said = said_members style.wording (slice_get sources f.said.file) f.said in
      let reason = reason_members f.accepted in
      let around = around_members style.wording (slice_get sources f.said.file) f.said in
      opened_two later said (reason ++ around) refl ∙ ap (λ t. opened later said ++ t) (more_members reason around)

  module _ (fixes : List Fix) where
    -- and behind it
    pub last_is : (f : FindingEntry) → members_listed true (last_members style fixes sources f) ++ codes "}" ≡ members_listed true (why_members style.with_reasons style.wording (notes_told style f)) ++ (members_listed true (way_members style (slice_get sources f.said.file) f) ++ (members_listed true (fix_members (told_fix style.wording fixes (slice_get sources f.said.file) f.said)) ++ codes "}"))
    last_is f =
        let why = why_members style.with_reasons style.wording (notes_told style f) in
        let lines = way_members style (slice_get sources f.said.file) f in
        let fix = fix_members (told_fix style.wording fixes (slice_get sources f.said.file) f.said) in
        ap (λ t. t ++ codes "}") (more_members why (lines ++ fix) ∙ ap (λ t. members_listed true why ++ t) (more_members lines fix))
        ∙ (append_assoc (members_listed true why) (members_listed true lines ++ members_listed true fix) (codes "}")
        ∙ ap (λ t. members_listed true why ++ t) (append_assoc (members_listed true lines) (members_listed true fix) (codes "}")))

    module _ (count : ℕ) (all : List FindingEntry) where
      -- a finding behind its comma
      finding_parts : (later : Bool) (f : FindingEntry) → comma_if later ++ compact_text (finding_value style fixes count all sources f) ≡ opened later (first_members style sources f) ++ (members_listed true (told_members style count all f) ++ (members_listed true (last_members style fixes sources f) ++ codes "}"))
      finding_parts later f =
          let first = first_members style sources f in
          let told = told_members style count all f in
          let last = last_members style fixes sources f in
          object_parts later first (told ++ last)
          ∙ ap (λ t. opened later first ++ t)
          (more_parts told last [] ∙ ap (λ t. members_listed true told ++ t) (last_parts last []))

      -- the next one in memory, and the rest
      pub next_finding : (later : Bool) (fs : List Finding) (i : ℕ) (f : Finding) → i < length fs → f ≡ get_or fs i f → listed later (map (finding_value style fixes count all sources) (map finding_view (drop i fs))) ≡ opened later (first_members style sources (finding_view f)) ++ (members_listed true (told_members style count all (finding_view f)) ++ ((members_listed true (last_members style fixes sources (finding_view f)) ++ codes "}") ++ listed true (map (finding_value style fixes count all sources) (map finding_view (drop (i + 1) fs)))))
      next_finding later fs i f inside there =
          let rest = listed true (map (finding_value style fixes count all sources) (map finding_view (drop (i + 1) fs))) in
          let first = opened later (first_members style sources (finding_view f)) in
          let told = members_listed true (told_members style count all (finding_view f)) in
          let last = members_listed true (last_members style fixes sources (finding_view f)) ++ codes "}" in
          ap (λ l. listed later (map (finding_value style fixes count all sources) (map finding_view l))) (drop_more fs i f inside)
          ∙ (ap (λ (x : Finding). comma_if later ++ (compact_text (finding_value style fixes count all sources (finding_view x)) ++ rest)) (sym there)
          ∙ (sym (append_assoc (comma_if later) (compact_text (finding_value style fixes count all sources (finding_view f))) rest)
          ∙ (ap (λ t. t ++ rest) (finding_parts later (finding_view f))
          ∙ (append_assoc first (told ++ last) rest ∙ ap (λ t. first ++ t) (append_assoc told last rest)))))

      pub none_left : (later : Bool) (fs : List Finding) (i : ℕ) → length fs ≤ i → listed later (map (finding_value style fixes count all sources) (map finding_view (drop i fs))) ≡ []
      none_left later fs i over = ap (λ l. listed later (map (finding_value style fixes count all sources) (map finding_view l))) (drop_all i fs over)

-- by which call a value is bound
by_here : (name : List ℕ) → members_listed true (by_members (Some name)) ≡ codes ",\"by\":\"" ++ (escape name ++ codes "\"")
unfolding escape_byte
by_here name = listed_is true (by_members (Some name))

pub by_is : (call : Option (List ℕ)) (name : List ℕ) → call ≡ Some name → members_listed true (by_members call) ≡ codes ",\"by\":\"" ++ (escape name ++ codes "\"")
by_is call name c = rw c (by_here name)

pub no_call : (call : Option (List ℕ)) → call ≡ None → members_listed true (by_members call) ≡ []
no_call call c = rw c refl

-- where a binding stands, its number, and by what it is made
number_here : (number : ℕ) → members_listed true ((codes "number", whole number) ∷ []) ≡ joined (codes ",\"number\":" ∷ decimal number ∷ []) []
unfolding escape_byte
number_here number = listed_is true ((codes "number", whole number) ∷ [])

cause_here : (number : ℕ) (n : Note) → members_listed true (cause_members number (Some n)) ≡ codes ",\"cause\":" ++ (opened false (place_members_at (name_of (source_of n)) (line_of (bytes_of (source_of n)) n.offset) (column_of (bytes_of (source_of n)) n.offset)) ++ (joined (codes ",\"number\":" ∷ decimal number ∷ []) [] ++ (members_listed true (by_members (bound_by (bytes_of (source_of n)) n.offset)) ++ codes "}")))
unfolding escape_byte
cause_here number n =
    let place = place_members_at (name_of (source_of n)) (line_of (bytes_of (source_of n)) n.offset) (column_of (bytes_of (source_of n)) n.offset) in
    let by = by_members (bound_by (bytes_of (source_of n)) n.offset) in
    let told = (codes "number", whole number) ∷ [] in
    listed_is true (cause_members number (Some n))
    ∙ ap (λ t. codes ",\"cause\":" ++ t)
    (sym (value_is (cause_value number n))
    ∙ (object_parts false place (told ++ by)
    ∙ ap (λ t. opened false place ++ t) (more_parts told by [] ∙ (λ i. number_here number i ++ last_parts by [] i))))

pub cause_is : (number : ℕ) (n : Note) (file : List ℕ) (line column : ℕ) (call : Option (List ℕ)) → file ≡ name_of (source_of n) → line ≡ line_of (bytes_of (source_of n)) n.offset → column ≡ column_of (bytes_of (source_of n)) n.offset → call ≡ bound_by (bytes_of (source_of n)) n.offset → members_listed true (cause_members number (Some n)) ≡ codes ",\"cause\":" ++ (opened false (place_members_at file line column) ++ (joined (codes ",\"number\":" ∷ decimal number ∷ []) [] ++ (members_listed true (by_members call) ++ codes "}")))
cause_is number n file line column call f l o b = rw (f, l, o, b) (cause_here number n)

-- that of a finding
pub told_is : (style : Style) (count number : ℕ) (all : List FindingEntry) (f : FindingEntry) (n : Note) (found : Option Note) → found ≡ told_cause style f → found ≡ Some n → number ≡ number_from style count [] all f → members_listed true (told_members style count all f) ≡ members_listed true (cause_members number (Some n))
told_is style count number all f n found told is k =
    λ i. members_listed true (cause_members (sym k i) ((sym told ∙ is) i))

pub none_told : (style : Style) (count : ℕ) (all : List FindingEntry) (f : FindingEntry) (found : Option Note) → found ≡ told_cause style f → found ≡ None → members_listed true (told_members style count all f) ≡ []
none_told style count all f found told is =
    ap (λ c. members_listed true (cause_members (number_from style count [] all f) c)) (sym told ∙ is)

-- a package behind its comma
package_seen : (later : Bool) (style : Style) (fixes : List Fix) (count : ℕ) (p : FoundPackage) → comma_if later ++ compact_text (package_value style fixes count (found_view p)) ≡ joined (path_pieces (comma_if later) p.path.now) [] ++ (members_listed true (verdict_members (verdict_of (map finding_view p.findings.items)) (texts_of p.keeping.items)) ++ (codes ",\"diagnostics\":[" ++ (listed false (map (finding_value style fixes count (map finding_view p.findings.items) p.sources.now) (map finding_view p.findings.items)) ++ codes "]}")))
package_seen later style fixes count p =
    package_here later p.path.now (verdict_of (map finding_view p.findings.items)) (texts_of p.keeping.items) (map (finding_value style fixes count (map finding_view p.findings.items) p.sources.now) (map finding_view p.findings.items))

-- the same of the lists that are lent
pub package_is : (later : Bool) (style : Style) (fixes : List Fix) (count : ℕ) (p : FoundPackage) (comma : List ℕ) (verdict : Verdict) (judged : List Finding) (keeping : List (Bor (List ℕ))) (findings : List Finding) → comma ≡ comma_if later → verdict ≡ verdict_of (map finding_view judged) → judged ≡ p.findings.items → keeping ≡ p.keeping.items → findings ≡ p.findings.items → comma_if later ++ compact_text (package_value style fixes count (found_view p)) ≡ joined (path_pieces comma p.path.now) [] ++ (members_listed true (verdict_members verdict (texts_of keeping)) ++ (codes ",\"diagnostics\":[" ++ (listed false (map (finding_value style fixes count (map finding_view findings) p.sources.now) (map finding_view findings)) ++ codes "]}")))
package_is later style fixes count p comma verdict judged keeping findings c v j k f =
    rw (c, v, j, k, f) (package_seen later style fixes count p)

-- the next package in memory, and the rest
pub next_package : (style : Style) (fixes : List Fix) (later : Bool) (count after : ℕ) (ps : List FoundPackage) (i : ℕ) (p : FoundPackage) (findings : List Finding) → i < length ps → p ≡ get_or ps i p → findings ≡ p.findings.items → after ≡ count_from style count [] (map finding_view findings) → listed later (package_values style fixes count (map found_view (drop i ps))) ≡ (comma_if later ++ compact_text (package_value style fixes count (found_view p))) ++ listed true (package_values style fixes after (map found_view (drop (i + 1) ps)))
next_package style fixes later count after ps i p findings inside there lent is =
    let rest = map found_view (drop (i + 1) ps) in
    let behind : after ≡ count_from style count [] (map finding_view p.findings.items) = is ∙ ap (λ (l : List Finding). count_from style count [] (map finding_view l)) lent in
    ap (λ l. listed later (package_values style fixes count (map found_view l))) (drop_more ps i p inside)
    ∙ (ap (λ (x : FoundPackage). comma_if later ++ (compact_text (package_value style fixes count (found_view x)) ++ listed true (package_values style fixes (count_from style count [] (map finding_view x.findings.items)) rest))) (sym there)
    ∙ (ap (λ k. comma_if later ++ (compact_text (package_value style fixes count (found_view p)) ++ listed true (package_values style fixes k rest))) (sym behind)
    ∙ sym (append_assoc (comma_if later) (compact_text (package_value style fixes count (found_view p))) (listed true (package_values style fixes after rest)))))

pub no_package : (style : Style) (fixes : List Fix) (later : Bool) (count : ℕ) (ps : List FoundPackage) (i : ℕ) → length ps ≤ i → listed later (package_values style fixes count (map found_view (drop i ps))) ≡ []
no_package style fixes later count ps i over = ap (λ l. listed later (package_values style fixes count (map found_view l))) (drop_all i ps over)

-- the whole report
pub report_is : (style : Style) (fixes : List Fix) (packages : List FoundPackage) → json_text style fixes (map found_view packages) ≡ codes "{\"packages\":[" ++ (listed false (package_values style fixes 0 (map found_view packages)) ++ json_end style.wording)
report_is style fixes packages = report_here style.wording (package_values style fixes 0 (map found_view packages))
