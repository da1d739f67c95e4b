-- The fix of a result, cut into what is put.
use Rattle.std.proofs.Common.{◌≡◌, ℕ, Option, Some, List, [], ◌∷◌, ◌++◌, map, decimal, codes, Bool, true, false, refl, sym, ap, ◌∙◌}
use Rattle.std.specs.Prelude.{string_bytes}
use Rattle.json.specs.Print.{escape_byte, escape}
use Rattle.serde_json.specs.Data.{Data}
use Rattle.serde_json.specs.Written.{comma_if, compact_text}
use Rattle.lexer.specs.Place.{line_of}
use Rattle.lexer.specs.declared.source.Source.{Source}
use Rattle.report.specs.ReportText.{name_of, bytes_of}
use Rattle.suggested_fixes.specs.declared.edits.Edit.{Edit}
use Rattle.suggested_fixes.specs.declared.edits.Fix.{Fix}
use Rattle.format_parts.specs.FileUris.{file_uri, is_absolute, uri_scheme, uri_path}
use Rattle.format_parts.specs.Fixes.{fix_words}
use Rattle.format_parts.specs.Objects.{members_of}
use Rattle.format_parts.specs.Pieces.{listed, members_listed}
use Rattle.format_parts.proofs.Spelled.{file_uri_then}
use Rattle.format_parts.proofs.Values.{joined, joined_then, members_then, value_is, items_then_listed, listed_is}
use Rattle.sarif.specs.CodePoints.{code_point_column}
use Rattle.sarif.specs.Pieces.{base_text}
use Rattle.sarif.specs.SarifText.{base_members, fixes_members, replacement}
use Rattle.sarif.proofs.SarifPieces.{base_then}

-- what is put before the edits
abbrev pub fix_pieces : (words scheme path base : List ℕ) → List (List ℕ)
fix_pieces words scheme path base =
    codes ",\"fixes\":[{\"description\":{\"text\":\"" ∷ escape words
    ∷ codes "\"},\"artifactChanges\":[{\"artifactLocation\":{\"uri\":\"" ∷ scheme ∷ path ∷ base
    ∷ codes "},\"replacements\":[" ∷ []

fix_here : (source : Option Source) (fix : Fix) → members_listed true (fixes_members source (Some fix)) ≡ joined (fix_pieces (fix_words fix.kind) (uri_scheme (name_of source)) (uri_path (name_of source)) (base_text (is_absolute (name_of source)))) [] ++ (listed false (map (replacement source) fix.edits.items) ++ codes "]}]}]")
unfolding escape_byte
fix_here source fix =
    let name = name_of source in
    let words = escape (fix_words fix.kind) in
    let edits = map (replacement source) fix.edits.items in
    let begin = codes ",\"fixes\":[{\"description\":{\"text\":\"" in
    let located = codes "\"},\"artifactChanges\":[{\"artifactLocation\":{\"uri\":\"" in
    let lists = codes ",\"replacements\":[" in
    let tail = listed false edits ++ codes "]}]}]" in
    let base = members_of (base_members (is_absolute name)) in
    let pieces = fix_pieces (fix_words fix.kind) (uri_scheme name) (uri_path name) (base_text (is_absolute name)) in
    listed_is true (fixes_members source (Some fix))
    ∙ (ap (λ t. begin ++ (words ++ (located ++ (escape (file_uri name) ++ 34 ∷ members_then true base (lists ++ t))))) (items_then_listed false edits (codes "}]}]"))
    ∙ (ap (λ t. begin ++ (words ++ (located ++ t))) (file_uri_then name (34 ∷ members_then true base (lists ++ tail)))
    ∙ (ap (λ t. begin ++ (words ++ (located ++ (uri_scheme name ++ (uri_path name ++ t))))) (base_then (is_absolute name) (lists ++ tail))
    ∙ sym (joined_then pieces tail))))

pub fix_is : (source : Option Source) (fix : Fix) (words name scheme base : List ℕ) (edits : List Edit) → words ≡ fix_words fix.kind → name ≡ name_of source → scheme ≡ uri_scheme name → base ≡ base_text (is_absolute name) → edits ≡ fix.edits.items → members_listed true (fixes_members source (Some fix)) ≡ joined (fix_pieces words scheme (uri_path name) base) [] ++ (listed false (map (replacement source) edits) ++ codes "]}]}]")
fix_is source fix words name scheme base edits w n s b e = rw (w, s, b, n, e) (fix_here source fix)

-- an edit behind its comma
abbrev pub edit_pieces : (comma : List ℕ) (row column last_row last_column : ℕ) (new : List ℕ) → List (List ℕ)
edit_pieces comma row column last_row last_column new =
    comma ∷ codes "{\"deletedRegion\":{\"startLine\":" ∷ decimal row ∷ codes ",\"startColumn\":" ∷ decimal column
    ∷ codes ",\"endLine\":" ∷ decimal last_row ∷ codes ",\"endColumn\":" ∷ decimal last_column
    ∷ codes "},\"insertedContent\":{\"text\":\"" ∷ escape new ∷ codes "\"}}" ∷ []

edit_here : (later : Bool) (source : Option Source) (edit : Edit) → comma_if later ++ compact_text (replacement source edit) ≡ joined (edit_pieces (comma_if later) (line_of (bytes_of source) edit.start) (code_point_column (bytes_of source) edit.start) (line_of (bytes_of source) edit.end) (code_point_column (bytes_of source) edit.end) (string_bytes edit.new)) []
unfolding escape_byte
edit_here later source edit = ap (λ t. comma_if later ++ t) (value_is (replacement source edit))

pub edit_is : (later : Bool) (source : Option Source) (edit : Edit) (comma : List ℕ) (row column last_row last_column : ℕ) (new : List ℕ) → comma ≡ comma_if later → row ≡ line_of (bytes_of source) edit.start → column ≡ code_point_column (bytes_of source) edit.start → last_row ≡ line_of (bytes_of source) edit.end → last_column ≡ code_point_column (bytes_of source) edit.end → new ≡ string_bytes edit.new → comma_if later ++ compact_text (replacement source edit) ≡ joined (edit_pieces comma row column last_row last_column new) []
edit_is later source edit comma row column last_row last_column new c r o l e n = rw (c, r, o, l, e, n) (edit_here later source edit)

-- the member of this fix
pub told_is : (source : Option Source) (told found : Option Fix) → told ≡ found → members_listed true (fixes_members source told) ≡ members_listed true (fixes_members source found)
told_is source told found is = ap (λ f. members_listed true (fixes_members source f)) is
