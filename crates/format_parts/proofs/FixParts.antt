-- The member of a finding with a fix, cut into what is put.
use Rattle.std.proofs.Common.{◌≡◌, ℕ, ◌+◌, ◌<◌, ◌≤◌, Option, Some, None, List, [], ◌∷◌, ◌++◌, length, get_or, drop, map, decimal, codes, Bool, true, false, if◌then◌else◌, cond, refl, sym, ap, ◌∙◌}
use Rattle.std.proofs.lemmas.Bool.{cond-true, cond-false}
use Rattle.std.proofs.lemmas.List.{drop_more, drop_all}
use Rattle.std.specs.Prelude.{string_bytes}
use Rattle.json.specs.Print.{escape_byte, escape}
use Rattle.serde_json.specs.Data.{Data}
use Rattle.serde_json.specs.Written.{comma_if, compact_text}
use Rattle.report.specs.Entries.{Entry}
use Rattle.report.specs.ReportText.{name_of}
use Rattle.report.specs.declared.codes.Wording.{Wording}
use Rattle.report.specs.declared.codes.Wording.TheVariants.{First, Second}
use Rattle.lexer.specs.declared.source.Source.{Source}
use Rattle.suggested_fixes.specs.declared.edits.Edit.{Edit}
use Rattle.suggested_fixes.specs.declared.edits.Fix.{Fix}
use Rattle.suggested_fixes.specs.declared.edits.FixKind.{FixKind}
use Rattle.format_parts.specs.Fixes.{edit_value, fits, fix_in, fix_members, fix_words, told_fix}
use Rattle.format_parts.specs.Pieces.{listed, members_listed}
use Rattle.format_parts.proofs.Values.{joined, joined_then, value_is, items_then_listed, listed_is}

-- the first that fits is this one, or stands behind it
pub fits_here : (file : List ℕ) (said : Entry) (fixes : List Fix) (i : ℕ) (fix : Fix) → i < length fixes → fix ≡ get_or fixes i fix
    → fits file said fix ≡ true → fix_in file said (drop i fixes) ≡ Some fix
fits_here file said fixes i fix inside there test =
    ap (fix_in file said) (drop_more fixes i fix inside)
    ∙ (ap (λ f. fix_in file said (f ∷ drop (i + 1) fixes)) (sym there)
    ∙ cond-true (fits file said fix) (Some fix) (fix_in file said (drop (i + 1) fixes)) test)

pub fits_later : (file : List ℕ) (said : Entry) (fixes : List Fix) (i : ℕ) (fix : Fix) → i < length fixes → fix ≡ get_or fixes i fix
    → fits file said fix ≡ false → fix_in file said (drop i fixes) ≡ fix_in file said (drop (i + 1) fixes)
fits_later file said fixes i fix inside there test =
    ap (fix_in file said) (drop_more fixes i fix inside)
    ∙ (ap (λ f. fix_in file said (f ∷ drop (i + 1) fixes)) (sym there)
    ∙ cond-false (fits file said fix) (Some fix) (fix_in file said (drop (i + 1) fixes)) test)

pub none_fits : (file : List ℕ) (said : Entry) (fixes : List Fix) (i : ℕ) → length fixes ≤ i → fix_in file said (drop i fixes) ≡ None
none_fits file said fixes i over = ap (fix_in file said) (drop_all i fixes over)

-- by the second edition it is told
pub none_told : (wording : Wording) (fixes : List Fix) (source : Option Source) (said : Entry) → wording ≡ First → None ≡ told_fix wording fixes source said
none_told wording fixes source said w = rw w refl

pub second_told : (wording : Wording) (fixes : List Fix) (source : Option Source) (said : Entry) (file : List ℕ) (found : Option Fix) → wording ≡ Second → file ≡ name_of source → found ≡ fix_in file said fixes → found ≡ told_fix wording fixes source said
second_told wording fixes source said file found w f is = rw w (is ∙ ap (λ name. fix_in name said fixes) f)

-- what is put before the edits
abbrev pub fix_pieces : (words : List ℕ) → List (List ℕ)
fix_pieces words = codes ",\"suggested_fixes\":[{\"message\":\"" ∷ escape words ∷ codes "\",\"edits\":[" ∷ []

fix_here : (fix : Fix) → members_listed true (fix_members (Some fix)) ≡ joined (fix_pieces (fix_words fix.kind)) [] ++ (listed false (map (edit_value (string_bytes fix.file)) fix.edits.items) ++ codes "]}]")
unfolding escape_byte
fix_here fix =
    let edits = map (edit_value (string_bytes fix.file)) fix.edits.items in
    listed_is true (fix_members (Some fix))
    ∙ (ap (joined (fix_pieces (fix_words fix.kind))) (items_then_listed false edits (codes "}]"))
    ∙ sym (joined_then (fix_pieces (fix_words fix.kind)) (listed false edits ++ codes "]}]")))

pub fix_is : (fix : Fix) (words file : List ℕ) (edits : List Edit) → words ≡ fix_words fix.kind → file ≡ string_bytes fix.file → edits ≡ fix.edits.items → members_listed true (fix_members (Some fix)) ≡ joined (fix_pieces words) [] ++ (listed false (map (edit_value file) edits) ++ codes "]}]")
fix_is fix words file edits w f e = rw (w, f, e) (fix_here fix)

-- an edit behind its comma
abbrev pub edit_pieces : (comma file : List ℕ) (start end : ℕ) (new : List ℕ) → List (List ℕ)
edit_pieces comma file start end new =
    comma ∷ codes "{\"filename\":\"" ∷ escape file ∷ codes "\",\"start\":" ∷ decimal start ∷ codes ",\"end\":" ∷ decimal end
    ∷ codes ",\"new\":\"" ∷ escape new ∷ codes "\"}" ∷ []

edit_here : (later : Bool) (file : List ℕ) (edit : Edit) → comma_if later ++ compact_text (edit_value file edit) ≡ joined (edit_pieces (comma_if later) file edit.start edit.end (string_bytes edit.new)) []
unfolding escape_byte
edit_here later file edit = ap (λ t. comma_if later ++ t) (value_is (edit_value file edit))

pub edit_is : (later : Bool) (file : List ℕ) (edit : Edit) (comma new : List ℕ) → comma ≡ comma_if later → new ≡ string_bytes edit.new → comma_if later ++ compact_text (edit_value file edit) ≡ joined (edit_pieces comma file edit.start edit.end new) []
edit_is later file edit comma new c n = rw (c, n) (edit_here later file edit)

-- the member of this fix
pub told_is : (told found : Option Fix) → told ≡ found → members_listed true (fix_members told) ≡ members_listed true (fix_members found)
told_is told found is = ap (λ f. members_listed true (fix_members f)) is
