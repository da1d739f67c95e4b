-- A file whose text lacks the words names no maker, no type of cancel functions and no `recover`.
use Rattle.std.proofs.Common.{◌≡◌, ℕ, Bool, true, false, List, [], ◌∷◌, ◌++◌, Option, Some, None, Contains, refl, ap, ◌∙◌, subst}
use Rattle.std.specs.Prelude.{◌&&◌, ◌||◌, codes}
use Rattle.std.specs.List.{list_any}
use Rattle.std.proofs.lemmas.List.Elements.{Contains-append_left, Contains-append_right}
use Rattle.lexer.specs.Tokens.{IsTokens}
use Rattle.tree.specs.Syntax.{Identifier, OptionalExpression, missing_expression, present_expression, Signature, signature_of, Parameters, no_parameter, named_and, unnamed_and, name_alone_and}
use Rattle.meaning.specs.Mentions.{Named, as_named, RowForm, defines, assigns, declares, Call, Role, elsewhere, as_key, exposed, pointed_to, found_nil, found_error, called, called_in_brackets, argument, returned, left, names_type, new_literal, parameter_pointer, Row, FieldMark, calls_field, writes_field, hands_over, hands_literal, renews, imports_all, Mark, mentions, of_fields, runs_literal, returns, opens, closes, file_marks}
use Rattle.meaning.specs.FunctionFacts.{context_path, is_of, is_import, is_selected, Item, alone, items_of}
use Rattle.meaning.specs.Tracked.{Known, plain_makers, cause_makers, only_call, receiver_items}
use Rattle.meaning.proofs.Membership.{contains_here, contains_there}
use Rattle.meaning_reports.proofs.MeantImports.{marks_there}
use Rattle.silent_files.specs.NamedWords.{Lexed, LacksWord, LacksEach, IsSelectedWord, AreWords, AreWordsIf, CallHasWords, TypeHasWords, FormHasWords, RowHasWords, RoleHasWords, FieldHasWords, ParametersHaveWords, ReceiverHasWords, SignatureHasWords, HasWords}
use Rattle.silent_files.proofs.NamedWords.{names_are_words, lacked_words_are_no_names}
use Rattle.silent_files.specs.SilentFiles.{tells, named_tells, call_tells, type_tells, items_tell, signature_tells, form_tells, row_tells, role_tells, field_tells, mark_tells, names_recover}
use Rattle.silent_files.specs.SilentWords.{cancel_types, telling_words, WordsTell}
use Rattle.silent_files.proofs.SilentFiles.{neither_first}

none_among : {A : Type 0} (f : A → Bool) (xs : List A) → ((x : A) → Contains xs x → f x ≡ false) → list_any f xs ≡ false
none_among f [] h = refl
none_among f (x ∷ xs) h =
    ap (λ b. b || list_any f xs) (h x (contains_here x xs)) ∙ none_among f xs λ y among. h y (contains_there x y xs among)

neither : (a b : Bool) → a ≡ false → b ≡ false → (a || b) ≡ false
neither false b e q = q
neither true b e q = let bad : true ≡ false = e in cc

plain_tells : (word : List ℕ) → Contains plain_makers word → Contains telling_words word
plain_tells word among = Contains-append_left plain_makers (cause_makers ++ cancel_types) word among

others_tell : (word : List ℕ) → Contains (cause_makers ++ cancel_types) word → Contains telling_words word
others_tell word among = Contains-append_right plain_makers (cause_makers ++ cancel_types) word among

cause_tells : (word : List ℕ) → Contains cause_makers word → Contains telling_words word
cause_tells word among = others_tell word (Contains-append_left cause_makers cancel_types word among)

type_tells_too : (word : List ℕ) → Contains cancel_types word → Contains telling_words word
type_tells_too word among = others_tell word (Contains-append_right cause_makers cancel_types word among)

is_plain_type : Contains telling_words (codes "CancelFunc")
is_plain_type = type_tells_too (codes "CancelFunc") (contains_here (codes "CancelFunc") (codes "CancelCauseFunc" ∷ []))

is_cause_type : Contains telling_words (codes "CancelCauseFunc")
is_cause_type =
    type_tells_too (codes "CancelCauseFunc")
    (contains_there (codes "CancelFunc") (codes "CancelCauseFunc") (codes "CancelCauseFunc" ∷ [])
    (contains_here (codes "CancelCauseFunc") []))

module _ (source : Lexed) (cut : IsTokens source.text source.tokens) where
  is_no_recover : LacksWord (codes "recover") source.text → (m : Mark) → HasWords source m → names_recover m ≡ false
  is_no_recover lacks (mentions m) h =
      lacked_words_are_no_names source (codes "recover") m.named.name m.named.at cut lacks h.0.name
  is_no_recover lacks (of_fields site m) h = refl
  is_no_recover lacks (runs_literal moment site at) h = refl
  is_no_recover lacks (returns at es) h = refl
  is_no_recover lacks (opens b) h = refl
  is_no_recover lacks closes h = refl

  module _ (lacks : LacksEach telling_words source.text) (known : Known) where
    is_not_selected : (word : List ℕ) → Contains telling_words word → (o : Option (List ℕ)) → IsSelectedWord source o
        → is_selected word o ≡ false
    is_not_selected word among None h = refl
    is_not_selected word among (Some m) h =
        lacked_words_are_no_names source word m h.0 cut (lacks word among) h.1

    is_not_of : (word : List ℕ) → Contains telling_words word → (n : Named) → AreWords source n
        → is_of known.means context_path word n ≡ false
    is_not_of word among n h =
        ap (λ b. b && is_import context_path (known.means n.at)) (is_not_selected word among n.selected h.selected)

    makes_none : (words : List (List ℕ)) → ((word : List ℕ) → Contains words word → Contains telling_words word)
        → (n : Named) → AreWords source n
        → list_any (λ word. is_of known.means context_path word n) words ≡ false
    makes_none words are n h = none_among _ words λ word among. is_not_of word (are word among) n h

    tells_none : (n : Named) → AreWords source n → tells known n ≡ false
    tells_none n h =
        neither _ _ (neither _ _ (makes_none plain_makers plain_tells n h) (makes_none cause_makers cause_tells n h))
        (neither _ _ (is_not_of (codes "CancelFunc") is_plain_type n h)
        (is_not_of (codes "CancelCauseFunc") is_cause_type n h))

    named_tells_none : (o : Option Named) → AreWordsIf source o → named_tells known o ≡ false
    named_tells_none None h = refl
    named_tells_none (Some n) h = tells_none n h

    call_tells_none : (c : Option Call) → CallHasWords source c → call_tells known c ≡ false
    call_tells_none None h = refl
    call_tells_none (Some c) h = tells_none c.callee h

    type_tells_none : (t : OptionalExpression) → TypeHasWords source t → type_tells known t ≡ false
    type_tells_none missing_expression h = refl
    type_tells_none (present_expression t) h = named_tells_none (as_named t) h

    form_tells_none : (form : RowForm) → FormHasWords source form → form_tells known form ≡ false
    form_tells_none (defines names) h = refl
    form_tells_none (assigns ls) h = refl
    form_tells_none (declares keyword names t) h = type_tells_none t h

    row_tells_none : (row : Row) → RowHasWords source row → row_tells known row ≡ false
    row_tells_none row h =
        neither _ _ (call_tells_none (only_call row row.values) h.0) (form_tells_none row.form h.1)

    field_tells_none : (m : FieldMark) → FieldHasWords source m → field_tells known m ≡ false
    field_tells_none (writes_field l (Some a)) h = row_tells_none a.row h
    field_tells_none (writes_field l None) h = refl
    field_tells_none (calls_field f) h = refl
    field_tells_none (hands_over taker e) h = refl
    field_tells_none (hands_literal taker at) h = refl
    field_tells_none (renews number) h = refl
    field_tells_none imports_all h = refl

    role_tells_none : (role : Role) → RoleHasWords source role → role_tells known role ≡ false
    role_tells_none elsewhere h = refl
    role_tells_none as_key h = refl
    role_tells_none exposed h = refl
    role_tells_none pointed_to h = refl
    role_tells_none (found_nil nil) h = refl
    role_tells_none (found_error nil row) h = refl
    role_tells_none (called c) h = refl
    role_tells_none called_in_brackets h = refl
    role_tells_none (argument k has_address c) h = refl
    role_tells_none (returned k) h = refl
    role_tells_none (left k row) h = row_tells_none row h
    role_tells_none (names_type row) h = refl
    role_tells_none (new_literal row) h = refl
    role_tells_none parameter_pointer h = refl

    -- a name alone has the type of the next item
    next_tells : (name : Identifier) (is : List Item) → items_tell known is ≡ false → type_tells known (alone name is).type ≡ false
    next_tells name [] h = refl
    next_tells name (i ∷ is) h = neither_first (type_tells known i.type) (items_tell known is) h

    items_tell_none : (ps : Parameters) → ParametersHaveWords source ps → items_tell known (items_of ps) ≡ false
    items_tell_none no_parameter h = refl
    items_tell_none (named_and name ellipsis t ps) h =
        neither _ _ (named_tells_none (as_named t) h.1) (items_tell_none ps h.2)
    items_tell_none (unnamed_and ellipsis t ps) h =
        neither _ _ (named_tells_none (as_named t) h.0) (items_tell_none ps h.1)
    items_tell_none (name_alone_and name ps) h =
        let rest = items_tell_none ps h.1 in neither _ _ (next_tells name (items_of ps) rest) rest

    receiver_tells_none : (ps : Option Parameters) → ReceiverHasWords source ps → items_tell known (receiver_items ps) ≡ false
    receiver_tells_none None h = refl
    receiver_tells_none (Some ps) h = items_tell_none ps h

    signature_tells_none : (s : Signature) → SignatureHasWords source s → signature_tells known s ≡ false
    signature_tells_none (signature_of ps rs brackets) h = neither _ _ (items_tell_none ps h.0) (items_tell_none rs h.1)

    mark_tells_none : (m : Mark) → HasWords source m → mark_tells known m ≡ false
    mark_tells_none (mentions m) h = neither _ _ (tells_none m.named h.0) (role_tells_none m.role h.1)
    mark_tells_none (of_fields site m) h = field_tells_none m h
    mark_tells_none (runs_literal moment site at) h = refl
    mark_tells_none (returns at es) h = refl
    mark_tells_none (opens b) h = neither _ _ (receiver_tells_none b.receiver h.0) (signature_tells_none b.signature h.1)
    mark_tells_none closes h = refl

pub words_tell : WordsTell
words_tell = record {
  no_recover = λ edition text tree t lacks. let tokens = t.is_tree.tokens in
      subst (λ (ms : List Mark). list_any names_recover ms ≡ false) (marks_there t.meant t.written tree t.same)
      (none_among names_recover (file_marks t.written) λ m among.
      is_no_recover record { text = text; tokens = tokens } t.is_tree.cut lacks m
      (names_are_words edition text t.written m t.is_tree among));
  none_tells = λ text tree known t lacks. let tokens = t.is_tree.tokens in
      subst (λ (ms : List Mark). list_any (mark_tells known) ms ≡ false) (marks_there t.meant t.written tree t.same)
      (none_among (mark_tells known) (file_marks t.written) λ m among.
      mark_tells_none record { text = text; tokens = tokens } t.is_tree.cut lacks known m
      (names_are_words known.edition text t.written m t.is_tree among));
}
