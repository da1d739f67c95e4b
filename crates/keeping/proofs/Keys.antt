-- What mentions and assignments say of names that may be fields'.
use Rattle.std.proofs.Common.{◌≡◌, ℕ, Bool, false, List, [], ◌∷◌, ◌++◌, map, refl, sym, ap, ◌∙◌, append_assoc}
use Rattle.std.specs.Prelude.{if◌then◌else◌}
use Rattle.std.proofs.lemmas.List.{append-nil, map-append}
use Rattle.mentions.specs.declared.mark.Mention.{Mention as KeptMention}
use Rattle.mentions.specs.declared.mark.Role.{Role as KeptRole}
use Rattle.mentions.specs.declared.mark.Role.TheVariants.{Key}
use Rattle.mentions.specs.MarkViews.{mention_view, role_view}
use Rattle.meaning.specs.Kept.{is_key}
use Rattle.noted_fields.specs.declared.note.Note.{Note as KeptNote}
use Rattle.keeping.specs.Notes.{key_notes}
use Rattle.noted_fields.specs.NotedFields.{Note, note_view, is_filled}

no_key : (role : KeptRole) → (role ≡ Key → ⊥) → is_key (role_view role) ≡ false
no_key Key not = absurd (not refl)
no_key _ not = refl

abbrev noted_if : List ℕ → Bool → List Note
noted_if name b = if b then is_filled name ∷ [] else []

-- no key says nothing
pub nothing_noted : (notes : List KeptNote) (m : KeptMention) → (m.role ≡ Key → ⊥)
    → map note_view notes ≡ map note_view notes ++ key_notes (mention_view m)
nothing_noted notes m not =
    sym (append-nil (map note_view notes))
    ∙ ap (λ b. map note_view notes ++ noted_if m.named.name.now b) (sym (no_key m.role not))

one_more : (before after : List KeptNote) (note : KeptNote) → after ≡ before ++ note ∷ []
    → map note_view after ≡ map note_view before ++ note_view note ∷ []
one_more before after note is = ap (map note_view) is ∙ map-append note_view before (note ∷ [])

-- a key says that it may be a field
pub key_noted : (before after : List KeptNote) (m : KeptMention) (note : KeptNote) → m.role ≡ Key
    → note_view note ≡ is_filled m.named.name.now
    → after ≡ before ++ note ∷ []
    → map note_view after ≡ map note_view before ++ key_notes (mention_view m)
key_noted before after m note is_one said is =
    one_more before after note is
    ∙ ap (λ n. map note_view before ++ n ∷ []) said
    ∙ ap (λ role. map note_view before ++ noted_if m.named.name.now (is_key (role_view role))) (sym is_one)

-- what an assignment says, behind that the name may be a field
pub then_noted : (before after : List KeptNote) (note : KeptNote) (all said : List Note) → after ≡ before ++ note ∷ []
    → all ≡ map note_view after ++ said
    → all ≡ map note_view before ++ note_view note ∷ said
then_noted before after note all said is are =
    are
    ∙ ap (λ notes. notes ++ said) (one_more before after note is)
    ∙ append_assoc (map note_view before) (note_view note ∷ []) said
