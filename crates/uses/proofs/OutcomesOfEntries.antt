-- What a mention of a local gives, by what the marks of its file do to the local.
use Rattle.std.proofs.Common.{◌≡◌, List, Option, Some, None, option_map, refl, ap, ◌∙◌}
use Rattle.tracked.specs.LocalViews.{SeenLocal, entry_of, tracked_kind_of_entry}
use Rattle.uses.specs.OutcomeViews.{binding_outcome_of, mention_outcome_of, row_outcome_of, role_outcome_of}
use Rattle.meaning.specs.FunctionFacts.{VariableKind}
use Rattle.meaning.specs.Mentions.{BodyPlace, Row, Role, elsewhere, as_key, exposed, pointed_to, found_nil, found_error, called, called_in_brackets, argument, returned, left, names_type, new_literal, parameter_pointer, Mention}
use Rattle.meaning.specs.Tracked.{LocalRole, parameter, receiver, variadic, result, in_block, Local}
use Rattle.meaning.specs.Uses.{Seen, Binding, tracked_kind, kind_of, binding_at, binding_outcome, mention_outcome, row_outcome, role_outcome, local_outcome}

module _ (s : Seen) (l : Local) (bs : List BodyPlace) (m : Mention) where
  binding_same : (kind : VariableKind) (row : Row) (e : Binding) (r : LocalRole)
      → binding_outcome_of s (entry_of s l) kind bs m row e r ≡ binding_outcome s l kind bs m row e r
  binding_same kind row e result = refl
  binding_same kind row e variadic = refl
  binding_same kind row e (parameter k) = refl
  binding_same kind row e receiver = refl
  binding_same kind row e in_block = refl

  mention_same : (kind : Option VariableKind)
      → mention_outcome_of s (entry_of s l) kind bs m ≡ mention_outcome s l kind bs m
  mention_same None = refl
  mention_same (Some kind) = refl

  row_same : (kind : Option VariableKind) (row : Row) (b : Option Binding)
      → row_outcome_of s (entry_of s l) kind bs m row b ≡ row_outcome s l kind bs m row b
  row_same None row b = refl
  row_same (Some kind) row None = mention_same (tracked_kind s (Some l))
  row_same (Some kind) row (Some b) = binding_same kind row b l.role

  role_same : (r : Role) → role_outcome_of s (entry_of s l) bs m r ≡ role_outcome s l bs m r
  role_same (left k row) = row_same (kind_of s (Some l)) row (binding_at s row k)
  role_same elsewhere = mention_same (tracked_kind s (Some l))
  role_same as_key = mention_same (tracked_kind s (Some l))
  role_same exposed = mention_same (tracked_kind s (Some l))
  role_same pointed_to = mention_same (tracked_kind s (Some l))
  role_same (found_nil nil) = mention_same (tracked_kind s (Some l))
  role_same (found_error nil row) = mention_same (tracked_kind s (Some l))
  role_same (called c) = mention_same (tracked_kind s (Some l))
  role_same called_in_brackets = mention_same (tracked_kind s (Some l))
  role_same (argument k has_address c) = mention_same (tracked_kind s (Some l))
  role_same (returned k) = mention_same (tracked_kind s (Some l))
  role_same (names_type row) = mention_same (tracked_kind s (Some l))
  role_same (new_literal row) = mention_same (tracked_kind s (Some l))
  role_same parameter_pointer = mention_same (tracked_kind s (Some l))

pub entry_same : (s : Seen) (bs : List BodyPlace) (m : Mention) (e : SeenLocal) (l : Option Local)
    → Some e ≡ option_map (entry_of s) l → role_outcome_of s e bs m m.role ≡ local_outcome s bs m l
entry_same s bs m e None is = absurd cc
entry_same s bs m e (Some l) is =
    let same : e ≡ entry_of s l = cc in
    ap (λ x. role_outcome_of s x bs m m.role) same ∙ role_same s l bs m m.role

-- as what the local is tracked
pub tracked_same : (s : Seen) (e : SeenLocal) (o : Option Local) → Some e ≡ option_map (entry_of s) o
    → tracked_kind_of_entry e ≡ tracked_kind s o
tracked_same s e None is = absurd cc
tracked_same s e (Some l) is =
    let same : e ≡ entry_of s l = cc in
    ap tracked_kind_of_entry same
