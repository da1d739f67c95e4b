-- Each mention of a tracked variable is a binding, an allowed mention or a fault; each event stands at one site.
use Rattle.std.proofs.Common.{◌≡◌, ℕ, Bool, true, false, true≢false, if◌then◌else◌, List, [], Option, Some, None, inl, inr, refl, sym, ap, ◌∙◌}
use Rattle.std.specs.Prelude.{◌==◌}
use Rattle.std.proofs.lemmas.Bool.Decides.{eqb_tells}
use Rattle.tree.specs.declared.edition.Edition.{Edition}
use Rattle.tree.specs.declared.edition.Edition.TheVariants.{First, Second}
use Rattle.meaning.specs.FunctionFacts.{VariableKind, cancel, group}
use Rattle.meaning.specs.Mentions.{BodyPlace, Row, Role, elsewhere, as_key, exposed, pointed_to, found_nil, found_error, called, called_in_brackets, argument, returned, left, names_type, new_literal, parameter_pointer, Mention, Mark, mentions, of_fields, runs_literal, returns, opens, closes}
use Rattle.meaning.specs.Tracked.{Local, kind_of_local}
use Rattle.meaning.specs.Uses.{Seen, may_be_tracked, tracked_kind, kind_of, Binding, binding_at, Event, kind_use, cancel_type_of, cancel_use_by, group_use, use_outcome, mention_outcome, row_outcome, role_outcome, local_outcome, variable_outcome}
use Rattle.meaning.specs.BodyEvents.{mark_events, is_site}
use Rattle.meaning.specs.UseLaws.{IsMentionOf, binding_of, IsOneOfThree, binds, is_allowed, is_fault, EachMentionIsOneOfThree, EventsStandAtOneSite}

module _ (seen : Seen) (bodies : List BodyPlace) (m : Mention) (l : Local) (kind : VariableKind) (h : IsMentionOf seen m l kind) where
  outcome_here : variable_outcome seen bodies m ≡ role_outcome seen l bodies m m.role
  outcome_here = ap (local_outcome seen bodies m) h.is_of_it

  -- what binds nothing is allowed or a fault
  no_binding : binding_of seen m.role ≡ None
      → variable_outcome seen bodies m ≡ mention_outcome seen l (tracked_kind seen (Some l)) bodies m
      → (u : Option (List Event)) → kind_use seen l kind bodies m ≡ u → IsOneOfThree seen bodies m l kind
  no_binding none gives None e =
      is_fault none e
      (gives ∙ ap (λ k. mention_outcome seen l k bodies m) h.is_tracked ∙ ap (use_outcome kind l m) e)
  no_binding none gives (Some events) e =
      is_allowed events none e
      (gives ∙ ap (λ k. mention_outcome seen l k bodies m) h.is_tracked ∙ ap (use_outcome kind l m) e)

  other_role : (r : Role) → m.role ≡ r → binding_of seen r ≡ None
      → role_outcome seen l bodies m r ≡ mention_outcome seen l (tracked_kind seen (Some l)) bodies m
      → IsOneOfThree seen bodies m l kind
  other_role r e none gives =
      no_binding (ap (binding_of seen) e ∙ none)
      (outcome_here ∙ ap (role_outcome seen l bodies m) e ∙ gives) _ refl

  -- what is tracked has that kind whatever its role is
  kind_there : (t : Bool) → (if t then kind_of_local seen.known seen.marks l else None) ≡ Some kind
      → kind_of seen (Some l) ≡ Some kind
  kind_there true e = e
  kind_there false e = absurd cc

  no_use_at_left : (k : ℕ) (row : Row) → m.role ≡ left k row → (kind : VariableKind)
      → kind_use seen l kind bodies m ≡ None
  no_use_at_left k row e cancel =
      ap (cancel_use_by seen.known.edition seen.known (cancel_type_of seen l) l bodies m) e ∙ by seen.known.edition
    where
      by : (edition : Edition)
          → cancel_use_by edition seen.known (cancel_type_of seen l) l bodies m (left k row) ≡ None
      by First = refl
      by Second = refl
  no_use_at_left k row e group = ap (group_use seen l bodies m) e

  at_left : (k : ℕ) (row : Row) → m.role ≡ left k row → (b : Option Binding) → binding_at seen row k ≡ b
      → IsOneOfThree seen bodies m l kind
  at_left k row e (Some b) is = binds b (ap (binding_of seen) e ∙ is) (no_use_at_left k row e kind)
  at_left k row e None is =
      no_binding (ap (binding_of seen) e ∙ is)
      (outcome_here ∙ ap (role_outcome seen l bodies m) e
      ∙ ap (λ o. row_outcome seen l o bodies m row (binding_at seen row k)) (kind_there (may_be_tracked l.role) h.is_tracked)
      ∙ ap (row_outcome seen l (Some kind) bodies m row) is)
      _ refl

  by_role : (r : Role) → m.role ≡ r → IsOneOfThree seen bodies m l kind
  by_role (left k row) e = at_left k row e _ refl
  by_role elsewhere e = other_role elsewhere e refl refl
  by_role as_key e = other_role as_key e refl refl
  by_role exposed e = other_role exposed e refl refl
  by_role pointed_to e = other_role pointed_to e refl refl
  by_role (found_nil nil) e = other_role (found_nil nil) e refl refl
  by_role (found_error nil row) e = other_role (found_error nil row) e refl refl
  by_role (called c) e = other_role (called c) e refl refl
  by_role called_in_brackets e = other_role called_in_brackets e refl refl
  by_role (argument k has_address c) e = other_role (argument k has_address c) e refl refl
  by_role (returned k) e = other_role (returned k) e refl refl
  by_role (names_type row) e = other_role (names_type row) e refl refl
  by_role (new_literal row) e = other_role (new_literal row) e refl refl
  by_role parameter_pointer e = other_role parameter_pointer e refl refl

pub each_mention : EachMentionIsOneOfThree
each_mention seen bodies m l kind h = by_role seen bodies m l kind h m.role refl

-- sites

same_number : (a b : ℕ) → (a == b) ≡ true → a ≡ b
same_number a b e = elim (eqb_tells a b) [ inl c ↦ c.1 | inr c ↦ absurd (true≢false (sym e ∙ c.0)) ]

number_itself : (a : ℕ) → (a == a) ≡ true
number_itself a = elim (eqb_tells a a) [ inl c ↦ c.0 | inr c ↦ absurd (c.1 refl) ]

a_site : (seen : Seen) (bodies : List BodyPlace) (m : Mark) → (mark_events seen bodies m ≡ [] → ⊥)
    → (at : ℕ) × (is_site m at ≡ true)
a_site seen bodies (mentions m) some = (m.site, number_itself m.site)
a_site seen bodies (of_fields site m) some = (site, number_itself site)
a_site seen bodies (runs_literal moment site literal) some = (site, number_itself site)
a_site seen bodies (returns site es) some = (site, number_itself site)
a_site seen bodies (opens b) some = absurd (some refl)
a_site seen bodies closes some = absurd (some refl)

no_other_site : (m : Mark) (at other : ℕ) → is_site m at ≡ true → is_site m other ≡ true → at ≡ other
no_other_site (mentions m) at other e f = sym (same_number m.site at e) ∙ same_number m.site other f
no_other_site (of_fields site m) at other e f = sym (same_number site at e) ∙ same_number site other f
no_other_site (runs_literal moment site literal) at other e f = sym (same_number site at e) ∙ same_number site other f
no_other_site (returns site es) at other e f = sym (same_number site at e) ∙ same_number site other f
no_other_site (opens b) at other e f = absurd (true≢false (sym e))
no_other_site closes at other e f = absurd (true≢false (sym e))

pub one_site : EventsStandAtOneSite
one_site = record { has_a_site = a_site; has_no_other = no_other_site }
