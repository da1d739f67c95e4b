-- What is read of the members of a parameter.
use Rattle.std.proofs.Common.{◌≡◌, inl, inr, ℕ, ◌<◌, ◌^◌, Bool, true, false, List, [], ◌∷◌, Option, Some, None, is_some, option_map, codes, true≢false, refl, sym, ap, subst, ◌∙◌}
use Rattle.serde_json.specs.Data.{Data, boolean, string, object, Members, no_members, put}
use Rattle.serde_json.specs.Find.{as_object, as_str, get_member}
use Rattle.json_reading.specs.Keyed.{chosen, members_in, with_member, HasOther, IsNone, IsOne, IsUnder, KeysRise}
use Rattle.json_reading.specs.Standing.{Judges, Refutes}
use Rattle.json_reading.proofs.ObjectKeys.{differs, set, kept, none_under, under_value, other_kept, other_put, has_no_other}
use Rattle.table_json.specs.MembersRead.{kind_text, parameter_keys, parameter_of_kind, parameter_with, HasParameterMembers, IsKind, IsKindText, IsParameter, IsPosition, IsTruth}
use Rattle.table_json.specs.TableValues.{parameter_value, whole, Fits}
use Rattle.table_json.specs.Tables.{position_of}
use Rattle.table_json.specs.declared.parameters.Kind.{Kind}
use Rattle.table_json.specs.declared.parameters.Kind.TheVariants as kind
use Rattle.table_json.specs.declared.table.Parameter.{Parameter}
use Rattle.table_json.specs.declared.table.Parameter.TheVariants.{Cancel, Cause, Group}

-- Putting one more member

keys_rise : KeysRise parameter_keys
keys_rise = ((refl, (refl, tt)), ((refl, tt), (tt, tt)))

at_calls : codes "at" ≡ codes "calls" → ⊥
at_calls = differs (codes "at") (codes "calls") refl

at_kind : codes "at" ≡ codes "kind" → ⊥
at_kind = differs (codes "at") (codes "kind") refl

calls_kind : codes "calls" ≡ codes "kind" → ⊥
calls_kind = differs (codes "calls") (codes "kind") refl

module _ (key : List ℕ) (value : Data) (ms : Members) (has_other has_calls : Bool) (at : Option ℕ) (calls : Option Bool) (k : Option Kind)
    (h : HasParameterMembers has_other has_calls at calls k ms) where
  pub at_put : (found : Option ℕ) → key ≡ codes "at" → Judges IsPosition (Refutes IsPosition) value found
      → HasParameterMembers has_other has_calls found calls k (put key value ms)
  at_put found same read = record {
    others = other_kept parameter_keys key value ms has_other keys_rise (inl same) h.others;
    at_under =
        set (λ o. IsUnder IsPosition o found) (codes "at") key value ms same (under_value IsPosition value found read);
    calls_under =
        kept (λ o. IsUnder IsTruth o calls) (codes "calls") key value ms (λ e. at_calls (sym same ∙ e)) h.calls_under;
    calls_there =
        kept (λ o. has_calls ≡ is_some o) (codes "calls") key value ms (λ e. at_calls (sym same ∙ e)) h.calls_there;
    kind_under =
        kept (λ o. IsUnder IsKind o k) (codes "kind") key value ms (λ e. at_kind (sym same ∙ e)) h.kind_under;
  }

  pub calls_put : (found : Option Bool) → key ≡ codes "calls" → Judges IsTruth (Refutes IsTruth) value found
      → HasParameterMembers has_other true at found k (put key value ms)
  calls_put found same read = record {
    others = other_kept parameter_keys key value ms has_other keys_rise (inr (inl same)) h.others;
    at_under =
        kept (λ o. IsUnder IsPosition o at) (codes "at") key value ms (λ e. at_calls (sym e ∙ same)) h.at_under;
    calls_under =
        set (λ o. IsUnder IsTruth o found) (codes "calls") key value ms same (under_value IsTruth value found read);
    calls_there = set (λ o. true ≡ is_some o) (codes "calls") key value ms same refl;
    kind_under =
        kept (λ o. IsUnder IsKind o k) (codes "kind") key value ms (λ e. calls_kind (sym same ∙ e)) h.kind_under;
  }

  pub kind_put : (found : Option Kind) → key ≡ codes "kind" → Judges IsKind (Refutes IsKind) value found
      → HasParameterMembers has_other has_calls at calls found (put key value ms)
  kind_put found same read = record {
    others = other_kept parameter_keys key value ms has_other keys_rise (inr (inr (inl same))) h.others;
    at_under =
        kept (λ o. IsUnder IsPosition o at) (codes "at") key value ms (λ e. at_kind (sym e ∙ same)) h.at_under;
    calls_under =
        kept (λ o. IsUnder IsTruth o calls) (codes "calls") key value ms (λ e. calls_kind (sym e ∙ same)) h.calls_under;
    calls_there =
        kept (λ o. has_calls ≡ is_some o) (codes "calls") key value ms (λ e. calls_kind (sym e ∙ same)) h.calls_there;
    kind_under =
        set (λ o. IsUnder IsKind o found) (codes "kind") key value ms same (under_value IsKind value found read);
  }

  pub unknown_put : (key ≡ codes "at" → ⊥) → (key ≡ codes "calls" → ⊥) → (key ≡ codes "kind" → ⊥)
      → HasParameterMembers true has_calls at calls k (put key value ms)
  unknown_put no_at no_calls no_kind = record {
    others = other_put parameter_keys key value ms (no_at, (no_calls, (no_kind, tt)));
    at_under = kept (λ o. IsUnder IsPosition o at) (codes "at") key value ms no_at h.at_under;
    calls_under = kept (λ o. IsUnder IsTruth o calls) (codes "calls") key value ms no_calls h.calls_under;
    calls_there = kept (λ o. has_calls ≡ is_some o) (codes "calls") key value ms no_calls h.calls_there;
    kind_under = kept (λ o. IsUnder IsKind o k) (codes "kind") key value ms no_kind h.kind_under;
  }

pub no_parameter_members : HasParameterMembers false false None None None no_members
no_parameter_members = record {
  others = refl;
  at_under = none_under IsPosition;
  calls_under = none_under IsTruth;
  calls_there = refl;
  kind_under = none_under IsKind;
}

-- What the members of a parameter are

pub none_here : {A : Type 0} (o : Option A) (a : A) → o ≡ None → o ≡ Some a → ⊥
none_here o a e h = cc

pub same_value : {a b : Data} → Some a ≡ Some b → a ≡ b
same_value e = cc

some_text : {s t : List ℕ} → Some s ≡ Some t → s ≡ t
some_text e = cc

pub same_text : {s t : List ℕ} → string s ≡ string t → s ≡ t
same_text e = some_text (ap as_str e)

pub none_there : (o : Option Data) → false ≡ is_some o → o ≡ None
none_there None e = refl
none_there (Some d) e = absurd (true≢false (sym e))

other_kinds : kind.Cancel ≡ kind.Group → ⊥
other_kinds e = cc

other_kinds_too : kind.Cause ≡ kind.Group → ⊥
other_kinds_too e = cc

abbrev kind_of : Parameter → Kind
kind_of (Cancel at calls) = kind.Cancel
kind_of (Cause at calls) = kind.Cause
kind_of (Group at) = kind.Group

abbrev is_called : Parameter → Option Bool
is_called (Cancel at calls) = Some calls
is_called (Cause at calls) = Some calls
is_called (Group at) = None

abbrev members_of : Parameter → Members
members_of p = members_in (parameter_value p)

at_of : (p : Parameter) → get_member (codes "at") (members_of p) ≡ Some (whole (position_of p))
at_of (Cancel at calls) = refl
at_of (Cause at calls) = refl
at_of (Group at) = refl

calls_of : (p : Parameter) → get_member (codes "calls") (members_of p) ≡ option_map boolean (is_called p)
calls_of (Cancel at calls) = refl
calls_of (Cause at calls) = refl
calls_of (Group at) = refl

text_of : (p : Parameter) → get_member (codes "kind") (members_of p) ≡ Some (string (kind_text (kind_of p)))
text_of (Cancel at calls) = refl
text_of (Cause at calls) = refl
text_of (Group at) = refl

chosen_of : (p : Parameter) → members_of p ≡ chosen parameter_keys (λ key. get_member key (members_of p))
chosen_of (Cancel at calls) = refl
chosen_of (Cause at calls) = refl
chosen_of (Group at) = refl

-- The parameter of an object with such members

module _ (ms : Members) where
  members_are : (p : Parameter) → IsParameter (object ms) p → ms ≡ members_of p
  members_are p is = ap members_in is.0

  no_at : (p : Parameter) → IsParameter (object ms) p → IsUnder IsPosition (get_member (codes "at") ms) None → ⊥
  no_at p is none =
      none (whole (position_of p)) (position_of p) (ap (get_member (codes "at")) (members_are p is) ∙ at_of p)
      (refl, is.1)

  no_kind : (p : Parameter) → IsParameter (object ms) p → IsUnder IsKind (get_member (codes "kind") ms) None → ⊥
  no_kind p is none =
      none (string (kind_text (kind_of p))) (kind_of p) (ap (get_member (codes "kind")) (members_are p is) ∙ text_of p)
      refl

  kinds_differ : (k l : Kind) → kind_text k ≡ kind_text l → k ≡ l
  kinds_differ kind.Cancel kind.Cancel e = refl
  kinds_differ kind.Cancel kind.Cause e = absurd (differs (codes "cancel") (codes "cause") refl e)
  kinds_differ kind.Cancel kind.Group e = absurd (differs (codes "cancel") (codes "group") refl e)
  kinds_differ kind.Cause kind.Cancel e = absurd (differs (codes "cancel") (codes "cause") refl (sym e))
  kinds_differ kind.Cause kind.Cause e = refl
  kinds_differ kind.Cause kind.Group e = absurd (differs (codes "cause") (codes "group") refl e)
  kinds_differ kind.Group kind.Cancel e = absurd (differs (codes "cancel") (codes "group") refl (sym e))
  kinds_differ kind.Group kind.Cause e = absurd (differs (codes "cause") (codes "group") refl (sym e))
  kinds_differ kind.Group kind.Group e = refl

  kind_is : (p : Parameter) (k : Kind) → IsParameter (object ms) p
      → IsUnder IsKind (get_member (codes "kind") ms) (Some k)
      → kind_of p ≡ k
  kind_is p k is under =
      kinds_differ (kind_of p) k
      (same_text (same_value (sym (ap (get_member (codes "kind")) (members_are p is) ∙ text_of p) ∙ under.1) ∙ under.2))

  calls_are : (p : Parameter) → IsParameter (object ms) p
      → get_member (codes "calls") ms ≡ option_map boolean (is_called p)
  calls_are p is = ap (get_member (codes "calls")) (members_are p is) ∙ calls_of p

  called : (p : Parameter) → (kind_of p ≡ kind.Group → ⊥) → (c : Bool) × (is_called p ≡ Some c)
  called (Cancel at calls) other = (calls, refl)
  called (Cause at calls) other = (calls, refl)
  called (Group at) other = absurd (other refl)

  not_called : (p : Parameter) → kind_of p ≡ kind.Group → is_called p ≡ None
  not_called (Cancel at calls) e = absurd (cc)
  not_called (Cause at calls) e = absurd (cc)
  not_called (Group at) e = refl

  no_calls : (p : Parameter) → IsParameter (object ms) p → (kind_of p ≡ kind.Group → ⊥)
      → IsUnder IsTruth (get_member (codes "calls") ms) None
      → ⊥
  no_calls p is other none =
      let c = called p other in none (boolean c.0) c.0 (calls_are p is ∙ ap (option_map boolean) c.1) refl

  all_of_three : (at calls k : Option Data) → ms ≡ chosen parameter_keys (λ key. get_member key ms)
      → get_member (codes "at") ms ≡ at
      → get_member (codes "calls") ms ≡ calls
      → get_member (codes "kind") ms ≡ k
      → ms ≡ with_member (codes "at") at (with_member (codes "calls") calls (with_member (codes "kind") k no_members))
  all_of_three at calls k others e f g =
      others
      ∙ (λ i. with_member (codes "at") (e i) (with_member (codes "calls") (f i) (with_member (codes "kind") (g i) no_members)))

  group_judged : (has_calls : Bool) (a : ℕ) (calls : Option Bool)
      → HasParameterMembers false has_calls (Some a) calls (Some kind.Group) ms
      → Judges IsParameter (Refutes IsParameter) (object ms) (parameter_of_kind has_calls a calls kind.Group)
  group_judged true a calls h = λ p is.
      let none = calls_are p is ∙ ap (option_map boolean) (not_called p (kind_is p kind.Group is h.kind_under)) in
      true≢false (h.calls_there ∙ ap is_some none)
  group_judged false a calls h = (
    ap object (all_of_three _ _ _ h.others (h.at_under.1 ∙ ap Some h.at_under.2.0) (none_there _ h.calls_there)
        (h.kind_under.1 ∙ ap Some h.kind_under.2)),
    h.at_under.2.1,
  )

  kind_judged : (k : Kind) (has_calls : Bool) (a : ℕ) (calls : Option Bool)
      → HasParameterMembers false has_calls (Some a) calls (Some k) ms
      → Judges IsParameter (Refutes IsParameter) (object ms) (parameter_of_kind has_calls a calls k)
  kind_judged kind.Cancel has_calls a None h = λ p is.
      no_calls p is (λ e. other_kinds (sym (kind_is p kind.Cancel is h.kind_under) ∙ e)) h.calls_under
  kind_judged kind.Cancel has_calls a (Some c) h = (
    ap object (all_of_three _ _ _ h.others (h.at_under.1 ∙ ap Some h.at_under.2.0)
        (h.calls_under.1 ∙ ap Some h.calls_under.2) (h.kind_under.1 ∙ ap Some h.kind_under.2)),
    h.at_under.2.1,
  )
  kind_judged kind.Cause has_calls a None h = λ p is.
      no_calls p is (λ e. other_kinds_too (sym (kind_is p kind.Cause is h.kind_under) ∙ e)) h.calls_under
  kind_judged kind.Cause has_calls a (Some c) h = (
    ap object (all_of_three _ _ _ h.others (h.at_under.1 ∙ ap Some h.at_under.2.0)
        (h.calls_under.1 ∙ ap Some h.calls_under.2) (h.kind_under.1 ∙ ap Some h.kind_under.2)),
    h.at_under.2.1,
  )
  kind_judged kind.Group has_calls a calls h = group_judged has_calls a calls h

  pub parameter_judged : (has_other has_calls : Bool) (at : Option ℕ) (calls : Option Bool) (k : Option Kind)
      → HasParameterMembers has_other has_calls at calls k ms
      → Judges IsParameter (Refutes IsParameter) (object ms) (parameter_with has_other has_calls at calls k)
  unfolding parameter_with
  parameter_judged true has_calls at calls k h = λ p is.
      has_no_other parameter_keys ms (λ key. get_member key (members_of p)) (members_are p is ∙ chosen_of p) h.others
  parameter_judged false has_calls None calls k h = λ p is. no_at p is h.at_under
  parameter_judged false has_calls (Some a) calls None h = λ p is. no_kind p is h.kind_under
  parameter_judged false has_calls (Some a) calls (Some k) h = kind_judged k has_calls a calls h

pub no_parameter : (value : Data) → as_object value ≡ None → Refutes IsParameter value
no_parameter value e (Cancel at calls) = λ is. none_here (as_object value) _ e (ap as_object is.0)
no_parameter value e (Cause at calls) = λ is. none_here (as_object value) _ e (ap as_object is.0)
no_parameter value e (Group at) = λ is. none_here (as_object value) _ e (ap as_object is.0)
