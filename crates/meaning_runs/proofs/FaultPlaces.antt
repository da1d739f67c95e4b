-- Where the marks of a file have their names within the first bytes of a text, its use faults stand there, and so do the
-- faults of paths and passes at a name.
use Rattle.std.proofs.Common.{ap, ◌≡◌, ℕ, zero, suc, ◌+◌, ◌≤◌, Bool, true, false, cond, inl, inr, List, [], ◌∷◌, ◌++◌, map, Option, Some, None, Contains, refl, sym, subst, true≢false}
use Rattle.std.specs.Prelude.{◌&&◌, if◌then◌else◌, not, nat_le, option_map, flat_map, codes, ◌==◌}
use Rattle.std.specs.List.{filter}
use Rattle.std.proofs.lemmas.List.Elements.{Contains-append_cases, Contains-append_right}
use Rattle.tree.specs.Syntax.{Identifier, Parameters, no_parameter, named_and, unnamed_and, name_alone_and, Signature, signature_of}
use Rattle.meaning.specs.Scopes.{is_blank}
use Rattle.meaning.specs.Code.{Occurrence}
use Rattle.meaning.specs.Lists.{Reaches, stopped}
use Rattle.meaning.specs.FunctionFacts.{VariableKind, TrackedType, kind_of_type, Item, alone, items_of, item_type, CancelType, cancel_type, is_same_type}
use Rattle.meaning.specs.Mentions.{BodyPlace, Mention, Mark, mentions, runs_literal, returns, opens, closes, of_fields, FieldMark, calls_field, writes_field, hands_over, hands_literal, renews, imports_all, Row}
use Rattle.meaning.specs.Tracked.{Known, Placed, LocalRole, parameter, receiver, result, Local, item_local, parameter_role, parameter_locals, receiver_locals, only_cancel, result_locals, receiver_items, signature_locals, body_locals, declared_by, declared_local, locals_there, locals_of, has_field, in_block, row_giving}
use Rattle.meaning.specs.Uses.{Seen, VariableAt, Event, return_event, found, tracked_kind, is_outside, is_body, too_many_variables, goto_used, bound_again, fault_at, is_result, is_cancel, result_faults, cancel_type_of, cancel_used_otherwise, field_faults, field_left_faults, field_variable, row_binds, type_from}
use Rattle.meaning.specs.Jumps.{jumps_in}
use Rattle.meaning.specs.BodyEvents.{has_variables, forbids_recover, mark_faults, outer_faults_of, faults_of, handed_on, mark_events, events_at, sites_of, occurs_in, is_variable_of, lesser, occurrence, least, first_occurrence, VariableRole, own_parameter, own_receiver, declared_in_body, captured, Variable, role_in, first_in, variable_there, variable_found, variables_of, distinct, fault_after, is_cancel_variable, too_many_faults, body_faults, outer_faults}
use Rattle.meaning.specs.Classes.{Promises}
use Rattle.meaning.specs.Objects.{ObjectKind, field_local, field_locals, first_place, local_named, object_in, object_row, object_rows, object_rows_there, type_at, ObjectRow, new_object, outer_object, unaddressed}
use Rattle.meaning.proofs.Membership.{contains_nil, contains_here, contains_there, contains_cases}
use Rattle.meaning_packages.specs.PathFaults.{PathFault, BindsCancel, obtains, clears, PassesOn, passes, defers, IsPathFault, loses_cancel, loses_group, returns_live, returns_open, returns_pending, IsPassFault, passes_on, block_of, paths_of, IsFaultOf, of_a_pass, of_a_path, obtains_into, returns_kept}
use Rattle.meaning_runs.specs.NamePlaces.{ParametersStandWithin, ReceiverStandsWithin, SignatureStandsWithin, StandsWithin, FieldStandsWithin}
use Rattle.meaning_runs.proofs.EventSources.{list_has, of_body, marked}
use Rattle.meaning_runs.proofs.OwnVariables.{order_from, among_from, found_is}
use Rattle.meaning_runs.proofs.NameParts.{NameIn}
use Rattle.meaning_runs.proofs.MentionPlaces.{EventStandsWithin, EventsStandWithin, FaultsStandWithin, no_event, one_event, no_fault, one_fault, both_faults, faults_if, variable_lies, mention_faults_lie, recover_faults_lie, not_if}
use Rattle.meaning_runs.proofs.MentionEvents.{mention_events_fit}
use Rattle.meaning_runs.proofs.KeptEvents.{IsOfObject, field_events_are, in_if, by_renew, by_call, by_deferred, by_give, by_keep, by_outer, by_obtaining, by_gift}
use Rattle.meaning_runs.proofs.Places.{eqb_is}
use Rattle.meaning_reports.proofs.ImportsOf.{given_by, only_one}
use Rattle.meaning_runs.proofs.SentEvents.{literal_event_fits}

-- what the mark names stands there, and so does the site of a mention
abbrev pub MarkStandsWithin : ℕ → Mark → Type 0
MarkStandsWithin n (mentions m) = (m.site ≤ n) × StandsWithin n (mentions m)
MarkStandsWithin n (of_fields site m) = StandsWithin n (of_fields site m)
MarkStandsWithin n (runs_literal moment site at) = Unit {0}
MarkStandsWithin n (returns at es) = Unit {0}
MarkStandsWithin n (opens b) = StandsWithin n (opens b) × ((at : ℕ) → Contains (jumps_in b.statements) at → at ≤ n)
MarkStandsWithin n closes = Unit {0}

pub record MarksStandWithin (n : ℕ) (ps : List Placed) : Type 0 where
  pub each : (p : Placed) → Contains ps p → MarkStandsWithin n p.mark

later_marks : {n : ℕ} (p : Placed) (ps : List Placed) → MarksStandWithin n (p ∷ ps) → MarksStandWithin n ps
later_marks p ps h = record { each = λ q among. h.each q (contains_there p q ps among) }

-- Locals

pub record LocalsStandWithin (n : ℕ) (ls : List Local) : Type 0 where
  pub each : (l : Local) → Contains ls l → l.at ≤ n

no_local : {n : ℕ} → LocalsStandWithin n []
no_local = record { each = λ l h. absurd (contains_nil l h) }

one_local : {n : ℕ} (x : Local) → x.at ≤ n → LocalsStandWithin n (x ∷ [])
one_local {n} x h = record {
  each = λ l among. elim (contains_cases x l [] among) [
    | inl same ↦ subst (λ (y : Local). y.at ≤ n) same h
    | inr none ↦ absurd (contains_nil l none)
  ];
}

both_locals : {n : ℕ} {xs ys : List Local} → LocalsStandWithin n xs → LocalsStandWithin n ys → LocalsStandWithin n (xs ++ ys)
both_locals {n} {xs} {ys} h k = record {
  each = λ l among. elim (Contains-append_cases xs ys l among) [ inl r ↦ h.each l r | inr r ↦ k.each l r ];
}

-- the names of the items begin there
abbrev ItemsStandWithin : ℕ → List Item → Type 0
ItemsStandWithin n [] = Unit {0}
ItemsStandWithin n (i ∷ is) = NameIn n i.name × ItemsStandWithin n is

module _ (n : ℕ) where
  alone_lies : (name : Identifier) (is : List Item) → name.span.start ≤ n → NameIn n (alone name is).name
  alone_lies name [] h = h
  alone_lies name (i ∷ is) h = h

  items_lie : (ps : Parameters) → ParametersStandWithin n ps → ItemsStandWithin n (items_of ps)
  items_lie no_parameter h = tt
  items_lie (named_and name ellipsis t ps) h = (h.0, items_lie ps h.1)
  items_lie (unnamed_and ellipsis t ps) h = (tt, items_lie ps h)
  items_lie (name_alone_and name ps) h = (alone_lies name (items_of ps) h.0, items_lie ps h.1)

  module _ (known : Known) (b : BodyPlace) where
    item_lies : (role : LocalRole) (typed : Option TrackedType) (o : Option Identifier) → NameIn n o
        → LocalsStandWithin n (item_local b role typed o)
    item_lies role typed None h = no_local
    item_lies role typed (Some name) h = by (is_blank name.text) (one_local _ h)
      where
        by : (c : Bool) {xs : List Local} → LocalsStandWithin n xs → LocalsStandWithin n (if c then [] else xs)
        by true k = no_local
        by false k = k

    parameters_lie : (k : ℕ) (is : List Item) → ItemsStandWithin n is → LocalsStandWithin n (parameter_locals known b k is)
    parameters_lie k [] h = no_local
    parameters_lie k (i ∷ is) h =
        both_locals (item_lies (parameter_role (parameter k) i) (item_type known.means i) i.name h.0)
        (parameters_lie (k + 1) is h.1)

    receivers_lie : (is : List Item) → ItemsStandWithin n is → LocalsStandWithin n (receiver_locals known b is)
    receivers_lie [] h = no_local
    receivers_lie (i ∷ is) h =
        both_locals (item_lies (parameter_role receiver i) (item_type known.means i) i.name h.0) (receivers_lie is h.1)

    results_lie : (is : List Item) → ItemsStandWithin n is → LocalsStandWithin n (result_locals known b is)
    results_lie [] h = no_local
    results_lie (i ∷ is) h =
        both_locals (item_lies result (only_cancel (item_type known.means i)) i.name h.0) (results_lie is h.1)

    receiver_items_lie : (o : Option Parameters) → ReceiverStandsWithin n o → ItemsStandWithin n (receiver_items o)
    receiver_items_lie None h = tt
    receiver_items_lie (Some ps) h = items_lie ps h

    signature_lies : (s : Signature) → SignatureStandsWithin n s → LocalsStandWithin n (signature_locals known b s)
    signature_lies (signature_of ps rs brackets) h =
        both_locals (parameters_lie 0 (items_of ps) (items_lie ps h.0)) (results_lie (items_of rs) (items_lie rs h.1))

    body_locals_lie : StandsWithin n (opens b) → LocalsStandWithin n (body_locals known b)
    body_locals_lie h =
        both_locals (receivers_lie (receiver_items b.receiver) (receiver_items_lie b.receiver h.0))
        (signature_lies b.signature h.1)

  declared_lies : (known : Known) (m : Mention) → m.named.at ≤ n → (bodies : List BodyPlace) (o : Option ℕ)
      → LocalsStandWithin n (declared_local known m bodies o)
  declared_lies known m h [] o = no_local
  declared_lies known m h (b ∷ bs) None = no_local
  declared_lies known m h (b ∷ bs) (Some number) = one_local _ h

  there_lie : (known : Known) (bodies : List BodyPlace) (mark : Mark) → MarkStandsWithin n mark
      → LocalsStandWithin n (locals_there known bodies mark)
  there_lie known bodies (mentions m) h = declared_lies known m h.1.0 bodies (declared_by known m)
  there_lie known bodies (of_fields site m) h = no_local
  there_lie known bodies (runs_literal moment site at) h = no_local
  there_lie known bodies (returns at es) h = no_local
  there_lie known bodies (opens b) h = body_locals_lie known b h.0
  there_lie known bodies closes h = no_local

  pub locals_lie : (known : Known) (ps : List Placed) → MarksStandWithin n ps → LocalsStandWithin n (locals_of known ps)
  unfolding locals_of
  locals_lie known [] h = no_local
  locals_lie known (p ∷ ps) h =
      both_locals (there_lie known p.bodies p.mark (h.each p (contains_here p ps))) (locals_lie known ps (later_marks p ps h))

-- a row that obtains into a field stands where the field does
row_field : (bodies : List BodyPlace) (f : Identifier) (object : Option ℕ) (kind : Option ObjectKind)
    (t : Option CancelType) (r : ObjectRow)
    → Contains (object_row bodies f object kind t) r
    → r.field ≡ f
row_field [] f object kind t r h = absurd (contains_nil r h)
row_field (b ∷ bs) f None kind t r h = absurd (contains_nil r h)
row_field (b ∷ bs) f (Some x) None t r h = absurd (contains_nil r h)
row_field (b ∷ bs) f (Some x) (Some kind) None r h = absurd (contains_nil r h)
row_field (b ∷ bs) f (Some x) (Some kind) (Some t) r h =
    ap (λ (q : ObjectRow). q.field) (sym (only_one record { object = x; kind = kind; field = f; type = t; body = b.at } r h))

module _ (n : ℕ) (known : Known) where
  row_lies : (marks : List Placed) (bodies : List BodyPlace) (mark : Mark) → MarkStandsWithin n mark → (r : ObjectRow)
      → Contains (object_rows_there known marks bodies mark) r
      → r.field.span.start ≤ n
  row_lies marks bodies (of_fields site (writes_field l (Some a))) low r h =
      let object = local_named known l.object in
      let kind = object_in known marks bodies (unaddressed known marks object) in
      let t = type_at a.left_side (row_giving known a.row) in
      let same = row_field bodies l.field object kind t r
      (in_if (not l.has_brackets && has_field known.fields l.field.text) (object_row bodies l.field object kind t) r h) in
      subst (λ (f : Identifier). f.span.start ≤ n) (sym same) low
  row_lies marks bodies (of_fields site (writes_field l None)) low r h = absurd (contains_nil r h)
  row_lies marks bodies (of_fields site (calls_field f)) low r h = absurd (contains_nil r h)
  row_lies marks bodies (of_fields site (hands_over taker e)) low r h = absurd (contains_nil r h)
  row_lies marks bodies (of_fields site (hands_literal taker at)) low r h = absurd (contains_nil r h)
  row_lies marks bodies (of_fields site (renews number)) low r h = absurd (contains_nil r h)
  row_lies marks bodies (of_fields site imports_all) low r h = absurd (contains_nil r h)
  row_lies marks bodies (mentions m) low r h = absurd (contains_nil r h)
  row_lies marks bodies (runs_literal moment site at) low r h = absurd (contains_nil r h)
  row_lies marks bodies (returns at es) low r h = absurd (contains_nil r h)
  row_lies marks bodies (opens b) low r h = absurd (contains_nil r h)
  row_lies marks bodies closes low r h = absurd (contains_nil r h)

  field_lies : (kind : ObjectKind) (r : ObjectRow) (number : ℕ) → r.field.span.start ≤ n
      → LocalsStandWithin n (field_local kind r number)
  field_lies outer_object r number low = no_local
  field_lies new_object r number low = by (r.field.span.start == number) refl
    where
      by : (b : Bool) → (r.field.span.start == number) ≡ b → LocalsStandWithin n (if b then record {
        number = number;
        name = r.field.text;
        at = number;
        role = in_block;
        typed = Some (cancel_type r.type);
        body = r.body;
      } ∷ [] else [])
      by true q = one_local _ (subst (λ k. k ≤ n) (eqb_is r.field.span.start number q) low)
      by false q = no_local

  fields_lie : (all rows : List ObjectRow) → ((r : ObjectRow) → Contains rows r → r.field.span.start ≤ n)
      → LocalsStandWithin n (field_locals all rows)
  fields_lie all [] low = no_local
  fields_lie all (r ∷ rs) low =
      both_locals (field_lies r.kind r (first_place r all) (low r (contains_here r rs)))
      (fields_lie all rs (λ q among. low q (contains_there r q rs among)))

  -- all locals of a file with these marks
  pub all_locals_lie : (ps : List Placed) → MarksStandWithin n ps
      → LocalsStandWithin n (locals_of known ps ++ field_locals (object_rows known ps) (object_rows known ps))
  all_locals_lie ps h =
      let rows = object_rows known ps in
      both_locals (locals_lie n known ps h) (fields_lie rows rows (λ r among.
      let w = given_by (λ (p : Placed). object_rows_there known ps p.bodies p.mark) ps r among in
      row_lies ps w.0.bodies w.0.mark (h.each w.0 w.1) r w.2))

-- what the marks of a file name stands there, and so do its locals
pub record FileStandsWithin (n : ℕ) (seen : Seen) : Type 0 where
  pub marks : MarksStandWithin n seen.marks
  pub locals : LocalsStandWithin n seen.locals

-- the offset, if it is one
abbrev IsLow : ℕ → Option ℕ → Type 0
IsLow n None = Unit {0}
IsLow n (Some k) = k ≤ n

record VariablesStandWithin (n : ℕ) (vs : List Variable) : Type 0 where
  each : (v : Variable) → Contains vs v → v.first ≤ n

from_filter : {X : Type 0} (p : X → Bool) (x : X) (xs : List X) → Contains (filter p xs) x → Contains xs x
from_filter p x [] h = h
from_filter p x (y ∷ ys) h = by (p y) (from_filter p x ys) h
  where
    by : (b : Bool) → (Contains (filter p ys) x → Contains ys x) → Contains (cond b (y ∷ filter p ys) (filter p ys)) x
        → Contains (y ∷ ys) x
    by true rest k = elim (contains_cases y x (filter p ys) k) [
      | inl same ↦ subst (λ z. Contains (y ∷ ys) z) same (contains_here y ys)
      | inr later ↦ contains_there y x ys (rest later)
    ]
    by false rest k = contains_there y x ys (rest k)

module _ (n : ℕ) (seen : Seen) (lies : FileStandsWithin n seen) where
  -- use faults of marks

  results_faults_lie : (ls : List Local) → LocalsStandWithin n ls → FaultsStandWithin n (result_faults ls)
  results_faults_lie [] h = no_fault
  results_faults_lie (l ∷ ls) h =
      let rest = results_faults_lie ls record { each = λ k among. h.each k (contains_there l k ls among) } in
      faults_if (is_result l.role && is_cancel (option_map kind_of_type l.typed))
      (both_faults (one_fault l.at bound_again l.name (h.each l (contains_here l ls))) rest) rest

  jumps_lie : (js : List ℕ) → ((at : ℕ) → Contains js at → at ≤ n)
      → FaultsStandWithin n (flat_map (λ at. fault_at at goto_used (codes "-")) js)
  jumps_lie [] h = no_fault
  jumps_lie (j ∷ js) h =
      both_faults (one_fault j goto_used (codes "-") (h j (contains_here j js)))
      (jumps_lie js λ at among. h at (contains_there j at js among))

  field_obtained_lies : (v : Option Local) (f : Identifier) (row : Row) (k : ℕ) → f.span.start ≤ n
      → FaultsStandWithin n (field_left_faults seen v f row k)
  field_obtained_lies None f row k low = no_fault
  field_obtained_lies (Some v) f row k low =
      let one = one_fault f.span.start cancel_used_otherwise f.text low in
      faults_if (row_binds seen row)
      (both_faults (faults_if _ one no_fault)
      (not_if (is_same_type (cancel_type_of seen v) (type_from k (row_giving seen.known row))) one)) no_fault

  field_faults_lie : (m : FieldMark) → FieldStandsWithin n m → FaultsStandWithin n (field_faults seen m)
  field_faults_lie (writes_field l (Some a)) low =
      field_obtained_lies (field_variable seen l.field) l.field a.row a.left_side low
  field_faults_lie (writes_field l None) low = no_fault
  field_faults_lie (calls_field f) low = no_fault
  field_faults_lie (hands_over taker e) low = no_fault
  field_faults_lie (hands_literal taker at) low = no_fault
  field_faults_lie (renews number) low = no_fault
  field_faults_lie imports_all low = no_fault

  mark_lies : (bodies : List BodyPlace) (mark : Mark) → MarkStandsWithin n mark → FaultsStandWithin n (mark_faults seen bodies mark)
  mark_lies bodies (mentions m) h =
      both_faults (mention_faults_lie n seen bodies m h.1.0 h.0 h.1.1)
      (faults_if (forbids_recover seen.known.edition seen bodies) (recover_faults_lie n seen bodies m h.1.0) no_fault)
  mark_lies bodies (of_fields site m) h = field_faults_lie m h
  mark_lies bodies (runs_literal moment site at) h = no_fault
  mark_lies bodies (returns at es) h = no_fault
  mark_lies bodies (opens b) h =
      both_faults (results_faults_lie (body_locals seen.known b) (body_locals_lie n seen.known b h.0))
      (faults_if (has_variables seen b) (jumps_lie (jumps_in b.statements) h.1) no_fault)
  mark_lies bodies closes h = no_fault

  outer_lie : (ps : List Placed) → MarksStandWithin n ps → FaultsStandWithin n (outer_faults_of seen ps)
  outer_lie [] h = no_fault
  outer_lie (p ∷ ps) h =
      let rest = outer_lie ps (later_marks p ps h) in
      faults_if (is_outside p.bodies) (both_faults (mark_lies p.bodies p.mark (h.each p (contains_here p ps))) rest) rest

  inner_lie : (body : ℕ) (ps : List Placed) → MarksStandWithin n ps → FaultsStandWithin n (faults_of seen body ps)
  inner_lie body [] h = no_fault
  inner_lie body (p ∷ ps) h =
      let rest = inner_lie body ps (later_marks p ps h) in
      faults_if (is_body body p.bodies) (both_faults (mark_lies p.bodies p.mark (h.each p (contains_here p ps))) rest) rest

  -- variables of bodies

  lesser_low : (j k : ℕ) → j ≤ n → k ≤ n → lesser j k ≤ n
  lesser_low j k h l = by (nat_le j k)
    where
      by : (b : Bool) → (if b then j else k) ≤ n
      by true = h
      by false = l

  least_low : (k : ℕ) (o : Option ℕ) → k ≤ n → IsLow n o → least k o ≤ n
  least_low k None h l = h
  least_low k (Some j) h l = lesser_low k j h l

  occurs_low : (body : ℕ) (l : Local) (bodies : List BodyPlace) (mark : Mark) → MarkStandsWithin n mark
      → occurs_in seen.known body l bodies mark ≡ true
      → occurrence mark ≤ n
  occurs_low body l bodies (mentions m) h e = h.1.0
  occurs_low body l bodies (of_fields site m) h e = absurd (true≢false (sym e))
  occurs_low body l bodies (runs_literal moment site at) h e = absurd (true≢false (sym e))
  occurs_low body l bodies (returns at es) h e = absurd (true≢false (sym e))
  occurs_low body l bodies (opens b) h e = absurd (true≢false (sym e))
  occurs_low body l bodies closes h e = absurd (true≢false (sym e))

  first_low : (body : ℕ) (l : Local) (ps : List Placed) → MarksStandWithin n ps → IsLow n (first_occurrence seen.known body l ps)
  first_low body l [] h = tt
  first_low body l (p ∷ ps) h =
      by (occurs_in seen.known body l p.bodies p.mark) (occurs_low body l p.bodies p.mark (h.each p (contains_here p ps)))
      (first_low body l ps (later_marks p ps h))
    where
      by : (b : Bool) → (b ≡ true → occurrence p.mark ≤ n) → IsLow n (first_occurrence seen.known body l ps)
          → IsLow n (if b then Some (least (occurrence p.mark) (first_occurrence seen.known body l ps)) else first_occurrence seen.known body l ps)
      by true at rest = least_low (occurrence p.mark) (first_occurrence seen.known body l ps) (at refl) rest
      by false at rest = rest

  first_in_low : (role : VariableRole) (l : Local) (o : Option ℕ) → l.at ≤ n → IsLow n o → first_in role l o ≤ n
  first_in_low (own_parameter k) l o h low = h
  first_in_low own_receiver l o h low = h
  first_in_low declared_in_body l None h low = h
  first_in_low declared_in_body l (Some first) h low = low
  first_in_low captured l None h low = h
  first_in_low captured l (Some first) h low = low

  none_there : VariablesStandWithin n []
  none_there = record { each = λ v h. absurd (contains_nil v h) }

  variable_low : (body : ℕ) (l : Local) (o : Option VariableKind) → l.at ≤ n → VariablesStandWithin n (variable_there seen body l o)
  variable_low body l None h = none_there
  variable_low body l (Some kind) h = record {
    each = λ v among. elim (contains_cases _ v [] among) [
      | inl same ↦ subst (λ (x : Variable). x.first ≤ n) same
          (first_in_low (role_in body l) l (first_occurrence seen.known body l seen.marks) h (first_low body l seen.marks lies.marks))
      | inr none ↦ absurd (contains_nil v none)
    ];
  }

  found_low : (body k : ℕ) → VariablesStandWithin n (variable_found seen body (found seen (Some k)))
  found_low body k = by (found seen (Some k)) refl
    where
      if_so : (c : Bool) (xs : List Variable) → VariablesStandWithin n xs → VariablesStandWithin n (if c then xs else [])
      if_so true xs h = h
      if_so false xs h = none_there

      by : (o : Option Local) → found seen (Some k) ≡ o → VariablesStandWithin n (variable_found seen body o)
      by None e = none_there
      by (Some l) e =
          if_so (is_variable_of seen body l) (variable_there seen body l (tracked_kind seen (Some l)))
          (variable_low body l (tracked_kind seen (Some l)) (lies.locals.each l (found_is seen (Some k) l e).1))

  variables_low : (body : ℕ) → VariablesStandWithin n (variables_of seen body)
  variables_low body = record {
    each = λ v among.
        let numbers = distinct (map (λ (l : Local). l.number) seen.locals) in
        let w = among_from seen body numbers v (order_from _ v among) in
        (found_low body w.0).each v w.1;
  }

  after_low : (k : ℕ) (vs : List Variable) → VariablesStandWithin n vs → FaultsStandWithin n (fault_after k vs)
  after_low k [] h = no_fault
  after_low zero (v ∷ vs) h = one_fault v.first too_many_variables v.name (h.each v (contains_here v vs))
  after_low (suc k) (v ∷ vs) h = after_low k vs record { each = λ u among. h.each u (contains_there v u vs among) }

  some_low : (p : Variable → Bool) (vs : List Variable) → VariablesStandWithin n vs → VariablesStandWithin n (filter p vs)
  some_low p vs h = record { each = λ v among. h.each v (from_filter p v vs among) }

  too_many_lie : (vs : List Variable) → VariablesStandWithin n vs → FaultsStandWithin n (too_many_faults vs)
  too_many_lie vs h =
      both_faults (after_low _ (filter is_cancel_variable vs) (some_low is_cancel_variable vs h))
      (after_low _ (filter (λ v. not (is_cancel_variable v)) vs) (some_low (λ v. not (is_cancel_variable v)) vs h))

  -- all use faults

  pub outer_faults_lie : FaultsStandWithin n (outer_faults seen)
  outer_faults_lie = outer_lie seen.marks lies.marks

  pub body_faults_lie : (body : ℕ) → FaultsStandWithin n (body_faults seen body)
  body_faults_lie body =
      both_faults (inner_lie body seen.marks lies.marks) (too_many_lie (variables_of seen body) (variables_low body))

  -- events

  object_lies : (bodies : List BodyPlace) (mark : Mark) → MarkStandsWithin n mark → (e : Event)
      → IsOfObject seen bodies mark e
      → EventStandsWithin n e
  object_lies bodies mark low e (by_renew k h) = tt
  object_lies bodies mark low e (by_call k h) = tt
  object_lies bodies mark low e (by_deferred k h) = tt
  object_lies bodies mark low e (by_give k h) = tt
  object_lies bodies mark low e (by_keep k h fits) = tt
  object_lies bodies mark low e (by_outer k h fits) = tt
  object_lies bodies mark low e (by_obtaining k site l a is h told) = subst (MarkStandsWithin n) is low
  object_lies bodies mark low e (by_gift x v c q) = tt

  given_lies : (bodies : List BodyPlace) (mark : Mark) → MarkStandsWithin n mark → EventsStandWithin n (mark_events seen bodies mark)
  given_lies bodies (mentions m) h = record {
    each = mention_events_fit (EventStandsWithin n) seen bodies m (λ v. tt)
        (λ e is. object_lies bodies (mentions m) h e is)
        (λ e is. subst (EventStandsWithin n) (sym is.is_event) tt) (variable_lies n seen bodies m h.1.0).events.each;
  }
  given_lies bodies (of_fields site m) h = record {
    each = λ e among. object_lies bodies (of_fields site m) h e (field_events_are seen bodies site m e among);
  }
  given_lies bodies (runs_literal moment site at) h = record {
    each = literal_event_fits (EventStandsWithin n) seen.known.edition moment at tt tt;
  }
  given_lies bodies (returns at es) h = one_event (return_event (handed_on seen bodies 0 es)) tt
  given_lies bodies (opens b) h = no_event
  given_lies bodies closes h = no_event

  event_lies : (body at : ℕ) (e : Event) → Contains (events_at seen body seen.marks at) e → EventStandsWithin n e
  event_lies body at e among =
      let w = marked seen body seen.marks at e among in
      (given_lies w.0.bodies w.0.mark (lies.marks.each w.0 w.1)).each e w.3

  -- faults of paths and passes

  module _ (promises : Promises) (b : BodyPlace)
      (stand : (t : List (Occurrence Event)) (o : Occurrence Event) → Reaches (paths_of seen promises b).code t o → o.at ≤ n) where
    reached_lies : (t : List (Occurrence Event)) (o : Occurrence Event) → Reaches (paths_of seen promises b).code t o
        → EventStandsWithin n o.event
    reached_lies t o reached =
        list_has (EventStandsWithin n) (paths_of seen promises b).code (t ++ o ∷ []) stopped reached
        (of_body (EventStandsWithin n) (sites_of seen b.at) tt tt (event_lies b.at) (block_of b)) o
        (Contains-append_right t (o ∷ []) o (contains_here o []))

    binds_low : (e : Event) (u : VariableAt) → BindsCancel e u → EventStandsWithin n e → u.at ≤ n
    binds_low e u obtains h = h
    binds_low e u obtains_into h = h
    binds_low e u clears h = h

    passes_low : (e : Event) (u : VariableAt) → PassesOn promises e u → EventStandsWithin n e → u.at ≤ n
    passes_low e u (passes none) h = h
    passes_low e u (defers none) h = h

    path_lies : (f : PathFault) → IsPathFault (paths_of seen promises b) f → f.at ≤ n
    path_lies f (loses_cancel v u t o is kind reached binds same lost) = binds_low o.event u binds (reached_lies t o reached)
    path_lies f (loses_group g u state t o reached makes same live) = subst (EventStandsWithin n) makes (reached_lies t o reached)
    path_lies f (returns_live g handed t o comes declared live) = stand t o comes.reaches
    path_lies f (returns_open v handed t o comes owes opened) = stand t o comes.reaches
    path_lies f (returns_kept v handed t o comes owes is_kept none) = stand t o comes.reaches
    path_lies f (returns_pending v handed t o comes owes left) = stand t o comes.reaches

    pass_lies : (f : PathFault) → IsPassFault (paths_of seen promises b) f → f.at ≤ n
    pass_lies f (passes_on v u at e edition is kind among passing same) = passes_low e u passing (event_lies b.at at e among)

    pub fault_lies : (f : PathFault) → IsFaultOf seen promises b f → f.at ≤ n
    fault_lies f (of_a_pass g h) = pass_lies f h
    fault_lies f (of_a_path g few h) = path_lies f h
