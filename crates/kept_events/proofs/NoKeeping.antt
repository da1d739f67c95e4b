-- Where no field keeps, nothing is kept, and no mark is about objects.
use Rattle.std.proofs.Common.{◌≡◌, ℕ, Bool, true, false, true≢false, not, ◌&&◌, if◌then◌else◌, List, [], ◌∷◌, ◌++◌, map, flat_map, Option, Some, None, is_some, refl, ap, ◌∙◌}
use Rattle.std.specs.Prelude.{◌==◌}
use Rattle.std.specs.List.{filter}
use Rattle.tree.specs.Syntax.{Expression, missing_expression}
use Rattle.meaning.specs.Mentions.{BodyPlace, Row, FieldLeft, Mention, Role, left, exposed, called, Call, calls_field, writes_field, hands_over, hands_literal, renews, imports_all, Mark, mentions, of_fields, runs_literal, returns, opens, closes}
use Rattle.meaning.specs.Tracked.{Known, Fields, each_field, these_fields, has_field, some_keep, Placed, variable_of, declared_by, row_giving}
use Rattle.meaning.specs.Objects.{unaddressed, ObjectRow, object_row, object_rows_there, object_rows, object_left, object_in, local_named, type_at}
use Rattle.meaning.specs.Uses.{Seen, found}
use Rattle.meaning.specs.Kept.{Element, Gift, named_gift, element_gift, gifts, takes_it, Keep, kept_in, own_cancel, field_value, holder, kept_element, role_fields, stored_name, stored_keeps, keeps_by_mark, keeps_there, by_variable, belongs, kept_of, is_of_body, kept_there, field_call, field_calls, renew_all, keep_event, keep_events, declared_at_name, declared_events, role_events, give_all, given_field, carried, gift_events, mentioned_in, in_order_of_place, first_mentions, object_kind_of, written_events, handed_field, handed_gift, handed_in_fields}
use Rattle.meaning.specs.KeepingFields.{is_obtained_in, field_of_obtained, carried_field, given_elements, obtained_fields, fields_kept_there}
use Rattle.tracked.specs.declared.seen.Seen.{Seen as KeptSeen}
use Rattle.tracked.specs.LocalViews.{HasLefts, seen_view, Sees}
use Rattle.kept_events.specs.KeptEventViews.{object_part}

flat_none : {X Y : Type 0} (f : X → List Y) → ((x : X) → f x ≡ []) → (xs : List X) → flat_map f xs ≡ []
flat_none f none [] = refl
flat_none f none (x ∷ xs) = λ i. none x i ++ flat_none f none xs i

pub no_fields : (fs : Fields) → some_keep fs ≡ false → (f : List ℕ) → has_field fs f ≡ false
no_fields each_field none f = absurd (true≢false none)
no_fields (these_fields [] filled) none f = refl
no_fields (these_fields (g ∷ gs) filled) none f = absurd (true≢false none)

neither : {X : Type 0} (b : Bool) (xs : List X) → (if b && false then xs else []) ≡ []
neither true xs = refl
neither false xs = refl

either : {X : Type 0} (b : Bool) (none : List X) → none ≡ [] → (if b then none else []) ≡ []
either true none e = e
either false none e = refl

-- No left side is of an object.

module _ (known : Known) (marks : List Placed) (none : (f : List ℕ) → has_field known.fields f ≡ false) where
  no_row : (bs : List BodyPlace) (m : Mark) → object_rows_there known marks bs m ≡ []
  no_row bs (of_fields site (writes_field l (Some a))) =
      let row : List ObjectRow = object_row bs l.field (local_named known l.object)
      (object_in known marks bs (unaddressed known marks (local_named known l.object)))
      (type_at a.left_side (row_giving known a.row)) in
      ap (λ b. if not l.has_brackets && b then row else []) (none l.field.text) ∙ neither (not l.has_brackets) row
  no_row bs (of_fields site (writes_field l None)) = refl
  no_row bs (of_fields site (calls_field f)) = refl
  no_row bs (of_fields site (hands_over taker e)) = refl
  no_row bs (of_fields site (hands_literal taker at)) = refl
  no_row bs (of_fields site (renews number)) = refl
  no_row bs (of_fields site imports_all) = refl
  no_row bs (mentions m) = refl
  no_row bs (runs_literal moment site at) = refl
  no_row bs (returns at es) = refl
  no_row bs (opens b) = refl
  no_row bs closes = refl

  no_rows : object_rows known marks ≡ []
  no_rows = flat_none (λ p. object_rows_there known marks p.bodies p.mark) (λ p. no_row p.bodies p.mark) marks

  pub no_left : HasLefts known marks → (at : ℕ) → known.object_lefts at ≡ None
  no_left lefts at = lefts at ∙ λ i. object_left (no_rows i) (no_rows i) at

-- Nothing is kept.

module _ (s : Seen) (none : (f : List ℕ) → has_field s.known.fields f ≡ false) (lefts : (at : ℕ) → s.known.object_lefts at ≡ None) where
  no_element : (bs : List BodyPlace) (x : Option ℕ) (e : Element) → kept_element s bs x e ≡ []
  no_element bs x e = ap (λ b. if b then kept_in (field_value s bs e) x e.field else []) (none e.field)

  no_stored : (bs : List BodyPlace) (l : FieldLeft) (row : Row)
      → stored_keeps s bs l row (s.known.object_lefts l.field.span.start) ≡ []
  no_stored bs l row =
      let kept : List Keep =
      kept_in (own_cancel s bs (stored_name row.form row.values))
      (unaddressed s.known s.marks (local_named s.known l.object)) l.field.text in
      ap (stored_keeps s bs l row) (lefts l.field.span.start)
      ∙ (ap (λ b. if not l.has_brackets && b then kept else []) (none l.field.text) ∙ neither (not l.has_brackets) kept)

  no_mark : (bs : List BodyPlace) (m : Mark) → keeps_by_mark s bs m ≡ []
  no_mark bs (mentions m) =
      let x = holder s (declared_by s.known m) in flat_none (kept_element s bs x) (no_element bs x) (role_fields m.role)
  no_mark bs (of_fields site (writes_field l (Some a))) = no_stored bs l a.row
  no_mark bs (of_fields site (writes_field l None)) = refl
  no_mark bs (of_fields site (calls_field f)) = refl
  no_mark bs (of_fields site (hands_over taker e)) = refl
  no_mark bs (of_fields site (hands_literal taker at)) = refl
  no_mark bs (of_fields site (renews number)) = refl
  no_mark bs (of_fields site imports_all) = refl
  no_mark bs (runs_literal moment site at) = refl
  no_mark bs (returns at es) = refl
  no_mark bs (opens b) = refl
  no_mark bs closes = refl

  no_keeps : (bs : List BodyPlace) (m : Mark) → keeps_there s bs m ≡ []
  no_keeps bs m = ap (filter (λ k. is_some (object_kind_of s bs k.object))) (no_mark bs m)

  no_kept : kept_of s ≡ []
  no_kept =
      ap (λ ks. by_variable (filter (belongs s) ks))
      (flat_none (λ p. keeps_there s p.bodies p.mark) (λ p. no_keeps p.bodies p.mark) s.marks)

  no_there : (bs : List BodyPlace) (x : Option ℕ) → kept_there s bs x ≡ []
  no_there bs None = refl
  no_there bs (Some x) = ap (filter (λ k. (k.object == x) && is_of_body bs (found s (Some x)))) no_kept

  no_carried : (bs : List BodyPlace) (e : Element) → carried s bs e ≡ None
  no_carried bs e = ap (λ b. if b then field_value s bs e else None) (none e.field)

  no_keep_events : (bs : List BodyPlace) (m : Mark) → keep_events s bs m ≡ []
  no_keep_events bs m =
      ap (λ ks. flat_map (λ k. keep_event (object_kind_of s bs k.object) k) (filter (belongs s) ks)) (no_keeps bs m)

  no_gift : (bs : List BodyPlace) (g : Gift) → gift_events s bs g ≡ []
  no_gift bs (named_gift n) = ap give_all (no_there bs (local_named s.known (Some n)))
  no_gift bs (element_gift e) = ap given_field (no_carried bs e)

  no_renewed : (bs : List BodyPlace) (x : Option ℕ) → renew_all (kept_there s bs x) ≡ []
  no_renewed bs x = ap renew_all (no_there bs x)

  -- No event is about an object.

  no_calls : (bs : List BodyPlace) (m : Mention) (selected : Option (List ℕ)) (c : Call)
      → field_calls s bs m selected c ≡ []
  no_calls bs m None c = refl
  no_calls bs m (Some f) c = ap (flat_map (field_call s f c)) (no_there bs (variable_of s.known m))

  no_declared : (bs : List BodyPlace) (m : Mention) → declared_events s bs m ≡ []
  no_declared bs m =
      λ i. no_renewed bs (declared_at_name m.named.at (declared_by s.known m)) i ++ no_keep_events bs (mentions m) i

  no_role : (bs : List BodyPlace) (m : Mention) (r : Role) → role_events s bs m r ≡ []
  no_role bs m (called c) = no_calls bs m m.named.selected c
  no_role bs m (left k row) = no_declared bs m
  no_role bs m exposed = no_declared bs m
  no_role bs m _ = refl

  pub no_objects : (bs : List BodyPlace) (m : Mark) → object_part s bs m ≡ []
  no_objects bs (mentions m) = no_role bs m m.role
  no_objects bs (of_fields site (calls_field f)) = refl
  no_objects bs (of_fields site (writes_field l None)) = refl
  no_objects bs (of_fields site (writes_field l (Some a))) =
      let mark : Mark = of_fields site (writes_field l (Some a)) in
      ap (written_events s bs mark l a) (lefts l.field.span.start) ∙ no_keep_events bs mark
  no_objects bs (of_fields site (hands_over taker e)) =
      either (takes_it s.known taker) _ (flat_none (gift_events s bs) (no_gift bs) (gifts missing_expression e))
  no_objects bs (of_fields site (hands_literal taker at)) =
      either (takes_it s.known taker) _
      (flat_none (λ x. give_all (kept_there s bs (Some x))) (λ x. ap give_all (no_there bs (Some x)))
      (first_mentions (in_order_of_place (mentioned_in s at))))
  no_objects bs (of_fields site (renews number)) = no_renewed bs (Some number)
  no_objects bs (of_fields site imports_all) = refl
  no_objects bs (runs_literal moment site at) = refl
  no_objects bs (returns at es) = refl
  no_objects bs (opens b) = refl
  no_objects bs closes = refl

  no_handed_gift : (bs : List BodyPlace) (k : ℕ) (g : Gift) → handed_gift s bs k g ≡ []
  no_handed_gift bs k (named_gift n) =
      ap (map (λ q. record { number = q.variable; position = k; object = Some q.object }))
      (no_there bs (local_named s.known (Some n)))
  no_handed_gift bs k (element_gift e) = ap (handed_field k) (no_carried bs e)

  pub no_handed : (bs : List BodyPlace) (k : ℕ) (e : Expression) → handed_in_fields s bs k e ≡ []
  no_handed bs k e = flat_none (handed_gift s bs k) (no_handed_gift bs k) (gifts missing_expression e)

  -- No field is told.

  no_carried_name : (bs : List BodyPlace) (e : Element) → carried_field s bs e ≡ []
  no_carried_name bs e = ap (field_of_obtained s e.field) (no_carried bs e)

  no_obtained : (m : Mark) → obtained_fields s m ≡ []
  no_obtained (of_fields site (writes_field l (Some a))) =
      ap (λ o. if is_some o then l.field.text ∷ [] else []) (lefts l.field.span.start)
  no_obtained (of_fields site (writes_field l None)) = refl
  no_obtained (of_fields site (calls_field f)) = refl
  no_obtained (of_fields site (hands_over taker e)) = refl
  no_obtained (of_fields site (hands_literal taker at)) = refl
  no_obtained (of_fields site (renews number)) = refl
  no_obtained (of_fields site imports_all) = refl
  no_obtained (mentions m) = refl
  no_obtained (runs_literal moment site at) = refl
  no_obtained (returns at es) = refl
  no_obtained (opens b) = refl
  no_obtained closes = refl

  pub no_names : (bs : List BodyPlace) (m : Mark) → fields_kept_there s bs m ≡ []
  no_names bs m = λ i.
      map (λ k. k.field) (filter (λ k. belongs s k && is_obtained_in s k.variable) (no_keeps bs m i))
      ++ (no_obtained m i ++ flat_none (carried_field s bs) (no_carried_name bs) (given_elements s m) i)

-- a file that was looked at
module _ (seen : KeptSeen) (sees : Sees seen) (none : some_keep (seen_view seen).known.fields ≡ false) where
  fields_there : (f : List ℕ) → has_field (seen_view seen).known.fields f ≡ false
  fields_there = no_fields (seen_view seen).known.fields none

  lefts_there : (at : ℕ) → (seen_view seen).known.object_lefts at ≡ None
  lefts_there =
      no_left (seen_view seen).known (seen_view seen).marks
      fields_there sees.lefts

  pub seen_no_objects : (bs : List BodyPlace) (m : Mark) → object_part (seen_view seen) bs m ≡ []
  seen_no_objects = no_objects (seen_view seen) fields_there lefts_there

  pub seen_no_handed : (bs : List BodyPlace) (k : ℕ) (e : Expression) → handed_in_fields (seen_view seen) bs k e ≡ []
  seen_no_handed = no_handed (seen_view seen) fields_there lefts_there

  pub seen_no_names : (bs : List BodyPlace) (m : Mark) → fields_kept_there (seen_view seen) bs m ≡ []
  seen_no_names = no_names (seen_view seen) fields_there lefts_there
