-- A file as it is looked at, and as it is seen by what is known of it then.
use Rattle.std.proofs.Common.{◌≡◌, ℕ, Bool, true, false, ◌&&◌, not, if◌then◌else◌, List, [], ◌∷◌, ◌++◌, Option, Some, None, flat_map, refl, sym, ap, ◌∙◌, subst}
use Rattle.meaning.specs.Mentions.{BodyPlace, calls_field, writes_field, hands_over, hands_literal, renews, imports_all, Mark, mentions, of_fields, runs_literal, returns, opens, closes}
use Rattle.meaning.specs.Tracked.{Known, some_keep, ObjectLeft, row_giving, Placed, Local, locals_of}
use Rattle.meaning.specs.Objects.{unaddressed, ObjectRow, local_named, object_in, object_row, type_at, object_rows_there, object_rows, object_left, field_locals}
use Rattle.meaning.specs.Uses.{Seen, seen_with}
use Rattle.tracked.specs.declared.unbound.Objects.{Objects}
use Rattle.tracked.specs.LocalViews.{seen_by, HasObjects, HasLefts}
use Rattle.tracked_rows.proofs.KeepingFields.{none_keep}
use Rattle.objects.specs.ObjectViews.{with_lefts}
use Rattle.objects.proofs.SameButLefts.{locals-same, rows-same, unbound-same}

-- where no field keeps, no row obtains into one

not_there : (b : Bool) → (b && false) ≡ false
not_there true = refl
not_there false = refl

module _ (known : Known) (none : some_keep known.fields ≡ false) (ps : List Placed) where
  no_row : (bs : List BodyPlace) (m : Mark) → object_rows_there known ps bs m ≡ []
  no_row bs (of_fields site (writes_field l (Some a))) =
      ap (λ t. if t
      then object_row bs l.field (local_named known l.object)
      (object_in known ps bs (unaddressed known ps (local_named known l.object)))
      (type_at a.left_side (row_giving known a.row))
      else [])
      (ap (λ t. not l.has_brackets && t) (none_keep known.fields none l.field.text) ∙ not_there (not l.has_brackets))
  no_row bs (of_fields site (writes_field l None)) = refl
  no_row bs (of_fields site (calls_field f)) = refl
  no_row bs (of_fields site (hands_over taker e)) = refl
  no_row bs (of_fields site (hands_literal taker at)) = refl
  no_row bs (of_fields site (renews number)) = refl
  no_row bs (of_fields site imports_all) = refl
  no_row bs (mentions m) = refl
  no_row bs (runs_literal moment site at) = refl
  no_row bs (returns at es) = refl
  no_row bs (opens b) = refl
  no_row bs closes = refl

  abbrev none_there : Placed → List ObjectRow
  none_there p = []

  nothing : (qs : List Placed) → flat_map none_there qs ≡ []
  nothing [] = refl
  nothing (q ∷ qs) = nothing qs

  pub no_rows : object_rows known ps ≡ []
  no_rows = (λ i. flat_map (λ (p : Placed). no_row p.bodies p.mark i) ps) ∙ nothing ps

-- what is known with these left sides, and the rows that they are of
module _ (known other : Known) (lefts : ℕ → Option ObjectLeft) (is : other ≡ with_lefts known lefts) (ps : List Placed)
    (rows : List ObjectRow) (same : rows ≡ object_rows known ps) (left : (at : ℕ) → lefts at ≡ object_left rows rows at)
  where
    abbrev seen_of : Known → List Local → Seen
    seen_of known ls = record { known = known; marks = ps; locals = ls }

    -- as the definition sees it
    pub seen_same : seen_by other ps ≡ seen_with known ps (object_rows known ps)
    seen_same =
        ap (λ (k : Known). seen_by k ps) is
        ∙ (λ i. seen_of (with_lefts known (λ at. left at i))
        (locals-same known lefts ps i ++ field_locals (rows-same known lefts ps i) (rows-same known lefts ps i)))
        ∙ ap (λ (rs : List ObjectRow). seen_of (with_lefts known (object_left rs rs))
        (locals_of known ps ++ field_locals (object_rows known ps) (object_rows known ps))) same

    pub rows_still : rows ≡ object_rows other ps
    rows_still = same ∙ sym (rows-same known lefts ps) ∙ ap (λ (k : Known). object_rows k ps) (sym is)

    lefts_there : HasLefts (with_lefts known lefts) ps
    lefts_there = λ at.
        left at ∙ ap (λ (rs : List ObjectRow). object_left rs rs at) (same ∙ sym (rows-same known lefts ps))

    pub lefts_still : HasLefts other ps
    lefts_still = subst (λ (k : Known). HasLefts k ps) (sym is) lefts_there

    objects_there : (objects : Objects) → HasObjects objects known ps → HasObjects objects (with_lefts known lefts) ps
    objects_there objects has = λ n. has n ∙ unbound-same known lefts ps n

    pub objects_still : (objects : Objects) → HasObjects objects known ps → HasObjects objects other ps
    objects_still objects has = subst (λ (k : Known). HasObjects objects k ps) (sym is) (objects_there objects has)
