-- Who made a group is known backward too: what a frame does gives no other frame a group, nor does what is outside.
use Rattle.std.proofs.Common.{◌≡◌, ℕ, ◌⊎◌, inl, inr, List, Option, refl, sym, ap, ◌∙◌}
use Rattle.std.proofs.lemmas.Bool.{cases_eq}
use Rattle.meaning_runs.specs.Bodies.{Program}
use Rattle.meaning_runs.specs.World.{Maker, outside, frame_at, Place, Store, put_at, calling, with_group, waiting_for, Passing, Frame, held, held_group, kept_value}
use Rattle.meaning_runs.specs.Steps.{Begins, of_function, of_none, Acts, moves_on, does_other, obtains_one, clears_one, calls_one, saves_call, makes_group, tries_nothing, ends_wait, saves_wait, evaluates, evaluates_deferred, lends, makes_call, calls_outside, saves_pass, saves_literal, comes_to_return, runs_call, runs_pass, runs_literal, runs_wait, returns_now, obtains_into, keeps_one, renews_object, calls_kept, saves_kept, gives_object, gives_in_field}
use Rattle.meaning_runs.proofs.Contexts.{put_at-same, put_at-other}
use Rattle.meaning_runs.proofs.StoreGrowth.{outside-frame, same_frame, ChangesContexts, calling_changes, waiting_changes}
use Rattle.meaning_runs.proofs.HolderSteps.{obtaining_changes, making_changes}

-- what a call does makes no group
begins_maker_back : (p : Program) (s : Store) (f : Frame) (passing : Passing) (after : Store) (new : List Frame)
    → Begins p s f passing after new
    → after.maker ≡ s.maker
begins_maker_back p s f passing after new (of_function b values groups is fits) = refl
begins_maker_back p s f passing after new (of_none no_body holds) = refl

module _ (p : Program) (s : Store) (place : Place) (f : Frame) where
  same_makers : (after : Store) → ChangesContexts s after → (a : ℕ) (r : Place) → after.maker a ≡ frame_at r
      → s.maker a ≡ frame_at r
  same_makers after changes a r e = sym (ap (λ (m : ℕ → Maker). m a) changes.same_maker) ∙ e

  made_back : (t : Store) (context : Option ℕ) → ChangesContexts s t → (a : ℕ) (r : Place)
      → (with_group t (frame_at place) context).maker a ≡ frame_at r
      → (r ≡ place → ⊥)
      → s.maker a ≡ frame_at r
  made_back t context changes a r e elsewhere = by_number (cases_eq a t.group_count)
    where
      by_number : (a ≡ t.group_count) ⊎ (a ≡ t.group_count → ⊥) → s.maker a ≡ frame_at r
      by_number (inl same) =
          absurd (elsewhere (same_frame r place (sym e ∙ ap (put_at t.maker t.group_count (frame_at place)) same
          ∙ put_at-same t.maker t.group_count (frame_at place))))
      by_number (inr ne) =
          same_makers t changes a r (sym (put_at-other t.maker t.group_count (frame_at place) a ne) ∙ e)

  -- what the frame at the place does gives no frame elsewhere a group
  pub is_maker_back : (after : Store) (frames : List Frame) → Acts p s place f after frames
      → (a : ℕ) (r : Place)
      → after.maker a ≡ frame_at r
      → (r ≡ place → ⊥)
      → s.maker a ≡ frame_at r
  is_maker_back after frames (moves_on d) a r e elsewhere = e
  is_maker_back after frames (does_other d) a r e elsewhere = e
  is_maker_back after frames (obtains_one {c = c} {value = value} {made = made} d gives) a r e elsewhere =
      same_makers made (obtaining_changes s made c value gives) a r e
  is_maker_back after frames (clears_one d) a r e elsewhere = e
  is_maker_back after frames (obtains_into {c = c} {value = value} {made = made} d gives) a r e elsewhere =
      same_makers made (obtaining_changes s made c value gives) a r e
  is_maker_back after frames (keeps_one d) a r e elsewhere = e
  is_maker_back after frames (renews_object d) a r e elsewhere = e
  is_maker_back after frames (calls_kept {v = v} {x = x} d) a r e elsewhere =
      let value = kept_value f.kept v x in
      same_makers (calling s value) (calling_changes s value) a r e
  is_maker_back after frames (saves_kept d) a r e elsewhere = e
  is_maker_back after frames (gives_object d) a r e elsewhere = e
  is_maker_back after frames (gives_in_field d) a r e elsewhere = e
  is_maker_back after frames (calls_one {v = v} d) a r e elsewhere =
      same_makers (calling s (held s f v)) (calling_changes s (held s f v)) a r e
  is_maker_back after frames (saves_call d) a r e elsewhere = e
  is_maker_back after frames (makes_group {state = state} {context = context} {made = made} d makes) a r e elsewhere =
      made_back made context (making_changes s made state context makes) a r e elsewhere
  is_maker_back after frames (tries_nothing d) a r e elsewhere = e
  is_maker_back after frames (ends_wait {v = v} d ends) a r e elsewhere =
      same_makers (waiting_for s (held_group s f v)) (waiting_changes s (held_group s f v)) a r e
  is_maker_back after frames (saves_wait d) a r e elsewhere = e
  is_maker_back after frames (evaluates d joins) a r e elsewhere = e
  is_maker_back after frames (evaluates_deferred d joins) a r e elsewhere = e
  is_maker_back after frames (lends d joins) a r e elsewhere = e
  is_maker_back after frames (makes_call {passing = passing} {new = new} way now begins) a r e elsewhere =
      sym (ap (λ (m : ℕ → Maker). m a) (begins_maker_back p s f passing after new begins)) ∙ e
  is_maker_back after frames (calls_outside {x = x} way gets) a r e elsewhere =
      same_makers (calling s x.value) (calling_changes s x.value) a r e
  is_maker_back after frames (saves_pass way later) a r e elsewhere = e
  is_maker_back after frames (saves_literal b d is_in is_at) a r e elsewhere = e
  is_maker_back after frames (comes_to_return d) a r e elsewhere = e
  is_maker_back after frames (runs_call {value = value} r0) a r e elsewhere =
      same_makers (calling s value) (calling_changes s value) a r e
  is_maker_back after frames (runs_pass {passing = passing} {new = new} r0 begins) a r e elsewhere =
      sym (ap (λ (m : ℕ → Maker). m a) (begins_maker_back p s f passing after new begins)) ∙ e
  is_maker_back after frames (runs_literal values groups r0 foreign) a r e elsewhere = e
  is_maker_back after frames (runs_wait {group = group} r0 ends) a r e elsewhere =
      same_makers (waiting_for s group) (waiting_changes s group) a r e
  is_maker_back after frames (returns_now ended) a r e elsewhere = e

-- nor does what is outside
pub outside_maker_back : (s : Store) (context : Option ℕ) (a : ℕ) (r : Place)
    → (with_group s outside context).maker a ≡ frame_at r
    → s.maker a ≡ frame_at r
outside_maker_back s context a r e = by_number (cases_eq a s.group_count)
  where
    by_number : (a ≡ s.group_count) ⊎ (a ≡ s.group_count → ⊥) → s.maker a ≡ frame_at r
    by_number (inl same) =
        absurd (outside-frame r (sym (put_at-same s.maker s.group_count outside)
        ∙ ap (put_at s.maker s.group_count outside) (sym same) ∙ e))
    by_number (inr ne) = sym (put_at-other s.maker s.group_count outside a ne) ∙ e
