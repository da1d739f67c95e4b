-- Frames that do nothing, while others act, keep what is said of the groups that they made.
use Rattle.std.proofs.Common.{◌≡◌, ℕ, ◌<◌, ◌≤◌, ◌⊎◌, inl, inr, List, [], ◌∷◌, length, sym, ◌∙◌, arith}
use Rattle.meaning.specs.Classes.{Promises}
use Rattle.meaning.specs.BodyEvents.{Variable}
use Rattle.meaning_runs.specs.Bodies.{Program}
use Rattle.meaning_runs.specs.World.{Maker, frame_at, Place, Store, HasNoMember, Saved, Frame, held_group}
use Rattle.meaning_runs.proofs.Remembered.{Origins, Past}
use Rattle.meaning_runs.proofs.Holders.{Grows, IsHolder, AreHolders}
use Rattle.meaning_runs.proofs.HolderFrames.{still_holds}
use Rattle.meaning_runs.proofs.MadeGroups.{SavesWait, by_wait, by_literal, IsOver, MustWait, IsLive, IsSettled, is_over, is_saved, is_above, IsGone, is_gone, is_live, IsActive, active_saved, active_live, IsSeenOver, MayAlso, AreSeenOver}
use Rattle.meaning_runs.proofs.StoreGrowth.{frame-nobody, outside_grows, counts_more}

module _ {at : Maker} {o after_o : Origins} {s after : Store} (grows : Grows at o after_o s after) where
  pub saves_grow : (a : ℕ) (x : Saved) → SavesWait o s a x → SavesWait after_o after a x
  saves_grow a x (by_wait e) = by_wait e
  saves_grow a x (by_literal c v k waits e l frozen h) =
      by_literal c v k waits e (counts_more at o after_o s after grows k l) (grows.same_frozen k l ∙ frozen)
      (grows.same_holds k v.number l (inl frozen) ∙ h)

  pub gone_grows : (a : ℕ) → IsGone o a → IsGone after_o a
  gone_grows a h = record {
    root = h.root;
    has_gone = grows.still_gone h.has_gone;
    is_begun = grows.more_begun h.root h.is_begun;
    literal = h.literal;
    variable = h.variable;
    is_body = h.is_body;
    waits_for = h.waits_for;
    is_lent = h.is_lent;
  }

  -- a group that is over stays so, where it gets no member and no more frames can start work in it
  pub over_grows : (place : Place) (may may_now : ℕ → Type 0) (a : ℕ) → s.maker a ≡ frame_at place
      → (HasNoMember s a → HasNoMember after a)
      → (may_now a → may a)
      → IsOver s may a
      → IsOver after may_now a
  over_grows place may may_now a made none still over = record {
    has_no_member = none over.has_no_member;
    has_ended = λ context e. grows.ended context
        (over.has_ended context (sym (grows.same_context a (λ no. frame-nobody place (sym made ∙ no))) ∙ e));
    is_untouched = λ x. over.is_untouched (still x);
  }

  pub live_grows : (relies : Promises) (q : Past) (f : Frame) (v : Variable) (a : ℕ)
      → held_group after f v.number ≡ held_group s f v.number
      → IsLive relies s q f v a
      → IsLive relies after q f v a
  live_grows relies q f v a same h = record { code = h.code; stage = h.stage; is_live = h.is_live; is_held = same ∙ h.is_held }

-- What the step leaves alone of goroutine g below a height: it acts elsewhere, starts no work in a group that one of
-- these frames made, unless a frame above could, and makes no group in their name.
pub record LeavesAlone
    (at : Maker) (o after_o : Origins) (s after : Store) (g height : ℕ) (may may_now : ℕ → Type 0)
    : Type 0 where
  pub grows : Grows at o after_o s after
  pub elsewhere : (m : ℕ) → m < height → frame_at (g, m) ≡ at → ⊥
  pub no_member : (a m : ℕ) → s.maker a ≡ frame_at (g, m) → m < height → (may a → ⊥) → HasNoMember s a → HasNoMember after a
  pub still_may : (a m : ℕ) → s.maker a ≡ frame_at (g, m) → m < height → may_now a → may a
  pub made_before : (a m : ℕ) → after.maker a ≡ frame_at (g, m) → m < height → s.maker a ≡ frame_at (g, m)

-- what the frame just above was to wait for it still is, or that is over, or a goroutine waits for it
abbrev pub StillMust : Origins → Store → Store → ℕ → ℕ → (ℕ → Type 0) → (ℕ → Type 0) → (ℕ → Type 0) → Type 0
StillMust after_o s after g height may_now must must_now = (a m : ℕ) → s.maker a ≡ frame_at (g, m)
    → m < height
    → must a
    → must_now a ⊎ (IsOver after may_now a ⊎ IsGone after_o a)

module _ (p : Program) (at : Maker) (o after_o : Origins) (s after : Store) (g height : ℕ) where
  module _ (may may_now must must_now : ℕ → Type 0)
      (alone : LeavesAlone at o after_o s after g height may may_now)
      (still : StillMust after_o s after g height may_now must must_now)
      (n : ℕ) (q : Past) (f : Frame) (low : n < height) (it : IsHolder p o s (g, n) q f) where
    same : (v : ℕ) → held_group after f v ≡ held_group s f v
    same v = still_holds at o after_o s after alone.grows p (g, n) q f (alone.elsewhere n low) it v

    settled_stands : (relies : Promises) (v : Variable) (a m : ℕ) → s.maker a ≡ frame_at (g, m) → m < height
        → IsSettled relies o s may must q f v a
        → IsSettled relies after_o after may_now must_now q f v a
    settled_stands relies v a m e l (is_over h) =
        is_over (over_grows alone.grows (g, m) may may_now a e (alone.no_member a m e l h.is_untouched) (alone.still_may a m e l) h)
    settled_stands relies v a m e l (is_saved x c w) = is_saved x c (saves_grow alone.grows a x w)
    settled_stands relies v a m e l (is_above h) = elim (still a m e l h) [
      | inl y ↦ is_above y
      | inr y ↦ elim y [ inl x ↦ is_over x | inr x ↦ is_gone x ]
    ]
    settled_stands relies v a m e l (is_gone h) = is_gone (gone_grows alone.grows a h)
    settled_stands relies v a m e l (is_live h) = is_live (live_grows alone.grows relies q f v a (same v.number) h)

    active_stands : (relies : Promises) (v : Variable) (a : ℕ) → IsActive relies o s q f v a → IsActive relies after_o after q f v a
    active_stands relies v a (active_saved x c w) = active_saved x c (saves_grow alone.grows a x w)
    active_stands relies v a (active_live h) = active_live (live_grows alone.grows relies q f v a (same v.number) h)

    seen_stands : IsSeenOver p o s (g, n) may must q f → IsSeenOver p after_o after (g, n) may_now must_now q f
    seen_stands seen = record {
      made = λ relies a none c. let r = seen.made relies a none c in
          (r.0, r.1, settled_stands relies r.0 a n (it.made a c) low r.2);
      waits = λ relies v a m w e made l. let was = alone.made_before a m made (omega (arith, l, low)) in
          settled_stands relies v a m was (omega (arith, l, low)) (seen.waits relies v a m w e was l);
      apart = λ v a b w e lent. outside_grows at o after_o s after alone.grows b (seen.apart v a b w e lent);
      awaits = λ relies c v a up among kind stage class h.
          let r = seen.awaits relies c v a up among kind stage class (sym (same v.number) ∙ h) in
          (r.0, r.1, saves_grow alone.grows a r.0 r.2);
      lent_active = λ relies passing y a none w c e made.
          let r = seen.lent_active relies passing y a none w c e made in
          (r.0, r.1, active_stands relies r.0 a r.2);
      unmade_yet = λ relies v own class. same v.number ∙ seen.unmade_yet relies v own class;
    }

  -- all of a stack, from some height down
  pub all_stand : (may may_now must must_now : ℕ → Type 0) (fs : List Frame) (qs : List Past)
      → LeavesAlone at o after_o s after g height may may_now
      → StillMust after_o s after g height may_now must must_now
      → length fs ≤ height
      → AreHolders p o s g fs qs
      → AreSeenOver p o s g may must fs qs
      → AreSeenOver p after_o after g may_now must_now fs qs
  all_stand may may_now must must_now [] qs alone still low it seen = tt
  all_stand may may_now must must_now (f ∷ fs) [] alone still low it seen = absurd seen
  all_stand may may_now must must_now (f ∷ fs) (q ∷ qs) alone still low it seen = (
    seen_stands may may_now must must_now alone still (length fs) q f (omega (arith, low)) it.0 seen.0,
    all_stand (MayAlso f.body q.lent may) (MayAlso f.body q.lent may_now) (MustWait f.body q.lent)
        (MustWait f.body q.lent) fs qs below (λ a m e l x. inl x) (omega (arith, low)) it.1 seen.1,
  )
    where
      below : LeavesAlone at o after_o s after g height (MayAlso f.body q.lent may) (MayAlso f.body q.lent may_now)
      below = record {
        grows = alone.grows;
        elsewhere = alone.elsewhere;
        no_member = λ a m e l un. alone.no_member a m e l (λ x. un (inr x));
        still_may = λ a m e l x. elim x [ inl y ↦ inl y | inr y ↦ inr (alone.still_may a m e l y) ];
        made_before = alone.made_before;
      }
