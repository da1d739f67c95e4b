-- Frames that can start work in groups: one that binds a variable, and one that begins.
use Rattle.std.proofs.Common.{◌≡◌, ℕ, ◌+◌, ◌<◌, ◌⊎◌, inl, inr, Bool, true, false, cond, List, Option, Some, None, Contains, refl, sym, ap, ◌∙◌, subst, arith}
use Rattle.std.proofs.lemmas.Bool.{true≢false, false≢true, cases_eq, cases_Bool}
use Rattle.std.proofs.lemmas.Option.{none-some, same_Some}
use Rattle.meaning.specs.Code.{Code}
use Rattle.meaning.specs.Lists.{Lists}
use Rattle.meaning.specs.Uses.{VariableAt, Event}
use Rattle.meaning.proofs.Membership.{contains_nil}
use Rattle.meaning_runs.specs.Bodies.{Program, Body, IsOf, code_of, is_parameter_of, is_captured_by}
use Rattle.meaning_runs.specs.World.{Value, nobody, frame_at, Place, Store, put_at, with_cells, saved_pass, saved_literal, runs, Frame, group_in_cell, held_group, is_declaration, cell_or, bound_cell, new_frame}
use Rattle.meaning_runs.specs.Steps.{ComesTo}
use Rattle.meaning_runs.proofs.Contexts.{put_at-same, put_at-other}
use Rattle.meaning_runs.proofs.GroupDuties.{is_mentioned}
use Rattle.meaning_runs.proofs.GroupHomes.{home_in}
use Rattle.meaning_runs.proofs.Places.{runs-inj}
use Rattle.meaning_runs.proofs.WhoStarts.{is_declared_in, BodiesAreWellUsed}
use Rattle.meaning_runs.proofs.Remembered.{Origins, Past, written, with_block, behind, no_past}
use Rattle.meaning_runs.proofs.Holders.{Grows, IsFrom, IsHolder}
use Rattle.meaning_runs.proofs.StoreGrowth.{with_contents, IsWritable, is_new, is_own, is_below, writing_grows, block_grows, in_group_grows}
use Rattle.meaning_runs.proofs.HolderFrames.{declared_no_parameter, declared_not_captured, from_grows, apart_grows, at_rest, path_behind}

-- A frame that binds

module _ (p : Program) (o : Origins) (s : Store) (place : Place) (q : Past) (f : Frame) (it : IsHolder p o s place q f)
    (u : VariableAt) (own : is_declared_in f.body u.number ≡ true) where
  -- the block that the binding writes is the frame's to write
  pub bound_is_writable : (is_mentioned f.body.file u.number ≡ true → is_declaration u ≡ true)
      → IsWritable o s place f.body u.number (bound_cell s f u)
  bound_is_writable once = by (is_declaration u) (f.newest u.number) refl refl
    where
      Writable : ℕ → Type 0
      Writable k = IsWritable o s place f.body u.number k

      by : (b : Bool) (newest : Option ℕ) → is_declaration u ≡ b → f.newest u.number ≡ newest
          → Writable (cond b s.cell_count (cell_or s.cell_count newest))
      by true newest d e = is_new
      by false None d e = is_new
      by false (Some k) d e =
          let r = it.own_cells u.number k own e in
          is_own (it.cells_in u.number k e) r.0 r.1 (elim (cases_Bool (is_mentioned f.body.file u.number)) [
            | inl shared ↦ absurd (false≢true (sym d ∙ once shared))
            | inr free ↦ free
          ])

  module _ (k : ℕ) (writable : IsWritable o s place f.body u.number k) (cells : ℕ → ℕ → Value)
      (holds : ℕ → ℕ → Option ℕ)
      (values : (j : ℕ) → (j ≡ k → ⊥) → cells j ≡ s.cells j)
      (groups : (j : ℕ) → (j ≡ k → ⊥) → holds j ≡ s.holds j)
      (others : (j v : ℕ) → (v ≡ u.number → ⊥) → holds j v ≡ s.holds j v)
    where
      abbrev after : Store
      after = with_contents s cells holds

      abbrev now : Origins
      now = written o place f.body k u.number

      pub binding_grows : Grows (frame_at place) o now s after
      binding_grows = writing_grows o s place f.body u.number k cells holds values groups writable

      -- what other variables hold
      other_group : (v : ℕ) → (v ≡ u.number → ⊥)
          → group_in_cell after v (put_at f.newest u.number (Some k) v) ≡ held_group s f v
      other_group v ne =
          ap (group_in_cell after v) (put_at-other f.newest u.number (Some k) v ne) ∙ as_before (f.newest v)
        where
          as_before : (c : Option ℕ) → group_in_cell after v c ≡ group_in_cell s v c
          as_before None = refl
          as_before (Some j) = others j v ne

      its_group : (v : ℕ) → v ≡ u.number → group_in_cell after v (put_at f.newest u.number (Some k) v) ≡ holds k
          u.number
      its_group v e =
          ap (λ w. group_in_cell after w (put_at f.newest u.number (Some k) w)) e
          ∙ ap (group_in_cell after u.number) (put_at-same f.newest u.number (Some k))

      its_cell : (v j : ℕ) → v ≡ u.number → put_at f.newest u.number (Some k) v ≡ Some j → k ≡ j
      its_cell v j e n =
          same_Some k j
          (sym (ap (put_at f.newest u.number (Some k)) e ∙ put_at-same f.newest u.number (Some k)) ∙ n)

      other_cell : (v j : ℕ) → (v ≡ u.number → ⊥) → put_at f.newest u.number (Some k) v ≡ Some j → f.newest v ≡ Some j
      other_cell v j ne n = sym (put_at-other f.newest u.number (Some k) v ne) ∙ n

      module _ (e : Event) (rest : Code Event) (d : ComesTo f e rest) (obtained made : List ℕ) where
        abbrev bound : Frame
        bound = record f {
          newest = put_at f.newest u.number (Some k);
          stage = runs rest;
          obtained = obtained;
          made =
              made;
        }

        cell_in : (v j : ℕ) → bound.newest v ≡ Some j → (v ≡ u.number) ⊎ (v ≡ u.number → ⊥) → j < s.cell_count + 1
        cell_in v j n (inl same) =
            subst (λ i. i < s.cell_count + 1) (its_cell v j same n) (is_below o s place f.body u.number k writable)
        cell_in v j n (inr ne) = let l = it.cells_in v j (other_cell v j ne n) in omega (arith, l)

        own_cell : (v j : ℕ) → is_declared_in f.body v ≡ true → bound.newest v ≡ Some j
            → (v ≡ u.number) ⊎ (v ≡ u.number → ⊥)
            → (now.owner j ≡ frame_at place) × (now.is_frozen j ≡ is_mentioned f.body.file v)
        own_cell v j declared n (inl same) =
            let i = its_cell v j same n in (
              ap now.owner (sym i) ∙ put_at-same o.owner k (frame_at place),
              ap now.is_frozen (sym i) ∙ put_at-same o.is_frozen k (is_mentioned f.body.file u.number)
                  ∙ ap (is_mentioned f.body.file) (sym same),
            )
        own_cell v j declared n (inr ne) =
            let m = other_cell v j ne n in
            let l = it.cells_in v j m in
            let r = it.own_cells v j declared m in
            (binding_grows.same_owner j l ∙ r.0, binding_grows.same_frozen j l ∙ r.1)

        no_own_cell : (v j : ℕ) → is_declared_in f.body v ≡ false → bound.newest v ≡ Some j
            → (v ≡ u.number) ⊎ (v ≡ u.number → ⊥)
            → now.is_frozen j ≡ true
        no_own_cell v j is_other n (inl same) = absurd (true≢false
            (sym own ∙ ap (is_declared_in f.body) (sym same) ∙ is_other))
        no_own_cell v j is_other n (inr ne) =
            let m = other_cell v j ne n in
            binding_grows.same_frozen j (it.cells_in v j m) ∙ it.other_cells v j is_other m

        pub holder_binding : f.waiting ≡ None
            → (home_in f.body ≡ Some u.number → ⊥)
            → ((a : ℕ) → holds k u.number ≡ Some a → Contains made a)
            → ((a : ℕ) → Contains f.made a → Contains made a)
            → ((a : ℕ) → Contains made a → s.maker a ≡ frame_at place)
            → IsHolder p now after place (behind q d) bound
        holder_binding none no_home new_made old_made all_made = record {
          is_of = it.is_of;
          is_at = at_rest p o s place q f it (behind q d).events rest (path_behind p o s place q f it e rest d);
          none_waits = λ x. none;
          cells_in = λ v j n. cell_in v j n (cases_eq v u.number);
          own_cells = λ v j declared n. own_cell v j declared n (cases_eq v u.number);
          other_cells = λ v j is_other n. no_own_cell v j is_other n (cases_eq v u.number);
          saved_literals = λ c h. apart_grows (frame_at place) o now s after binding_grows p c (it.saved_literals c h);
          saved_lend_none = it.saved_lend_none;
          deferred_lend_none = it.deferred_lend_none;
          lent_from = λ passing y a w. absurd (none-some passing (sym none ∙ w));
          made = all_made;
          own = λ v a declared h. in_made v a declared h (cases_eq v u.number);
          lent = λ v is. other_group v (no_parameter v is) ∙ it.lent v is;
          from = λ a w. from_grows (frame_at place) o now s after binding_grows place a (it.from a w);
          home = λ v a is h. it.home v a is (sym (other_group v (λ same. no_home (is ∙ ap Some same))) ∙ h);
        }
          where
            no_parameter : (v : ℕ) → is_parameter_of f.body v ≡ true → v ≡ u.number → ⊥
            no_parameter v is same =
                true≢false (sym is ∙ ap (is_parameter_of f.body) same ∙ declared_no_parameter f.body u.number own)

            in_made : (v a : ℕ) → is_declared_in f.body v ≡ true → held_group after bound v ≡ Some a
                → (v ≡ u.number) ⊎ (v ≡ u.number → ⊥)
                → Contains made a
            in_made v a declared h (inl same) = new_made a (sym (its_group v same) ∙ h)
            in_made v a declared h (inr ne) = old_made a (it.own v a declared (sym (other_group v ne) ∙ h))

-- A frame that begins

module _ (p : Program) (used : BodiesAreWellUsed p) (o : Origins) (s : Store) (values : ℕ → Value)
    (groups : ℕ → Option ℕ)
    (b : Body) (around : ℕ → Option ℕ) (of : IsOf p b)
    (around_in : (v k : ℕ) → around v ≡ Some k → k < s.cell_count)
    (around_once : (v k : ℕ) → around v ≡ Some k → is_captured_by b v ≡ true → o.is_frozen k ≡ true)
  where
    abbrev pub with_its_cells : Store
    with_its_cells = with_cells s values groups

    abbrev pub begun : Frame
    begun = new_frame s b around

    abbrev around_or_none : Bool → ℕ → Option ℕ
    around_or_none c v = cond c (around v) None

    -- a parameter holds what it was given
    pub parameter_holds : (v : ℕ) → is_parameter_of b v ≡ true → held_group with_its_cells begun v ≡ groups v
    parameter_holds v is =
        ap (λ c. group_in_cell with_its_cells v (cond c (Some s.cell_count) (around_or_none (is_captured_by b v) v))) is
        ∙ ap (λ (c : ℕ → Option ℕ). c v) (put_at-same s.holds s.cell_count groups)

    -- and any other variable what is around the body, if it captures it
    other_newest : (v : ℕ) → is_parameter_of b v ≡ false → begun.newest v ≡ around_or_none (is_captured_by b v) v
    other_newest v is = ap (λ c. cond c (Some s.cell_count) (around_or_none (is_captured_by b v) v)) is

    pub captured_holds : (v : ℕ) → is_parameter_of b v ≡ false → is_captured_by b v ≡ true
        → held_group with_its_cells begun v ≡ group_in_cell s v (around v)
    captured_holds v no_parameter is =
        ap (group_in_cell with_its_cells v) (other_newest v no_parameter ∙ ap (λ c. around_or_none c v) is)
        ∙ in_group_grows nobody o (with_block o s.cell_count) s with_its_cells (block_grows nobody o s values groups) v
        (around v)
        (λ k e. (around_in v k e, inl (around_once v k e is)))

    other_holds_none : (v : ℕ) → is_parameter_of b v ≡ false → is_captured_by b v ≡ false
        → held_group with_its_cells begun v ≡ None
    other_holds_none v no_parameter is =
        ap (group_in_cell with_its_cells v) (other_newest v no_parameter ∙ ap (λ c. around_or_none c v) is)

    declared_has_none : (v : ℕ) → is_declared_in b v ≡ true → begun.newest v ≡ None
    declared_has_none v own =
        other_newest v (declared_no_parameter b v own) ∙ ap (λ c. around_or_none c v) (declared_not_captured b v own)

    cell_within : (v k : ℕ) (c d : Bool) → cond c (Some s.cell_count) (around_or_none d v) ≡ Some k
        → k < s.cell_count + 1
    cell_within v k true d e = let same = same_Some s.cell_count k e in omega (arith, same)
    cell_within v k false true e = let l = around_in v k e in omega (arith, l)
    cell_within v k false false e = absurd (none-some k e)

    cell_once : (v k : ℕ) (c d : Bool) → is_captured_by b v ≡ d
        → cond c (Some s.cell_count) (around_or_none d v) ≡ Some k
        → (with_block o s.cell_count).is_frozen k ≡ true
    cell_once v k true d is e =
        ap (put_at o.is_frozen s.cell_count true) (sym (same_Some s.cell_count k e))
        ∙ put_at-same o.is_frozen s.cell_count true
    cell_once v k false true is e =
        (block_grows nobody o s values groups).same_frozen k (around_in v k e) ∙ around_once v k e is
    cell_once v k false false is e = absurd (none-some k e)

    pub holder_new : (place : Place)
        → ((v a : ℕ) → is_parameter_of b v ≡ true → groups v ≡ Some a → IsFrom with_its_cells place a)
        → ((v a : ℕ) → home_in b ≡ Some v → group_in_cell s v (around v) ≡ Some a → s.member place.0 ≡ Some a)
        → IsHolder p (with_block o s.cell_count) with_its_cells place (no_past o s b values groups around) begun
    holder_new place sources homes = record {
      is_of = of;
      is_at = λ c e u x l. subst (λ (d : Code Event). Lists d u x) (sym (runs-inj (code_of b) c e)) l;
      none_waits = λ e. refl;
      cells_in = λ v k e. cell_within v k (is_parameter_of b v) (is_captured_by b v) e;
      own_cells = λ v k own e. absurd (none-some k (sym (declared_has_none v own) ∙ e));
      other_cells = λ v k is_other e. cell_once v k (is_parameter_of b v) (is_captured_by b v) refl e;
      saved_literals = λ c h. absurd (contains_nil (saved_literal c) h);
      saved_lend_none = λ passing h. absurd (contains_nil (saved_pass passing) h);
      deferred_lend_none = λ passing w. absurd (none-some passing w);
      lent_from = λ passing y a w. absurd (none-some passing w);
      made = λ a h. absurd (contains_nil a h);
      own = λ v a own h. absurd (none-some a (sym (ap (group_in_cell with_its_cells v) (declared_has_none v own)) ∙ h));
      lent = λ v is. parameter_holds v is ∙ sym (given v is);
      from = λ a w. sources w.0 a w.1 (sym (given w.0 w.1) ∙ w.2);
      home = λ v a is h. at_home v a is h (used.home_is_elsewhere b v of is).1 (cases_Bool (is_captured_by b v));
    }
      where
        given : (v : ℕ) → is_parameter_of b v ≡ true → (no_past o s b values groups around).lent v ≡ groups v
        given v is = ap (λ c. cond c (groups v) (group_in_cell s v (around v))) is

        at_home : (v a : ℕ) → home_in b ≡ Some v → held_group with_its_cells begun v ≡ Some a
            → is_parameter_of b v ≡ false
            → (is_captured_by b v ≡ true) ⊎ (is_captured_by b v ≡ false)
            → s.member place.0 ≡ Some a
        at_home v a is h no_parameter (inl c) = homes v a is (sym (captured_holds v no_parameter c) ∙ h)
        at_home v a is h no_parameter (inr c) = absurd (none-some a (sym (other_holds_none v no_parameter c) ∙ h))
