-- What the running frame of a goroutine does keeps who can start work in groups.
use Rattle.std.proofs.Common.{◌≡◌, ℕ, suc, ◌<◌, inl, inr, Bool, true, false, cond, List, [], ◌∷◌, ◌++◌, length, map, Option, Some, None, Contains, refl, sym, ap, ◌∙◌, subst, arith}
use Rattle.std.specs.Prelude.{◌==◌, ◌&&◌, slice_get}
use Rattle.std.proofs.lemmas.Bool.{true≢false, false≢true, cases_Bool, and_from, eq-eqb}
use Rattle.std.proofs.lemmas.Option.{none-some, same_Some}
use Rattle.std.proofs.lemmas.List.Elements.{Contains-append_cases}
use Rattle.meaning.specs.Code.{Code}
use Rattle.meaning.specs.Tracked.{GroupState}
use Rattle.meaning.specs.Uses.{Callee, VariableAt, Event, other, obtain, obtain_kept, renew, keep, call_kept, defer_kept, give, give_field, clear, call, defer_call, pass, defer_pass, lend, try, wait, defer_wait, make, defer_literal, return_event, Seen}
use Rattle.meaning.specs.BodyEvents.{Variable, bodies_of, opened_in}
use Rattle.meaning.proofs.Membership.{contains_here, contains_there, contains_cases, contains_nil}
use Rattle.meaning_packages.specs.PathFaults.{is_declared}
use Rattle.meaning_runs.specs.Bodies.{Program, Body, IsLiteralIn, variables_in, is_parameter_of, is_captured_by, IsRun, IsOf}
use Rattle.meaning_runs.specs.World.{Value, nothing, nobody, outside, frame_at, Place, Store, put_at, calling, with_group, IsOutside, outside_none, outside_group, waiting_for, with_cells, Given, Lent, Passing, Closure, Saved, saved_call, saved_pass, saved_literal, saved_wait, InObject, runs, exits, Frame, group_in_cell, held, held_group, kept_value, without_kept, handed_by, own_cell, is_declaration, cell_or, bound_cell, binding, binding_group, binds, new_frame, nothing_around}
use Rattle.meaning_runs.specs.Steps.{ComesTo, DoesNext, at_code, Obtains, new_one, earlier_one, none_at_all, with_function, Makes, zero_group, with_context, MayJoin, is_first, is_next, joining, Fits, Begins, of_function, of_none, Acts, moves_on, does_other, obtains_one, obtains_into, keeps_one, renews_object, calls_kept, saves_kept, gives_object, gives_in_field, clears_one, calls_one, saves_call, makes_group, tries_nothing, ends_wait, saves_wait, evaluates, evaluates_deferred, lends, makes_call, calls_outside, saves_pass, saves_literal, comes_to_return, runs_call, runs_pass, runs_literal, runs_wait, returns_now}
use Rattle.meaning_runs.proofs.Bindings.{obtains, obtains_into as binds_into, clears, makes}
use Rattle.meaning_runs.proofs.Captured.{any_true}
use Rattle.meaning_runs.proofs.Contexts.{put_at-same, put_at-other}
use Rattle.meaning_runs.proofs.GroupDuties.{is_mentioned}
use Rattle.meaning_runs.proofs.GroupHomes.{home_in}
use Rattle.meaning_runs.proofs.WhoStarts.{is_declared_in, IsOwnGroup, IsGroupParameter, Lendable, own_lent, parameter_lent, BodiesAreWellUsed}
use Rattle.meaning_runs.proofs.Remembered.{Origins, Past, written, with_block, occurrence_of, behind, no_past, origins_begun, pasts_begun, origins_after, pasts_after}
use Rattle.meaning_runs.proofs.Holders.{Grows, IsKnown, IsFrom, from_outside, from_below, IsSource, is_outside, is_made, was_lent, IsApart, IsHolder, AreHolders}
use Rattle.meaning_runs.proofs.StoreGrowth.{frame-nobody, same_frame, ChangesContexts, no_change, new_changes, calling_changes, waiting_changes, contexts_grow, block_grows, group_grows, grows_then, contexts_known, block_known, group_known, writing_known, maker_grows, outside_grows, put_in, put_here}
use Rattle.meaning_runs.proofs.HolderFrames.{holder_with, holder_stands, holders_stand, reached, holder_silent, holder_saving, holder_waiting, holder_behind, holder_returning, holder_called, holder_saved, holder_popping}
use Rattle.meaning_runs.proofs.HolderBindings.{bound_is_writable, binding_grows, holder_binding, holder_new}
use Rattle.meaning_runs.proofs.OwnNumbers.{parameter_number}
use Rattle.meaning_runs.proofs.MarksBeside.{opened_there}
use Rattle.meaning_reports.specs.Loaded.{seen_files}
use Rattle.meaning_packages.proofs.BodyPlaces.{placed_there}

-- Variables by their roles

pub own_is_declared : (b : Body) (x : Variable) (v : ℕ) → IsOwnGroup b x → x.number ≡ v → is_declared_in b v ≡ true
own_is_declared b x v own same =
    any_true (λ (y : Variable). (y.number == v) && is_declared y.role) (variables_in b) x own.is_of_body
    (and_from (x.number == v) (is_declared x.role) (eq-eqb x.number v same) own.is_declared_here)

pub parameter_is_its : (b : Body) (x : Variable) (v : ℕ) → IsGroupParameter b x → x.number ≡ v
    → is_parameter_of b v ≡ true
parameter_is_its b x v own same = parameter_number b x v own.is_of_body own.is_parameter_here same

-- a literal of a body of the program is one of its bodies
pub literal_is_of : (p : Program) (b literal : Body) → IsOf p b → IsLiteralIn b literal → IsOf p literal
literal_is_of p b literal of is =
    record {
      loaded = of.loaded;
      is_package = ap (slice_get p.packages) is.same_home ∙ of.is_package;
      is_run = subst (λ n. IsRun p n) (sym is.same_home) of.is_run;
      is_file = subst (λ f. Contains (seen_files p.packages p.tables of.loaded) f) (sym is.same_file) of.is_file;
      is_body = subst (λ (f : Seen). Contains (bodies_of f) literal.place) (sym is.same_file) (placed_there (opened_in b.file.marks) literal.place (opened_there b.file.marks is.mark literal.place is.is_of_file is.opens_it));
    }

-- a group that a cell holds
pub held_in : (s : Store) (v a : ℕ) (cell : Option ℕ) → group_in_cell s v cell ≡ Some a
    → (k : ℕ) × (cell ≡ Some k) × (s.holds k v ≡ Some a)
held_in s v a None e = absurd (none-some a e)
held_in s v a (Some k) e = (k, refl, e)

-- Groups from outside

pub outside_is : (s : Store) (group : Option ℕ) (a : ℕ) → IsOutside s group → group ≡ Some a → s.maker a ≡ outside
outside_is s group a outside_none e = absurd (none-some a e)
outside_is s group a (outside_group {a = b} is) e = subst (λ c. s.maker c ≡ outside) (same_Some b a e) is

-- Stores before a binding

pub obtaining_changes : (s made : Store) (c : Callee) (value : Value) → Obtains s c value made → ChangesContexts s made
obtaining_changes s made c value (new_one parent earlier) = new_changes s parent
obtaining_changes s made c value (earlier_one a giver l) = no_change s
obtaining_changes s made c value (none_at_all giver) = no_change s

pub making_changes : (s made : Store) (state : GroupState) (context : Option ℕ) → Makes s state context made
    → ChangesContexts s made
making_changes s made state context zero_group = no_change s
making_changes s made state context (with_context parent earlier) = new_changes s parent

-- Arguments of a call under way

joined_none : (w : Option Passing) (c : Callee) (later : Bool) (position : ℕ) (xs : List Given) (ys : List Lent)
    → MayJoin c later position w
    → ((passing : Passing) → w ≡ Some passing → passing.is_deferred ≡ true → passing.lent ≡ [])
    → (later ≡ true → ys ≡ [])
    → (joining w c later xs ys).is_deferred ≡ true
    → (joining w c later xs ys).lent ≡ []
joined_none w c later position xs ys is_first before none e = none e
joined_none w c later position xs ys (is_next {passing = passing} same deferred rising lower) before none e =
    ap (λ (l : List Lent). l ++ passing.lent) (none (sym deferred ∙ e)) ∙ before passing refl e

pub joined_from : (w : Option Passing) (c : Callee) (later : Bool) (position : ℕ) (xs : List Given) (ys : List Lent)
    (P : Lent → Type 0)
    → MayJoin c later position w
    → ((passing : Passing) (y : Lent) → w ≡ Some passing → Contains passing.lent y → P y)
    → ((y : Lent) → Contains ys y → P y)
    → (y : Lent)
    → Contains (joining w c later xs ys).lent y
    → P y
joined_from w c later position xs ys P is_first before new y h = new y h
joined_from w c later position xs ys P (is_next {passing = passing} same deferred rising lower) before new y h =
    elim (Contains-append_cases ys passing.lent y h) [ inl k ↦ new y k | inr k ↦ before passing y refl k ]

module _ (p : Program) (used : BodiesAreWellUsed p) where
  -- the store grew by what the frame did, and with the frames that stand in its place all are holders
  pub record ActsWell (place : Place) (o after_o : Origins) (s after : Store) (stack : List Frame)
      (pasts : List Past) : Type 0 where
    pub grows : Grows (frame_at place) o after_o s after
    pub known : IsKnown after
    pub same_member : (g : ℕ) → after.member g ≡ s.member g
    pub holders : AreHolders p after_o after place.0 stack pasts

  -- what a literal in the body captures there is written once
  pub captured_is_frozen : (o : Origins) (s : Store) (place : Place) (q : Past) (f : Frame) → IsHolder p o s place q f
      → (literal : Body)
      → IsLiteralIn f.body literal
      → (v k : ℕ)
      → f.newest v ≡ Some k
      → is_captured_by literal v ≡ true
      → o.is_frozen k ≡ true
  captured_is_frozen o s place q f it literal is_in v k e captures = elim (cases_Bool (is_declared_in f.body v)) [
    | inl own ↦ (it.own_cells v k own e).1 ∙ used.captured_is_mentioned f.body literal v it.is_of is_in captures
    | inr other_one ↦ it.other_cells v k other_one e
  ]

  -- a literal that the frame evaluates
  pub evaluated_is_apart : (o : Origins) (s : Store) (place : Place) (q : Past) (f : Frame) → IsHolder p o s place q f
      → (b : Body)
      → IsLiteralIn f.body b
      → home_in b ≡ None
      → IsApart p o s record { literal = b; newest = f.newest }
  evaluated_is_apart o s place q f it b is_in no_home = record {
    is_of = literal_is_of p f.body b it.is_of is_in;
    has_no_home = no_home;
    cells_in = it.cells_in;
    cells_once = λ v k e c. captured_is_frozen o s place q f it b is_in v k e c;
  }

  module _ (o : Origins) (s : Store) (g : ℕ) (f : Frame) (others : List Frame) (q : Past) (qs : List Past)
      (known : IsKnown s) (it : IsHolder p o s (g, length others) q f) (below : AreHolders p o s g others qs)
    where
      abbrev place : Place
      place = (g, length others)

      not_itself : frame_at place ≡ nobody → ⊥
      not_itself = frame-nobody place

      lower : (n : ℕ) → n < length others → frame_at (g, n) ≡ frame_at place → ⊥
      lower n l e = let same : n ≡ length others = ap (λ (r : Place). r.1) (same_frame (g, n) place e) in omega
          (arith, l, same)

      stand : (after_o : Origins) (after : Store) → Grows (frame_at place) o after_o s after
          → ((h : ℕ) → after.member h ≡ s.member h)
          → AreHolders p after_o after g others qs
      stand after_o after grows member =
          holders_stand (frame_at place) o after_o s after grows p g others qs lower (λ a e. member g ∙ e) below

      same_members : (after : Store) → ChangesContexts s after → (h : ℕ) → after.member h ≡ s.member h
      same_members after changes h = ap (λ (m : ℕ → Option ℕ). m h) changes.same_member

      -- a frame that stands in this store stands in one that changed in contexts alone
      moved : (after : Store) → ChangesContexts s after → (r : Past) (frame : Frame)
          → IsHolder p o s place r frame
          → IsHolder p o after place r frame
      moved after changes r frame h =
          holder_stands nobody o o s after (contexts_grow nobody o s after changes) p place r frame not_itself
          (λ a e. same_members after changes g ∙ e) h

      goes_on : (after : Store) → ChangesContexts s after → (r : Past) (frame : Frame)
          → IsHolder p o s place r frame
          → ActsWell place o o s after (frame ∷ others) (r ∷ qs)
      goes_on after changes r frame h =
          let grows = contexts_grow (frame_at place) o s after changes in
          record {
            grows = grows;
            known = contexts_known s after changes known;
            same_member = same_members after changes;
            holders = (moved after changes r frame h, stand o after grows (same_members after changes));
          }

      -- Frames that begin

      above_from : (after_o : Origins) (after : Store) → Grows (frame_at place) o after_o s after → (a : ℕ)
          → IsSource s place f.body q.lent a
          → IsFrom after (g, suc (length others)) a
      above_from after_o after grows a (is_outside e) =
          from_outside (outside_grows (frame_at place) o after_o s after grows a e)
      above_from after_o after grows a (is_made e) =
          from_below (length others) (omega arith) (maker_grows (frame_at place) o after_o s after grows a place e)
      above_from after_o after grows a (was_lent w) = higher (it.from a w)
        where
          higher : IsFrom s place a → IsFrom after (g, suc (length others)) a
          higher (from_outside e) = from_outside (outside_grows (frame_at place) o after_o s after grows a e)
          higher (from_below m l e) =
              from_below m (omega (arith, l)) (maker_grows (frame_at place) o after_o s after grows a (g, m) e)

      abbrev AreSources : Passing → Type 0
      AreSources passing = (y : Lent) (a : ℕ) → Contains passing.lent y → y.group ≡ Some a
          → IsSource s place f.body q.lent a

      -- what a call lends comes from the caller
      pub call_source : (b : Body) (passing : Passing) (values : ℕ → Value) (groups : ℕ → Option ℕ) → AreSources passing
          → Fits s b passing values groups
          → (v a : ℕ)
          → groups v ≡ Some a
          → IsSource s place f.body q.lent a
      call_source b passing values groups sources fits v a e = elim (fits.other_groups v) [
        | inl x ↦ sources x.argument a x.is_lent
            (sym (fits.same_group x.parameter x.argument x.is_of_body x.is_lent x.is_its_position)
            ∙ ap groups x.is_its_number ∙ e)
        | inr x ↦ is_outside (outside_is s (groups v) a x e)
      ]

      -- a frame begins above the one that goes on
      begins_above : (b : Body) (values : ℕ → Value) (groups : ℕ → Option ℕ) (around : ℕ → Option ℕ) (frame : Frame)
          → IsHolder p o s place q frame
          → IsHolder p (with_block o s.cell_count) (with_cells s values groups) (g, suc (length others))
          (no_past o s b values groups around) (new_frame s b around)
          → ActsWell place o (with_block o s.cell_count) s (with_cells s values groups)
          (new_frame s b around ∷ frame ∷ others) (no_past o s b values groups around ∷ q ∷ qs)
      begins_above b values groups around frame h new =
          let after_o = with_block o s.cell_count in
          let after = with_cells s values groups in
          let grows = block_grows (frame_at place) o s values groups in
          record {
            grows = grows;
            known = block_known s values groups known;
            same_member = λ n. refl;
            holders = (
              new,
              (
                holder_stands nobody o after_o s after (block_grows nobody o s values groups) p place q
                    frame not_itself (λ a e. e) h,
                stand after_o after grows (λ n. refl),
              ),
            );
          }

      begins_call : (passing : Passing) (frame : Frame) (after : Store) (new : List Frame) → AreSources passing
          → IsHolder p o s place q frame
          → (begins : Begins p s f passing after new)
          → ActsWell place o (origins_begun begins o) s after ((new ++ frame ∷ []) ++ others)
          ((pasts_begun begins o ++ q ∷ []) ++ qs)
      begins_call passing frame after new sources h (of_function b values groups is fits) =
          begins_above b values groups nothing_around frame h
          (holder_new p used o s values groups b nothing_around is.is_of (λ v k e. absurd (none-some k e))
          (λ v k e c. absurd (none-some k e)) (g, suc (length others))
          (λ v a is_its e. above_from (with_block o s.cell_count) (with_cells s values groups)
          (block_grows (frame_at place) o s values groups) a
          (call_source b passing values groups sources fits v a e))
          (λ v a home e. absurd (none-some v (sym (used.function_has_no_home f.body b passing.callee is) ∙ home))))
      begins_call passing frame after new sources h (of_none no_body holds) = goes_on s (no_change s) q frame h

      begins_literal : (c : Closure) (values : ℕ → Value) (groups : ℕ → Option ℕ) (frame : Frame) → IsApart p o s c
          → ((v : ℕ) → IsOutside s (groups v))
          → IsHolder p o s place q frame
          → ActsWell place o (with_block o s.cell_count) s (with_cells s values groups)
          (new_frame s c.literal c.newest ∷ frame ∷ others) (no_past o s c.literal values groups c.newest ∷ q ∷ qs)
      begins_literal c values groups frame apart foreign h =
          begins_above c.literal values groups c.newest frame h
          (holder_new p used o s values groups c.literal c.newest apart.is_of apart.cells_in apart.cells_once
          (g, suc (length others))
          (λ v a is_its e. from_outside (outside_is s (groups v) a (foreign v) e))
          (λ v a home e. absurd (none-some v (sym apart.has_no_home ∙ home))))

      -- Bindings

      not_home : (v : ℕ) → is_declared_in f.body v ≡ true → home_in f.body ≡ Some v → ⊥
      not_home v own home = true≢false (sym own ∙ (used.home_is_elsewhere f.body v it.is_of home).0)

      -- what the cell that a binding writes held of its variable
      bound_group : (t : Store) → IsKnown t → IsHolder p o t place q f → (u : VariableAt)
          → is_declared_in f.body u.number ≡ true
          → (a : ℕ)
          → t.holds (bound_cell t f u) u.number ≡ Some a
          → Contains f.made a
      bound_group t knows h u own a e = by (is_declaration u) (f.newest u.number) refl e
        where
          none_new : t.holds t.cell_count u.number ≡ Some a → Contains f.made a
          none_new x = absurd (none-some a (sym (knows.is_empty t.cell_count u.number (omega arith)) ∙ x))

          by : (b : Bool) (newest : Option ℕ) → f.newest u.number ≡ newest
              → t.holds (cond b t.cell_count (cell_or t.cell_count newest)) u.number ≡ Some a
              → Contains f.made a
          by true newest n x = none_new x
          by false None n x = none_new x
          by false (Some k) n x = h.own u.number a own (ap (group_in_cell t u.number) n ∙ x)

      -- what rules of uses say of a binding
      abbrev IsOwnBinding : VariableAt → Type 0
      IsOwnBinding u = (is_declared_in f.body u.number ≡ true)
          × (is_mentioned f.body.file u.number ≡ true → is_declaration u ≡ true)

      -- a cancel variable is bound, in a store that changed in contexts alone
      binds_value : (e : Event) (rest : Code Event) (u : VariableAt) (value : Value) (obtained : List ℕ) (t : Store)
          → ChangesContexts s t
          → (d : DoesNext f e rest)
          → IsOwnBinding u
          → ActsWell place o (written o place f.body (bound_cell t f u) u.number) s (binding t f u value)
          ((record (binds t f u) { stage = runs rest; obtained = obtained }) ∷ others) (behind q d.comes_to ∷ qs)
      binds_value e rest u value obtained t changes d own =
          let h = moved t changes q f it in
          let knows = contexts_known s t changes known in
          let k = bound_cell t f u in
          let cells = put_at t.cells k (put_at (t.cells k) u.number value) in
          let writable = bound_is_writable p o t place q f h u own.0 own.1 in
          let values : (j : ℕ) → (j ≡ k → ⊥) → cells j ≡ t.cells j = λ j ne. put_at-other t.cells k
          (put_at (t.cells k) u.number value) j ne in
          let grows = grows_then (frame_at place) o o (written o place f.body k u.number) s t (binding t f u value)
          (contexts_grow (frame_at place) o s t changes) (binding_grows p o t place q f h u own.0 k writable cells
          t.holds values (λ j ne. refl) (λ j v ne. refl)) in
          record {
            grows = grows;
            known = writing_known o t place f.body u.number k cells t.holds (λ j ne. refl) writable knows;
            same_member = same_members t changes;
            holders = (
              holder_binding p o t place q f h u own.0 k writable cells t.holds values (λ j ne. refl) (λ j v ne. refl) e
                  rest d.comes_to obtained f.made d.none_waits (not_home u.number own.0) (bound_group t knows h u own.0)
                  (λ a c. c) h.made,
              stand (written o place f.body k u.number) (binding t f u value) grows (same_members t changes),
            );
          }

      -- the frame makes a group
      binds_a_group : (e : Event) (rest : Code Event) (u : VariableAt) (context : Option ℕ) (t : Store)
          → ChangesContexts s t
          → (d : DoesNext f e rest)
          → IsOwnBinding u
          → ActsWell place o (written o place f.body (bound_cell t f u) u.number) s
          (binding_group (with_group t (frame_at place) context) f u t.group_count)
          ((record (binds t f u) { stage = runs rest; made = t.group_count ∷ f.made }) ∷ others)
          (behind q d.comes_to ∷ qs)
      binds_a_group e rest u context t changes d own =
          let knows = contexts_known s t changes known in
          let made = with_group t (frame_at place) context in
          let h = holder_stands nobody o o t made (group_grows nobody o t (frame_at place) context knows) p place q f
          not_itself (λ a i. i) (moved t changes q f it) in
          let k = bound_cell t f u in
          let holds = put_at t.holds k (put_at (t.holds k) u.number (Some t.group_count)) in
          let writable = bound_is_writable p o made place q f h u own.0 own.1 in
          let groups : (j : ℕ) → (j ≡ k → ⊥) → holds j ≡ t.holds j = λ j ne. put_at-other t.holds k
          (put_at (t.holds k) u.number (Some t.group_count)) j ne in
          let others_stay : (j v : ℕ) → (v ≡ u.number → ⊥) → holds j v ≡ t.holds j v = λ j v ne. put_in t.holds k
          u.number (Some t.group_count) j v ne in
          let first = grows_then (frame_at place) o o o s t made (contexts_grow (frame_at place) o s t changes)
          (group_grows (frame_at place) o t (frame_at place) context knows) in
          let grows = grows_then (frame_at place) o o (written o place f.body k u.number) s made
          (binding_group made f u t.group_count) first (binding_grows p o made place q f h u own.0 k writable
          t.cells holds (λ j ne. refl) groups others_stay) in
          record {
            grows = grows;
            known = writing_known o made place f.body u.number k t.cells holds groups writable
                (group_known t (frame_at place) context not_itself knows);
            same_member = same_members t changes;
            holders = (
              holder_binding p o made place q f h u own.0 k writable t.cells holds (λ j ne. refl) groups others_stay e
                  rest d.comes_to f.obtained (t.group_count ∷ f.made) d.none_waits (not_home u.number own.0)
                  (λ a i. subst (λ b. Contains (t.group_count ∷ f.made) b)
                  (same_Some t.group_count a (sym (put_here t.holds k u.number (Some t.group_count)) ∙ i))
                  (contains_here t.group_count f.made))
                  (λ a c. contains_there t.group_count a f.made c)
                  (λ a c. elim (contains_cases t.group_count a f.made c) [
                    | inl same ↦ ap made.maker (sym same) ∙ put_at-same t.maker t.group_count (frame_at place)
                    | inr
                        c ↦ h.made a c
                  ]),
              stand (written o place f.body k u.number) (binding_group made f u t.group_count) grows
                  (same_members t changes),
            );
          }

      -- Events

      -- of what the frame keeps in objects, and of what others got, nothing is told here
      keeps_more : (after_o : Origins) (after : Store) (frame : Frame) (r : Past) (kept : List InObject)
          (given : List Value)
          → ActsWell place o after_o s after (frame ∷ others) (r ∷ qs)
          → ActsWell place o after_o s after ((record frame { kept = kept; given_away = given }) ∷ others) (r ∷ qs)
      keeps_more after_o after frame r kept given h = record {
        grows = h.grows;
        known = h.known;
        same_member = h.same_member;
        holders = (holder_with p after_o after place r frame h.holders.0 kept given, h.holders.1);
      }

      -- past an event at which nothing is written
      passes : (e : Event) (rest : Code Event) (d : DoesNext f e rest) (after : Store) → ChangesContexts s after
          → ActsWell place o o s after (at_code f rest ∷ others) (behind q d.comes_to ∷ qs)
      passes e rest d after changes =
          goes_on after changes (behind q d.comes_to) (at_code f rest)
          (holder_behind p o s place q f it e rest d.comes_to)

      saves : (e : Event) (rest : Code Event) (x : Saved) (d : DoesNext f e rest)
          → ((c : Closure) → x ≡ saved_literal c → IsApart p o s c)
          → ((passing : Passing) → x ≡ saved_pass passing → passing.lent ≡ [])
          → ActsWell place o o s s ((record f { stage = runs rest; saved = x ∷ f.saved }) ∷ others)
          (behind q d.comes_to ∷ qs)
      saves e rest x d literal passing =
          goes_on s (no_change s) (behind q d.comes_to) (record f { stage = runs rest; saved = x ∷ f.saved })
          (holder_saving p o s place q f it e rest x d.comes_to literal passing)

      -- an argument is evaluated
      evaluated : (e : Event) (rest : Code Event) (d : ComesTo f e rest) (c : Callee) (later : Bool) (position : ℕ)
          (xs : List Given) (ys : List Lent)
          → MayJoin c later position f.waiting
          → (later ≡ true → ys ≡ [])
          → ((y : Lent) → Contains ys y → (a : ℕ) → y.group ≡ Some a → IsSource s place f.body q.lent a)
          → ActsWell place o o s s ((record f { stage = runs rest; waiting = Some (joining f.waiting c later xs ys) }) ∷
          others) (behind q d ∷ qs)
      evaluated e rest d c later position xs ys joins none sources =
          let now = joining f.waiting c later xs ys in
          goes_on s (no_change s) (behind q d) (record f { stage = runs rest; waiting = Some now })
          (holder_waiting p o s place q f it e rest d (Some now)
          (λ passing w. subst (λ (x : Passing). x.is_deferred ≡ true → x.lent ≡ []) (same_Some now passing w)
          (joined_none f.waiting c later position xs ys joins it.deferred_lend_none none))
          (λ passing y a w h g. joined_from f.waiting c later position xs ys
          (λ z. (b : ℕ) → z.group ≡ Some b → IsSource s place f.body q.lent b) joins
          (λ r z v k b i. it.lent_from r z b v k i) sources y
          (subst (λ (x : Passing). Contains x.lent y) (sym (same_Some now passing w)) h) a g))

      -- what the frame lends it made, or it was lent to it
      pub lendable_source : (v a : ℕ) → Lendable f.body v → held_group s f v ≡ Some a → IsSource s place f.body q.lent a
      lendable_source v a (own_lent x own same) e = is_made (it.made a
          (it.own v a (own_is_declared f.body x v own same) e))
      lendable_source v a (parameter_lent x parameter same) e =
          let is_its = parameter_is_its f.body x v parameter same in
          was_lent (v, is_its, sym (it.lent v is_its) ∙ e)

      same_closure : (c d : Closure) → saved_literal c ≡ saved_literal d → c ≡ d
      same_closure c d e = cc

      pub acts_held : (after : Store) (frames : List Frame) (acts : Acts p s place f after frames)
          → ActsWell place o (origins_after acts o) s after (frames ++ others) (pasts_after acts o q ++ qs)
      acts_held after frames (moves_on {rest = rest} d) =
          goes_on s (no_change s) q (at_code f rest) (holder_silent p o s place q f it rest d)
      acts_held after frames (does_other {rest = rest} d) = passes other rest d s (no_change s)
      acts_held after frames (obtains_one {u = u} {c = c} {n = n} {is_new = is_new} {rest = rest} {value = value}
          {made = made} d gives) =
          let e = obtain u c n is_new in
          binds_value e rest u value (with_function value f.obtained) made (obtaining_changes s made c value gives) d
          (used.binds_own f.body q.events (occurrence_of d.comes_to) u it.is_of
          (reached p o s place q f it e rest d.comes_to) obtains)
      acts_held after frames (obtains_into {u = u} {c = c} {n = n} {x = x} {rest = rest} {value = value} {made = made} d
          gives) =
          let e = obtain_kept u c n x in
          let cell = own_cell u.number in
          keeps_more (written o place f.body (bound_cell made f cell) u.number) (binding made f cell value)
          (record (binds made f cell) { stage = runs rest; obtained = with_function value f.obtained })
          (behind q d.comes_to) (record { variable = u.number; object = x; value = value } ∷ f.kept) f.given_away
          (binds_value e rest cell value (with_function value f.obtained) made (obtaining_changes s made c value gives) d
          (used.binds_own f.body q.events (occurrence_of d.comes_to) cell it.is_of
          (reached p o s place q f it e rest d.comes_to) binds_into))
      acts_held after frames (keeps_one {v = v} {x = x} {rest = rest} d) =
          keeps_more o s (at_code f rest) (behind q d.comes_to)
          (record { variable = v; object = x; value = held s f v } ∷ f.kept) f.given_away
          (passes (keep v x) rest d s (no_change s))
      acts_held after frames (renews_object {v = v} {x = x} {rest = rest} d) =
          keeps_more o s (at_code f rest) (behind q d.comes_to) (without_kept f.kept v x) f.given_away
          (passes (renew v x) rest d s (no_change s))
      acts_held after frames (calls_kept {v = v} {x = x} {rest = rest} d) =
          let value = kept_value f.kept v x in
          passes (call_kept v x) rest d (calling s value) (calling_changes s value)
      acts_held after frames (saves_kept {v = v} {x = x} {rest = rest} d) =
          saves (defer_kept v x) rest (saved_call (kept_value f.kept v x)) d (λ c e. cc) (λ passing e. cc)
      acts_held after frames (gives_object {v = v} {x = x} {rest = rest} d) =
          keeps_more o s (at_code f rest) (behind q d.comes_to) f.kept (kept_value f.kept v x ∷ f.given_away)
          (passes (give v x) rest d s (no_change s))
      acts_held after frames (gives_in_field {v = v} {rest = rest} d) =
          keeps_more o s (at_code f rest) (behind q d.comes_to) f.kept (held s f v ∷ f.given_away)
          (passes (give_field v) rest d s (no_change s))
      acts_held after frames (clears_one {u = u} {rest = rest} d) =
          binds_value (clear u) rest u nothing f.obtained s (no_change s) d
          (used.binds_own f.body q.events (occurrence_of d.comes_to) u it.is_of
          (reached p o s place q f it (clear u) rest d.comes_to) clears)
      acts_held after frames (calls_one {v = v} {rest = rest} d) =
          passes (call v) rest d (calling s (held s f v)) (calling_changes s (held s f v))
      acts_held after frames (saves_call {v = v} {rest = rest} d) =
          saves (defer_call v) rest (saved_call (held s f v)) d (λ c e. cc) (λ passing e. cc)
      acts_held after frames (makes_group {u = u} {state = state} {context = context} {made = made} {rest = rest} d
          gives) =
          binds_a_group (make u state) rest u context made (making_changes s made state context gives) d
          (used.binds_own f.body q.events (occurrence_of d.comes_to) u it.is_of
          (reached p o s place q f it (make u state) rest d.comes_to) makes)
      acts_held after frames (tries_nothing {v = v} {literal = literal} {rest = rest} d) =
          passes (try v literal) rest d s (no_change s)
      acts_held after frames (ends_wait {v = v} {rest = rest} d ends) =
          passes (wait v) rest d (waiting_for s (held_group s f v)) (waiting_changes s (held_group s f v))
      acts_held after frames (saves_wait {v = v} {rest = rest} d) =
          saves (defer_wait v) rest (saved_wait (held_group s f v)) d (λ c e. cc) (λ passing e. cc)
      acts_held after frames (evaluates {u = u} {c = c} {position = position} {rest = rest} d joins) =
          evaluated (pass u c position) rest d c false position
          (record { position = position; value = held s f u.number } ∷ []) [] joins (λ e. refl)
          (λ y h. absurd (contains_nil y h))
      acts_held after frames (evaluates_deferred {u = u} {c = c} {position = position} {rest = rest} d joins) =
          evaluated (defer_pass u c position) rest d c true position
          (record { position = position; value = held s f u.number } ∷ []) [] joins (λ e. refl)
          (λ y h. absurd (contains_nil y h))
      acts_held after frames (lends {v = v} {c = c} {position = position} {rest = rest} d joins) =
          let y : Lent = record { position = position; group = held_group s f v } in
          let own = used.lends_own f.body q.events (occurrence_of d) v position c it.is_of
          (reached p o s place q f it (lend v c position) rest d) refl in
          evaluated (lend v c position) rest d c false position [] (y ∷ []) joins (λ e. absurd (false≢true e))
          (λ z h a e. elim (contains_cases y z [] h) [
            | inl same ↦ lendable_source v a own
                (ap (λ (l : Lent). l.group) same ∙ e)
            | inr k ↦ absurd (contains_nil z k)
          ])
      acts_held after frames (makes_call {passing = passing} {new = new} way now begins) =
          begins_call passing (record f { waiting = None }) after new
          (λ y a h e. it.lent_from passing y a way.waits h e) (holder_called p o s place q f it) begins
      acts_held after frames (calls_outside {x = x} way gets) =
          goes_on (calling s x.value) (calling_changes s x.value) q f it
      acts_held after frames (saves_pass {passing = passing} way later) =
          goes_on s (no_change s) q (record f { waiting = None; saved = saved_pass passing ∷ f.saved })
          (holder_saved p o s place q f it passing way.waits later)
      acts_held after frames (saves_literal {at = at} {rest = rest} b d is_in is_at) =
          let closure : Closure = record { literal = b; newest = f.newest } in
          let no_home = used.deferred_has_no_home f.body q.events (occurrence_of d.comes_to) at b it.is_of
          (reached p o s place q f it (defer_literal at) rest d.comes_to) refl is_in is_at in
          saves (defer_literal at) rest (saved_literal closure) d
          (λ c e. subst (IsApart p o s) (same_closure closure c e)
          (evaluated_is_apart o s place q f it b is_in no_home)) (λ passing e. cc)
      acts_held after frames (comes_to_return {handed = handed} {rest = rest} d) =
          let values = map (handed_by s f) handed in
          goes_on s (no_change s) (behind q d.comes_to) (record f { stage = exits; handed_on = values })
          (holder_returning p o s place q f it (return_event handed) rest d.comes_to values d.none_waits)
      acts_held after frames (runs_call {value = value} {left = left} r) =
          goes_on (calling s value) (calling_changes s value) q (record f { saved = left })
          (holder_popping p o s place q f it (saved_call value) left r)
      acts_held after frames (runs_pass {passing = passing} {left = left} {new = new} r begins) =
          let none = it.saved_lend_none passing (subst (λ (l : List Saved). Contains l (saved_pass passing))
          (sym r.saved) (contains_here (saved_pass passing) left)) in
          begins_call passing (record f { saved = left }) after new
          (λ y a h e. absurd (contains_nil y (subst (λ (l : List Lent). Contains l y) none h)))
          (holder_popping p o s place q f it (saved_pass passing) left r) begins
      acts_held after frames (runs_literal {c = c} {left = left} values groups r foreign) =
          let apart = it.saved_literals c (subst (λ (l : List Saved). Contains l (saved_literal c)) (sym r.saved)
          (contains_here (saved_literal c) left)) in
          begins_literal c values groups (record f { saved = left }) apart foreign.foreign
          (holder_popping p o s place q f it (saved_literal c) left r)
      acts_held after frames (runs_wait {group = group} {left = left} r ends) =
          goes_on (waiting_for s group) (waiting_changes s group) q (record f { saved = left })
          (holder_popping p o s place q f it (saved_wait group) left r)
      acts_held after frames (returns_now ended) = record {
        grows = contexts_grow (frame_at place) o s s (no_change s);
        known = known;
        same_member = λ h. refl;
        holders = below;
      }
