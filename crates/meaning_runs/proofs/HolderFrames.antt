-- Frames that can start work in groups: one that stands while others act, one that goes on, one that binds a variable,
-- and one that begins.
use Rattle.std.proofs.Common.{◌≡◌, ℕ, ◌<◌, inl, inr, Bool, true, false, List, [], ◌∷◌, length, Option, Some, None, Contains, refl, sym, ap, ◌∙◌, subst, arith}
use Rattle.std.specs.Prelude.{◌==◌, ◌&&◌}
use Rattle.std.specs.List.{list_any}
use Rattle.std.proofs.lemmas.Bool.{false≢true, cases_Bool, and_parts, false_from_ne_true}
use Rattle.std.proofs.lemmas.Option.{none-some}
use Rattle.meaning.specs.Code.{Occurrence, Code}
use Rattle.meaning.specs.Lists.{Reaches}
use Rattle.meaning.specs.Uses.{Event}
use Rattle.meaning.specs.BodyEvents.{Variable, VariableRole, own_parameter, own_receiver, declared_in_body, captured, is_parameter}
use Rattle.meaning.proofs.Membership.{contains_cases, contains_there}
use Rattle.meaning_packages.specs.PathFaults.{is_declared}
use Rattle.meaning_runs.specs.Bodies.{Program, Body, code_of, variables_in, is_parameter_of, is_captured_by, is_captured}
use Rattle.meaning_runs.specs.World.{Value, Maker, frame_at, Place, Store, Lent, Passing, Closure, Saved, saved_pass, saved_literal, Stage, runs, exits, InObject, Frame, held_group}
use Rattle.meaning_runs.specs.Steps.{GoesOn, ComesTo, RunsSaved, at_code}
use Rattle.meaning_runs.proofs.GivenValues.{same_role}
use Rattle.meaning_runs.proofs.Captured.{any_there}
use Rattle.meaning_runs.proofs.Places.{IsAt, goes_there, stays_there, is_reached, runs-inj, exits≢runs, eqb_is}
use Rattle.meaning_runs.proofs.WhoStarts.{is_declared_in}
use Rattle.meaning_runs.proofs.Remembered.{Origins, Past, occurrence_of, behind}
use Rattle.meaning_runs.proofs.Holders.{IsSafe, Grows, IsFrom, from_outside, from_below, IsSource, is_outside, is_made, was_lent, IsApart, IsHolder, AreHolders}
use Rattle.meaning_runs.proofs.StoreGrowth.{in_group_grows, maker_grows, outside_grows, counts_more}

-- The roles of a body's variables

no_parameter_declared : (r : VariableRole) → is_declared r ≡ true → is_parameter r ≡ true → ⊥
no_parameter_declared (own_parameter k) d e = false≢true d
no_parameter_declared own_receiver d e = false≢true d
no_parameter_declared declared_in_body d e = false≢true e
no_parameter_declared captured d e = false≢true d

no_captured_declared : (r : VariableRole) → is_declared r ≡ true → is_captured r ≡ true → ⊥
no_captured_declared (own_parameter k) d e = false≢true d
no_captured_declared own_receiver d e = false≢true d
no_captured_declared declared_in_body d e = false≢true e
no_captured_declared captured d e = false≢true d

-- two tests of roles that no role passes both
apart_by : (b : Body) (v : ℕ) (first second : VariableRole → Bool)
    → ((r : VariableRole) → first r ≡ true → second r ≡ true → ⊥)
    → list_any (λ x. (x.number == v) && first x.role) (variables_in b) ≡ true
    → list_any (λ x. (x.number == v) && second x.role) (variables_in b) ≡ true
    → ⊥
apart_by b v first second none d e =
    let x = any_there (λ (x : Variable). (x.number == v) && first x.role) (variables_in b) d in
    let y = any_there (λ (y : Variable). (y.number == v) && second y.role) (variables_in b) e in
    let p = and_parts (x.0.number == v) (first x.0.role) x.2 in
    let q = and_parts (y.0.number == v) (second y.0.role) y.2 in
    let same = same_role b x.0 y.0 x.1 y.1 (eqb_is x.0.number v p.0 ∙ sym (eqb_is y.0.number v q.0)) in
    none x.0.role p.1 (ap second same ∙ q.1)

pub declared_no_parameter : (b : Body) (v : ℕ) → is_declared_in b v ≡ true → is_parameter_of b v ≡ false
declared_no_parameter b v d = false_from_ne_true (is_parameter_of b v) (apart_by b v is_declared is_parameter no_parameter_declared
    d)

pub declared_not_captured : (b : Body) (v : ℕ) → is_declared_in b v ≡ true → is_captured_by b v ≡ false
declared_not_captured b v d = false_from_ne_true (is_captured_by b v) (apart_by b v is_declared is_captured no_captured_declared d)

-- A frame that stands

module _ (p : Program) (o : Origins) (s : Store) (place : Place) (q : Past) (f : Frame)
    (it : IsHolder p o s place q f) where
  -- nobody elsewhere writes the cells of its variables
  pub safe_in : (at : Maker) → (frame_at place ≡ at → ⊥) → (v k : ℕ) → f.newest v ≡ Some k
      → (k < s.cell_count) × IsSafe at o k
  safe_in at elsewhere v k e = (
    it.cells_in v k e,
    elim (cases_Bool (is_declared_in f.body v)) [
      | inl own ↦ inr (λ same. elsewhere (sym (it.own_cells v k own e).0 ∙ same))
      | inr other_one ↦ inl (it.other_cells v k other_one e)
    ],
  )

module _ (at : Maker) (o after_o : Origins) (s after : Store) (grows : Grows at o after_o s after) where
  pub from_grows : (place : Place) (a : ℕ) → IsFrom s place a → IsFrom after place a
  from_grows place a (from_outside e) = from_outside (outside_grows at o after_o s after grows a e)
  from_grows place a (from_below m l e) = from_below m l (maker_grows at o after_o s after grows a (place.0, m) e)

  pub source_grows : (place : Place) (b : Body) (lent : ℕ → Option ℕ) (a : ℕ) → IsSource s place b lent a
      → IsSource after place b lent a
  source_grows place b lent a (is_outside e) = is_outside (outside_grows at o after_o s after grows a e)
  source_grows place b lent a (is_made e) = is_made (maker_grows at o after_o s after grows a place e)
  source_grows place b lent a (was_lent w) = was_lent w

  pub apart_grows : (p : Program) (c : Closure) → IsApart p o s c → IsApart p after_o after c
  apart_grows p c it = record {
    is_of = it.is_of;
    has_no_home = it.has_no_home;
    cells_in = λ v k e. counts_more at o after_o s after grows k (it.cells_in v k e);
    cells_once = λ v k e i. grows.same_frozen k (it.cells_in v k e) ∙ it.cells_once v k e i;
  }

  -- what its variables hold
  pub still_holds : (p : Program) (place : Place) (q : Past) (f : Frame) → (frame_at place ≡ at → ⊥)
      → IsHolder p o s place q f
      → (v : ℕ)
      → held_group after f v ≡ held_group s f v
  still_holds p place q f elsewhere it v =
      in_group_grows at o after_o s after grows v (f.newest v) (λ k e. safe_in p o s place q f it at elsewhere v k e)

  pub holder_stands : (p : Program) (place : Place) (q : Past) (f : Frame) → (frame_at place ≡ at → ⊥)
      → ((a : ℕ) → s.member place.0 ≡ Some a → after.member place.0 ≡ Some a)
      → IsHolder p o s place q f
      → IsHolder p after_o after place q f
  holder_stands p place q f elsewhere member it = record {
    is_of = it.is_of;
    is_at = it.is_at;
    none_waits = it.none_waits;
    cells_in = λ v k e. counts_more at o after_o s after grows k (it.cells_in v k e);
    own_cells = λ v k own e. let l = it.cells_in v k e in
        let r = it.own_cells v k own e in
        (grows.same_owner k l ∙ r.0, grows.same_frozen k l ∙ r.1);
    other_cells = λ v k other_one e. grows.same_frozen k (it.cells_in v k e) ∙ it.other_cells v k other_one e;
    saved_literals = λ c h. apart_grows p c (it.saved_literals c h);
    saved_lend_none = it.saved_lend_none;
    deferred_lend_none = it.deferred_lend_none;
    lent_from = λ passing y a w h g. source_grows place f.body q.lent a (it.lent_from passing y a w h g);
    made = λ a h. maker_grows at o after_o s after grows a place (it.made a h);
    own = λ v a own e. it.own v a own (sym (still v) ∙ e);
    lent = λ v e. still v ∙ it.lent v e;
    from = λ a w. from_grows place a (it.from a w);
    home = λ v a e g. member a (it.home v a e (sym (still v) ∙ g));
  }
    where
      still : (v : ℕ) → held_group after f v ≡ held_group s f v
      still v = still_holds p place q f elsewhere it v

  pub holders_stand : (p : Program) (g : ℕ) (fs : List Frame) (qs : List Past)
      → ((n : ℕ) → n < length fs → frame_at (g, n) ≡ at → ⊥)
      → ((a : ℕ) → s.member g ≡ Some a → after.member g ≡ Some a)
      → AreHolders p o s g fs qs
      → AreHolders p after_o after g fs qs
  holders_stand p g [] [] elsewhere member it = tt
  holders_stand p g [] (q ∷ qs) elsewhere member it = absurd it
  holders_stand p g (f ∷ fs) [] elsewhere member it = absurd it
  holders_stand p g (f ∷ fs) (q ∷ qs) elsewhere member it = (
    holder_stands p (g, length fs) q f (elsewhere (length fs) (omega arith)) member it.0,
    holders_stand p g fs qs (λ n l. elsewhere n (omega (arith, l))) member it.1,
  )

-- A frame that goes on

module _ (p : Program) (o : Origins) (s : Store) (place : Place) (q : Past) (f : Frame)
    (it : IsHolder p o s place q f) where
  -- what it keeps in objects, and what others got
  pub holder_with : (kept : List InObject) (given : List Value)
      → IsHolder p o s place q (record f { kept = kept; given_away = given })
  holder_with kept given = record {
    is_of = it.is_of;
    is_at = it.is_at;
    none_waits = it.none_waits;
    cells_in = it.cells_in;
    own_cells = it.own_cells;
    other_cells = it.other_cells;
    saved_literals = it.saved_literals;
    saved_lend_none = it.saved_lend_none;
    deferred_lend_none = it.deferred_lend_none;
    lent_from = it.lent_from;
    made = it.made;
    own = it.own;
    lent = it.lent;
    from = it.from;
    home = it.home;
  }

  pub at_rest : (t : List (Occurrence Event)) (rest : Code Event) → IsAt f.body t rest
      → (c : Code Event)
      → runs rest ≡ runs c
      → IsAt f.body t c
  at_rest t rest h c e = subst (λ d. IsAt f.body t d) (runs-inj rest c e) h

  runs_on : (rest : Code Event) (w : Option Passing) → runs rest ≡ exits → w ≡ None
  runs_on rest w e = absurd (exits≢runs rest (sym e))

  module _ (e : Event) (rest : Code Event) (d : ComesTo f e rest) where
    pub reached : Reaches (code_of f.body) q.events (occurrence_of d)
    reached =
        is_reached f.body q.events d.goes_on.code rest (occurrence_of d) d.goes_on.moves
        (it.is_at d.goes_on.code d.goes_on.stage)

    pub path_behind : IsAt f.body (behind q d).events rest
    path_behind =
        goes_there f.body q.events d.goes_on.code rest (occurrence_of d) d.goes_on.moves
        (it.is_at d.goes_on.code d.goes_on.stage)

  -- it binds nothing and makes no group
  pub record GoesWith (events : List (Occurrence Event)) (stage : Stage) (waiting : Option Passing)
      (saved : List Saved) : Type 0 where
    pub is_at : (c : Code Event) → stage ≡ runs c → IsAt f.body events c
    pub none_waits : stage ≡ exits → waiting ≡ None
    pub saved_literals : (c : Closure) → Contains saved (saved_literal c) → IsApart p o s c
    pub saved_lend_none : (passing : Passing) → Contains saved (saved_pass passing) → passing.lent ≡ []
    pub deferred_lend_none : (passing : Passing) → waiting ≡ Some passing → passing.is_deferred ≡ true
        → passing.lent ≡ []
    pub lent_from : (passing : Passing) (y : Lent) (a : ℕ) → waiting ≡ Some passing
        → Contains passing.lent y
        → y.group ≡ Some a
        → IsSource s place f.body q.lent a

  pub holder_goes : (events : List (Occurrence Event)) (stage : Stage) (waiting : Option Passing) (saved : List Saved)
      (obtained : List ℕ) (handed_on : List Value)
      → GoesWith events stage waiting saved
      → IsHolder p o s place (record q { events = events }) (record f
      { stage = stage; waiting = waiting; saved = saved; obtained = obtained; handed_on = handed_on })
  holder_goes events stage waiting saved obtained handed_on h = record {
    is_of = it.is_of;
    is_at = h.is_at;
    none_waits = h.none_waits;
    cells_in = it.cells_in;
    own_cells = it.own_cells;
    other_cells = it.other_cells;
    saved_literals = h.saved_literals;
    saved_lend_none = h.saved_lend_none;
    deferred_lend_none = h.deferred_lend_none;
    lent_from = h.lent_from;
    made = it.made;
    own = it.own;
    lent = it.lent;
    from = it.from;
    home = it.home;
  }

  pub holder_silent : (rest : Code Event) → GoesOn f None rest → IsHolder p o s place q (at_code f rest)
  holder_silent rest d = holder_goes q.events (runs rest) f.waiting f.saved f.obtained f.handed_on record {
    is_at = at_rest q.events rest (stays_there f.body q.events d.code rest d.moves (it.is_at d.code d.stage));
    none_waits = runs_on rest f.waiting;
    saved_literals = it.saved_literals;
    saved_lend_none = it.saved_lend_none;
    deferred_lend_none = it.deferred_lend_none;
    lent_from = it.lent_from;
  }

  -- past an event, with one saved item more
  pub holder_saving : (e : Event) (rest : Code Event) (x : Saved) (d : ComesTo f e rest)
      → ((c : Closure) → x ≡ saved_literal c → IsApart p o s c)
      → ((passing : Passing) → x ≡ saved_pass passing → passing.lent ≡ [])
      → IsHolder p o s place (behind q d) (record f { stage = runs rest; saved = x ∷ f.saved })
  holder_saving e rest x d literal pass =
      holder_goes (behind q d).events (runs rest) f.waiting (x ∷ f.saved) f.obtained f.handed_on record {
        is_at = at_rest (behind q d).events rest (path_behind e rest d);
        none_waits = runs_on rest f.waiting;
        saved_literals = λ c h. elim (contains_cases x (saved_literal c) f.saved h)
            [ inl y ↦ literal c y | inr y ↦ it.saved_literals c y ];
        saved_lend_none = λ passing h. elim (contains_cases x (saved_pass passing) f.saved h)
            [ inl y ↦ pass passing y | inr y ↦ it.saved_lend_none passing y ];
        deferred_lend_none = it.deferred_lend_none;
        lent_from = it.lent_from;
      }

  -- past an event, with this call under way
  pub holder_waiting : (e : Event) (rest : Code Event) (d : ComesTo f e rest) (waiting : Option Passing)
      → ((passing : Passing) → waiting ≡ Some passing → passing.is_deferred ≡ true → passing.lent ≡ [])
      → ((passing : Passing) (y : Lent) (a : ℕ) → waiting ≡ Some passing → Contains passing.lent y → y.group ≡ Some a
      → IsSource s place f.body q.lent a)
      → IsHolder p o s place (behind q d) (record f { stage = runs rest; waiting = waiting })
  holder_waiting e rest d waiting none sources =
      holder_goes (behind q d).events (runs rest) waiting f.saved f.obtained f.handed_on record {
        is_at = at_rest (behind q d).events rest (path_behind e rest d);
        none_waits = runs_on rest waiting;
        saved_literals = it.saved_literals;
        saved_lend_none = it.saved_lend_none;
        deferred_lend_none = none;
        lent_from = sources;
      }

  pub holder_behind : (e : Event) (rest : Code Event) (d : ComesTo f e rest)
      → IsHolder p o s place (behind q d) (at_code f rest)
  holder_behind e rest d = holder_waiting e rest d f.waiting it.deferred_lend_none it.lent_from

  -- it comes to its return
  pub holder_returning : (e : Event) (rest : Code Event) (d : ComesTo f e rest) (handed_on : List Value)
      → f.waiting ≡ None
      → IsHolder p o s place (behind q d) (record f { stage = exits; handed_on = handed_on })
  holder_returning e rest d handed_on none =
      holder_goes (behind q d).events exits f.waiting f.saved f.obtained handed_on record {
        is_at = λ c x. absurd (exits≢runs c x);
        none_waits = λ x. none;
        saved_literals = it.saved_literals;
        saved_lend_none = it.saved_lend_none;
        deferred_lend_none = it.deferred_lend_none;
        lent_from = it.lent_from;
      }

  -- the call under way was made
  pub holder_called : IsHolder p o s place q (record f { waiting = None })
  holder_called = holder_goes q.events f.stage None f.saved f.obtained f.handed_on record {
    is_at = it.is_at;
    none_waits = λ x. refl;
    saved_literals = it.saved_literals;
    saved_lend_none = it.saved_lend_none;
    deferred_lend_none = λ passing w. absurd (none-some passing w);
    lent_from = λ passing y a w. absurd (none-some passing w);
  }

  -- or is saved
  pub holder_saved : (passing : Passing) → f.waiting ≡ Some passing → passing.is_deferred ≡ true
      → IsHolder p o s place q (record f { waiting = None; saved = saved_pass passing ∷ f.saved })
  holder_saved passing w later = holder_goes q.events f.stage None (saved_pass passing ∷ f.saved) f.obtained f.handed_on
      record {
        is_at = it.is_at;
        none_waits = λ x. refl;
        saved_literals = λ c h. elim (contains_cases (saved_pass passing) (saved_literal c) f.saved h)
            [ inl y ↦ cc | inr y ↦ it.saved_literals c y ];
        saved_lend_none = λ r h. elim (contains_cases (saved_pass passing) (saved_pass r) f.saved h) [
          | inl y ↦ subst (λ (z : Passing). z.lent ≡ []) (same_pass passing r y) (it.deferred_lend_none passing w later)
          | inr y ↦ it.saved_lend_none r y
        ];
        deferred_lend_none = λ r x. absurd (none-some r x);
        lent_from = λ r y a x. absurd (none-some r x);
      }
    where
      same_pass : (x y : Passing) → saved_pass x ≡ saved_pass y → x ≡ y
      same_pass x y e = cc

  -- what it saved last runs
  pub holder_popping : (x : Saved) (left : List Saved) → RunsSaved f x left
      → IsHolder p o s place q (record f { saved = left })
  holder_popping x left r = holder_goes q.events f.stage f.waiting left f.obtained f.handed_on record {
    is_at = it.is_at;
    none_waits = it.none_waits;
    saved_literals = λ c h. it.saved_literals c (among (saved_literal c) h);
    saved_lend_none = λ passing h. it.saved_lend_none passing (among (saved_pass passing) h);
    deferred_lend_none = it.deferred_lend_none;
    lent_from = it.lent_from;
  }
    where
      among : (y : Saved) → Contains left y → Contains f.saved y
      among y h = subst (λ l. Contains l y) (sym r.saved) (contains_there x y left h)
