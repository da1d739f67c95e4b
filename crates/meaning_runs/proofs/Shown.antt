-- Where only some of the packages of a program run, its worlds are those of the whole program without the frames of the
-- others: what these do, the environment does. This says what is shown of a store and of its frames, and that it stays so
-- where the store grows.
use Rattle.std.proofs.Common.{◌≡◌, ℕ, ◌≤◌, ◌<◌, inl, inr, Bool, true, false, List, [], ◌∷◌, Option, Some, None, Contains, refl, sym, ap, subst, ◌∙◌, arith}
use Rattle.std.specs.Prelude.{if◌then◌else◌, not, slice_get}
use Rattle.std.proofs.lemmas.Bool.{cases_eq}
use Rattle.std.proofs.lemmas.Option.{none-some, same_Some}
use Rattle.meaning.specs.Code.{Occurrence, Code}
use Rattle.meaning.specs.Uses.{Event}
use Rattle.meaning.proofs.Membership.{contains_nil, contains_here, contains_there, contains_cases}
use Rattle.meaning_reports.specs.Loaded.{LoadedPackage, counts_as_given}
use Rattle.meaning_reports.specs.UsedImports.{HandsThere}
use Rattle.meaning_runs.specs.Bodies.{Program, Body, IsRun, IsOf, code_of, is_parameter_of, is_captured_by}
use Rattle.meaning_runs.specs.Promise.{AreClosed, all_run}
use Rattle.meaning_runs.specs.EventSources.{HasSource, says_nothing, falls_off, of_mark}
use Rattle.meaning_runs.specs.World.{Value, Maker, outside, Store, put_at, IsAny, any_nothing, with_cells, in_cell, group_in_cell, Given, Lent, Passing, Closure, Saved, saved_call, saved_pass, saved_literal, saved_wait, Stage, runs, InObject, Frame, is_in, kept_value, without_kept, new_frame}
use Rattle.meaning_runs.specs.Moves.{Moves, happens, first_moves, first_is_done, first_leaves, picks_first, picks_second, turns, inside, gets_there, goes_past, gets_out}
use Rattle.meaning.specs.BodyEvents.{sites_of}
use Rattle.meaning_runs.proofs.CallSteps.{still_any}
use Rattle.meaning_runs.proofs.Contexts.{put_at-same, put_at-other}
use Rattle.meaning_runs.proofs.EventSources.{EachIn, of_body, marked}
use Rattle.meaning_runs.proofs.KeptEvents.{unfiltered}
use Rattle.meaning_runs.proofs.Places.{runs-inj}

-- What is shown of a store

-- other makers, and other contents of cells; and which cells are those of frames that are shown
pub record Shadow : Type 0 where
  pub maker : ℕ → Maker
  pub cells : ℕ → ℕ → Value
  pub holds : ℕ → ℕ → Option ℕ
  pub is_shown : ℕ → Bool

abbrev pub shadow_store : Store → Shadow → Store
shadow_store s x = record s { maker = x.maker; cells = x.cells; holds = x.holds }

abbrev pub IsOut : Shadow → ℕ → Type 0
IsOut x a = x.maker a ≡ outside

pub record IsShadow (s : Store) (x : Shadow) : Type 0 where
  pub out : (a : ℕ) → s.maker a ≡ outside → IsOut x a
  pub fresh : (a : ℕ) → s.group_count ≤ a → IsOut x a → ⊥
  pub same_cells : (k v : ℕ) → x.is_shown k ≡ true → x.cells k v ≡ s.cells k v
  pub same_holds : (k v : ℕ) → x.is_shown k ≡ true → x.holds k v ≡ s.holds k v
  pub foreign : (k v a : ℕ) → x.is_shown k ≡ false → s.holds k v ≡ Some a → IsOut x a
  pub unused_cells : (k v : ℕ) → s.cell_count ≤ k → x.cells k v ≡ s.cells k v
  pub unused : (k v : ℕ) → s.cell_count ≤ k → s.holds k v ≡ None
  pub unused_holds : (k v : ℕ) → s.cell_count ≤ k → x.holds k v ≡ None
  pub contexts : (a b : ℕ) → s.group_context a ≡ Some b → b < s.context_count

pub record Grown (s : Store) (x : Shadow) (after : Store) (y : Shadow) : Type 0 where
  pub cells : s.cell_count ≤ after.cell_count
  pub contexts : s.context_count ≤ after.context_count
  pub shown : (k : ℕ) → k < s.cell_count → y.is_shown k ≡ x.is_shown k
  pub out : (a : ℕ) → IsOut x a → IsOut y a

-- Frames

pub record FinePass (T : ℕ → Bool) (s : Store) (x : Shadow) (b : Body) (r : Passing) : Type 0 where
  pub any : (y : Given) → Contains r.given y → IsAny s y.value
  pub handed : HandsThere b.file r.callee
  pub lent : T b.home ≡ false → (y : Lent) (a : ℕ) → Contains r.lent y → y.group ≡ Some a → IsOut x a

abbrev pub FineCells : Store → Shadow → Bool → (ℕ → Option ℕ) → Type 0
FineCells s x t newest = (v k : ℕ) → newest v ≡ Some k → (k < s.cell_count) × (x.is_shown k ≡ t)

-- what objects keep is in the world
abbrev pub FineKept : Store → List InObject → Type 0
FineKept s ks = (k : InObject) → Contains ks k → IsAny s k.value

pub kept_any : (s : Store) (ks : List InObject) → FineKept s ks → (v x : ℕ) → IsAny s (kept_value ks v x)
kept_any s [] h v x = any_nothing
kept_any s (k ∷ ks) h v x = by (is_in v x k) (kept_any s ks (λ j c. h j (contains_there k j ks c)) v x)
  where
    by : (b : Bool) → IsAny s (kept_value ks v x) → IsAny s (if b then k.value else kept_value ks v x)
    by true rest = h k (contains_here k ks)
    by false rest = rest

pub kept_more : (s : Store) (ks : List InObject) (k : InObject) → IsAny s k.value → FineKept s ks → FineKept s (k ∷ ks)
kept_more s ks k any h j c = elim (contains_cases k j ks c) [
  | inl same ↦ subst (λ (i : InObject). IsAny s i.value) same any
  | inr more ↦ h j more
]

pub kept_less : (s : Store) (ks : List InObject) (v x : ℕ) → FineKept s ks → FineKept s (without_kept ks v x)
kept_less s ks v x h j c = h j (unfiltered (λ k. not (is_in v x k)) ks j c).0

-- The packages that run are those that count as given, or some of these, among which is each to which they hand
-- something.
pub record AreAmong (p : Program) : Type 0 where
  pub are_closed : AreClosed p
  pub are_counted : (home : ℕ) (q : LoadedPackage)
      → IsRun p home
      → slice_get p.packages home ≡ Some q
      → counts_as_given q ≡ true

module _ (p : Program) where
  abbrev pub T : ℕ → Bool
  T = p.are_run

  pub record FineClosure (s : Store) (x : Shadow) (t : Bool) (c : Closure) : Type 0 where
    pub is_of : IsOf (all_run p) c.literal
    pub its : T c.literal.home ≡ t
    pub newest : FineCells s x t c.newest

  abbrev pub FineItem : Store → Shadow → Body → Saved → Type 0
  FineItem s x b (saved_call value) = IsAny s value
  FineItem s x b (saved_pass r) = FinePass T s x b r
  FineItem s x b (saved_literal c) = FineClosure s x (T b.home) c
  FineItem s x b (saved_wait group) = Unit {0}

  abbrev pub FineWait : Store → Shadow → Body → Option Passing → Type 0
  FineWait s x b w = (r : Passing) → w ≡ Some r → FinePass T s x b r

  abbrev pub FineSaved : Store → Shadow → Body → List Saved → Type 0
  FineSaved s x b ys = (y : Saved) → Contains ys y → FineItem s x b y

  abbrev pub FineCode : Body → Stage → Type 0
  FineCode b stage = (c : Code Event) → stage ≡ runs c → EachIn (HasSource b) c

  pub record FineFrame (s : Store) (x : Shadow) (f : Frame) : Type 0 where
    pub is_of : IsOf (all_run p) f.body
    pub newest : FineCells s x (T f.body.home) f.newest
    pub waits : FineWait s x f.body f.waiting
    pub saves : FineSaved s x f.body f.saved
    pub keeps : FineKept s f.kept
    pub code : FineCode f.body f.stage

  -- the frames of packages that run, above all others
  abbrev pub tops : List Frame → List Frame
  tops [] = []
  tops (f ∷ fs) = if T f.body.home then f ∷ tops fs else []

  abbrev pub FineStack : Store → Shadow → List Frame → Type 0
  FineStack s x [] = Unit {0}
  FineStack s x (f ∷ fs) = FineFrame s x f × (T f.body.home ≡ false → tops fs ≡ []) × FineStack s x fs

  -- Growth

  module _ {s : Store} {x : Shadow} {after : Store} {y : Shadow} (grown : Grown s x after y) where
    pub any_grows : (value : Value) → IsAny s value → IsAny after value
    any_grows value h = still_any s after grown.contexts value h

    pub cells_grow : (t : Bool) (newest : ℕ → Option ℕ) → FineCells s x t newest → FineCells after y t newest
    cells_grow t newest h v k e =
        let r = h v k e in
        let l = r.0 in
        let more = grown.cells in
        (omega (arith, l, more), grown.shown k l ∙ r.1)

    pub pass_grows : (b : Body) (r : Passing) → FinePass T s x b r → FinePass T after y b r
    pass_grows b r h = record {
      any = λ g c. any_grows g.value (h.any g c);
      handed = h.handed;
      lent = λ e l a c i. grown.out a (h.lent e l a c i);
    }

    pub closure_grows : (t : Bool) (c : Closure) → FineClosure s x t c → FineClosure after y t c
    closure_grows t c h = record { is_of = h.is_of; its = h.its; newest = cells_grow t c.newest h.newest }

    pub item_grows : (b : Body) (z : Saved) → FineItem s x b z → FineItem after y b z
    item_grows b (saved_call value) h = any_grows value h
    item_grows b (saved_pass r) h = pass_grows b r h
    item_grows b (saved_literal c) h = closure_grows (T b.home) c h
    item_grows b (saved_wait group) h = tt

    pub frame_grows : (f : Frame) → FineFrame s x f → FineFrame after y f
    frame_grows f h = record {
      is_of = h.is_of;
      newest = cells_grow (T f.body.home) f.newest h.newest;
      waits = λ r e. pass_grows f.body r (h.waits r e);
      saves = λ z c. item_grows f.body z (h.saves z c);
      keeps = λ k c. any_grows k.value (h.keeps k c);
      code = h.code;
    }

    pub stack_grows : (fs : List Frame) → FineStack s x fs → FineStack after y fs
    stack_grows [] h = tt
    stack_grows (f ∷ fs) h = (frame_grows f h.0, h.1, stack_grows fs h.2)

  -- Codes

  pub sources : (b : Body) → EachIn (HasSource b) (code_of b)
  sources b = of_body (HasSource b) (sites_of b.file b.place.at) says_nothing falls_off (λ at e h. let r = marked b.file b.place.at b.file.marks at e h in of_mark r.0 r.1 r.2 r.3) record { statements = b.place.statements; braces = b.place.braces }

  -- a body that begins
  pub new_is_fine : (s after : Store) (x : Shadow) (b : Body) (around : ℕ → Option ℕ)
      → IsOf (all_run p) b
      → s.cell_count < after.cell_count
      → x.is_shown s.cell_count ≡ T b.home
      → FineCells after x (T b.home) around
      → FineFrame after x (new_frame s b around)
  new_is_fine s after x b around of more shown cells = record {
    is_of = of;
    newest = λ v k e. by (is_parameter_of b v) (is_captured_by b v) v k e;
    waits = λ r e. absurd (none-some r e);
    saves = λ y c. absurd (contains_nil y c);
    keeps = λ k c. absurd (contains_nil k c);
    code = λ c e. subst (EachIn (HasSource b)) (runs-inj (code_of b) c e) (sources b);
  }
    where
      by : (parameter captured : Bool) (v k : ℕ)
          → (if parameter then Some s.cell_count else if captured then around v else None) ≡ Some k
          → (k < after.cell_count) × (x.is_shown k ≡ T b.home)
      by true captured v k e =
          let same : s.cell_count ≡ k = same_Some s.cell_count k e in
          (subst (λ n. n < after.cell_count) same more, subst (λ n. x.is_shown n ≡ T b.home) same shown)
      by false true v k e = cells v k e
      by false false v k e = absurd (none-some k e)

abbrev pub OccurrenceFits : (Event → Type 0) → Option (Occurrence Event) → Type 0
OccurrenceFits P None = Unit {0}
OccurrenceFits P (Some o) = P o.event

pub moved : (P : Event → Type 0) (c rest : Code Event) (o : Option (Occurrence Event)) → Moves c o rest → EachIn P c
    → EachIn P rest × OccurrenceFits P o
moved P c rest o happens h = (tt, h)
moved P c rest o (first_moves {a = a} {rest = after} m) h = let r = moved P a after o m h.0 in ((r.0, h.1), r.1)
moved P c rest o first_is_done h = (h.1, tt)
moved P c rest o first_leaves h = (tt, tt)
moved P c rest o picks_first h = (h.0, tt)
moved P c rest o picks_second h = (h.1, tt)
moved P c rest o turns h = ((h, h), tt)
moved P c rest o (inside {a = a} {rest = after} m) h = moved P a after o m h
moved P c rest o gets_there h = (tt, tt)
moved P c rest o (goes_past ne) h = (tt, tt)
moved P c rest o gets_out h = (tt, tt)

-- Cells

pub at_cell : {A : Type 0} (P : A → Type 0) (f : ℕ → A) (n : ℕ) (y : A) (m : ℕ) → ((m ≡ n) → P y) → ((m ≡ n → ⊥) → P (f m))
    → P (put_at f n y m)
at_cell P f n y m here there = elim (cases_eq m n) [
  | inl same ↦ subst P (sym (ap (put_at f n y) same ∙ put_at-same f n y)) (here same)
  | inr ne ↦ subst P (sym (put_at-other f n y m ne)) (there ne)
]

-- contents of two stores that agree, also where both are written
pub agree_at : {A : Type 0} (f g : ℕ → ℕ → A) (n : ℕ) (y z : ℕ → A) (k v : ℕ) → (y v ≡ z v) → ((k ≡ n → ⊥) → f k v ≡ g k v)
    → put_at f n y k v ≡ put_at g n z k v
agree_at f g n y z k v one two = elim (cases_eq k n) [
  | inl same ↦
      ap (λ h. h v) (ap (put_at f n y) same ∙ put_at-same f n y) ∙ (one
      ∙ sym (ap (λ h. h v) (ap (put_at g n z) same ∙ put_at-same g n z)))
  | inr ne ↦
      ap (λ h. h v) (put_at-other f n y k ne) ∙ (two ne ∙ sym (ap (λ h. h v) (put_at-other g n z k ne)))
]

module _ (s : Store) (x : Shadow) (is : IsShadow s x) where
  pub held_same : (t : Bool) (newest : ℕ → Option ℕ) → FineCells s x t newest → t ≡ true → (v : ℕ)
      → in_cell (shadow_store s x) v (newest v) ≡ in_cell s v (newest v)
  held_same t newest cells shown v = by (newest v) refl
    where
      by : (o : Option ℕ) → newest v ≡ o → in_cell (shadow_store s x) v o ≡ in_cell s v o
      by None e = refl
      by (Some k) e = is.same_cells k v ((cells v k e).1 ∙ shown)

  pub group_same : (t : Bool) (newest : ℕ → Option ℕ) → FineCells s x t newest → t ≡ true → (v : ℕ)
      → group_in_cell (shadow_store s x) v (newest v) ≡ group_in_cell s v (newest v)
  group_same t newest cells shown v = by (newest v) refl
    where
      by : (o : Option ℕ) → newest v ≡ o → group_in_cell (shadow_store s x) v o ≡ group_in_cell s v o
      by None e = refl
      by (Some k) e = is.same_holds k v ((cells v k e).1 ∙ shown)

  -- what a frame holds that isn't shown comes from outside
  pub group_out : (t : Bool) (newest : ℕ → Option ℕ) → FineCells s x t newest → t ≡ false → (v a : ℕ)
      → group_in_cell s v (newest v) ≡ Some a
      → IsOut x a
  group_out t newest cells hidden v a e = by (newest v) refl e
    where
      by : (o : Option ℕ) → newest v ≡ o → group_in_cell s v o ≡ Some a → IsOut x a
      by None i g = absurd (none-some a g)
      by (Some k) i g = is.foreign k v a ((cells v k i).1 ∙ hidden) g

  -- new cells, shown or not
  abbrev pub with_new_cells : Bool → (ℕ → Value) → (ℕ → Option ℕ) → Shadow
  with_new_cells t values groups = record {
    maker = x.maker;
    cells = put_at x.cells s.cell_count values;
    holds = put_at x.holds s.cell_count groups;
    is_shown = put_at x.is_shown s.cell_count t;
  }

  module _ (t : Bool) (values : ℕ → Value) (groups : ℕ → Option ℕ) where
    pub cells_grown : Grown s x (with_cells s values groups) (with_new_cells t values groups)
    cells_grown = record {
      cells = omega arith;
      contexts = omega arith;
      shown = λ k l. put_at-other x.is_shown s.cell_count t k (λ same. omega (arith, l, same));
      out = λ a h. h;
    }

    pub cells_shown : (t ≡ false → (v a : ℕ) → groups v ≡ Some a → IsOut x a)
        → IsShadow (with_cells s values groups) (with_new_cells t values groups)
    cells_shown out = record {
      out = is.out;
      fresh = is.fresh;
      same_cells = λ k v e. agree_at x.cells s.cells s.cell_count values values k v refl
          (λ ne. is.same_cells k v (sym (put_at-other x.is_shown s.cell_count t k ne) ∙ e));
      same_holds = λ k v e. agree_at x.holds s.holds s.cell_count groups groups k v refl
          (λ ne. is.same_holds k v (sym (put_at-other x.is_shown s.cell_count t k ne) ∙ e));
      foreign = λ k v a e h. elim (cases_eq k s.cell_count) [
        | inl same ↦
            out (sym (put_at-same x.is_shown s.cell_count t) ∙ (ap (put_at x.is_shown s.cell_count t) (sym same) ∙ e)) v a
            (sym (ap (λ f. f v) (ap (put_at s.holds s.cell_count groups) same ∙ put_at-same s.holds s.cell_count groups)) ∙ h)
        | inr ne ↦
            is.foreign k v a (sym (put_at-other x.is_shown s.cell_count t k ne) ∙ e)
            (sym (ap (λ f. f v) (put_at-other s.holds s.cell_count groups k ne)) ∙ h)
      ];
      unused_cells = λ k v l. agree_at x.cells s.cells s.cell_count values values k v refl
          (λ ne. is.unused_cells k v (omega (arith, l)));
      unused = λ k v l. ap (λ f. f v) (put_at-other s.holds s.cell_count groups k (λ same. omega (arith, l, same)))
          ∙ is.unused k v (omega (arith, l));
      unused_holds = λ k v l. ap (λ f. f v) (put_at-other x.holds s.cell_count groups k (λ same. omega (arith, l, same)))
          ∙ is.unused_holds k v (omega (arith, l));
      contexts = is.contexts;
    }
