-- What a frame does: one that is shown does the same where only some packages run, and stays as it has to be, and so does
-- one that is not shown.
use Rattle.std.proofs.Common.{◌≡◌, ℕ, ◌<◌, ◌⊎◌, inl, inr, Bool, false, List, ◌∷◌, Option, Some, None, Contains, refl, sym, ap, subst, ◌∙◌, arith}
use Rattle.std.proofs.lemmas.Bool.{cases_eq}
use Rattle.std.proofs.lemmas.List.Elements.{Contains-append_cases}
use Rattle.std.proofs.lemmas.Option.{none-some, same_Some}
use Rattle.meaning.specs.Code.{Occurrence, Code}
use Rattle.meaning.specs.Tracked.{GroupState}
use Rattle.meaning.specs.Uses.{Callee, Event}
use Rattle.meaning.proofs.Membership.{contains_here, contains_there, contains_cases}
use Rattle.meaning_reports.specs.UsedImports.{HandsThere}
use Rattle.meaning_runs.specs.Bodies.{Program, Body}
use Rattle.meaning_runs.specs.EventSources.{HasSource}
use Rattle.meaning_runs.specs.World.{Value, nothing, cancel_function, Maker, outside, frame_at, Place, Store, put_at, IsAny, any_nothing, any_function, IsOutside, outside_none, outside_group, IsEarlier, with_new, calling, ending, waiting_for, MayEndWait, with_group, Given, Lent, Passing, Saved, saved_pass, Stage, runs, exits, InObject, Frame}
use Rattle.meaning_runs.specs.Steps.{GoesOn, at_code, RunsSaved, Obtains, new_one, earlier_one, none_at_all, Makes, zero_group, with_context, MayJoin, joining, WasCalled}
use Rattle.meaning_runs.proofs.Contexts.{put_at-same, put_at-other}
use Rattle.meaning_runs.proofs.EventSources.{EachIn}
use Rattle.meaning_runs.proofs.Places.{runs-inj, exits≢runs}
use Rattle.meaning_runs.proofs.Shown.{Shadow, shadow_store, IsOut, IsShadow, Grown, FinePass, T, FineItem, FineWait, FineSaved, FineKept, FineCode, FineFrame, frame_grows, OccurrenceFits, moved}

-- Small changes of stores

module _ (s : Store) (x : Shadow) where
  abbrev pub S : Store
  S = shadow_store s x

  pub calling_shown : (value : Value) → calling S value ≡ shadow_store (calling s value) x
  calling_shown nothing = refl
  calling_shown (cancel_function a) = refl

  pub ending_shown : (o : Option ℕ) → ending S o ≡ shadow_store (ending s o) x
  ending_shown None = refl
  ending_shown (Some a) = refl

  pub waiting_shown : (o : Option ℕ) → waiting_for S o ≡ shadow_store (waiting_for s o) x
  waiting_shown None = refl
  waiting_shown (Some a) = ending_shown (s.group_context a)

  pub may_end_shown : (o : Option ℕ) → MayEndWait s o → MayEndWait S o
  may_end_shown None h = tt
  may_end_shown (Some a) h = h

  pub earlier_shown : (parent : Option ℕ) → IsEarlier s parent → IsEarlier S parent
  earlier_shown None h = tt
  earlier_shown (Some q) h = h

  pub any_shown : (value : Value) → IsAny s value → IsAny S value
  any_shown nothing h = any_nothing
  any_shown (cancel_function a) (any_function l) = any_function l

  pub was_called_shown : (value : Value) → WasCalled s value → WasCalled S value
  was_called_shown nothing h = tt
  was_called_shown (cancel_function a) h = h

  pub outside_shown : IsShadow s x → (o : Option ℕ) → IsOutside s o → IsOutside S o
  outside_shown is None h = outside_none
  outside_shown is (Some a) (outside_group e) = outside_group (is.out a e)

  pub obtains_shown : (c : Callee) (value : Value) (made : Store) → Obtains s c value made
      → Obtains S c value (shadow_store made x)
  obtains_shown c value made (new_one parent earlier) = new_one parent (earlier_shown parent earlier)
  obtains_shown c value made (earlier_one a m l) = earlier_one a m l
  obtains_shown c value made (none_at_all m) = none_at_all m

  pub makes_shown : (state : GroupState) (context : Option ℕ) (made : Store) → Makes s state context made
      → Makes S state context (shadow_store made x)
  makes_shown state context made zero_group = zero_group
  makes_shown state context made (with_context parent earlier) = with_context parent (earlier_shown parent earlier)

  -- where contexts alone change
  pub record Contextual (after : Store) : Type 0 where
    pub is : IsShadow after x
    pub grown : Grown s x after x

  module _ (is : IsShadow s x) where
    pub no_context : Contextual s
    no_context = record { is = is; grown = record { cells = omega arith; contexts = omega arith; shown = λ k l. refl; out = λ a h. h } }

    pub ending_contextual : (o : Option ℕ) → Contextual (ending s o)
    ending_contextual None = no_context
    ending_contextual (Some a) = record {
      is = record {
        out = is.out;
        fresh = is.fresh;
        same_cells = is.same_cells;
        same_holds = is.same_holds;
        foreign = is.foreign;
        unused_cells = is.unused_cells;
        unused = is.unused;
        unused_holds = is.unused_holds;
        contexts = is.contexts;
      };
      grown = record { cells = omega arith; contexts = omega arith; shown = λ k l. refl; out = λ b h. h };
    }

    pub waiting_contextual : (o : Option ℕ) → Contextual (waiting_for s o)
    waiting_contextual None = no_context
    waiting_contextual (Some a) = ending_contextual (s.group_context a)

    pub calling_contextual : (value : Value) → Contextual (calling s value)
    calling_contextual nothing = no_context
    calling_contextual (cancel_function a) = record {
      is = record {
        out = is.out;
        fresh = is.fresh;
        same_cells = is.same_cells;
        same_holds = is.same_holds;
        foreign = is.foreign;
        unused_cells = is.unused_cells;
        unused = is.unused;
        unused_holds = is.unused_holds;
        contexts = is.contexts;
      };
      grown = record { cells = omega arith; contexts = omega arith; shown = λ k l. refl; out = λ b h. h };
    }

    pub new_contextual : (parent : Option ℕ) → Contextual (with_new s parent)
    new_contextual parent = record {
      is = record {
        out = is.out;
        fresh = is.fresh;
        same_cells = is.same_cells;
        same_holds = is.same_holds;
        foreign = is.foreign;
        unused_cells = is.unused_cells;
        unused = is.unused;
        unused_holds = is.unused_holds;
        contexts = λ a b e. let l = is.contexts a b e in omega (arith, l);
      };
      grown = record { cells = omega arith; contexts = omega arith; shown = λ k l. refl; out = λ b h. h };
    }

    pub obtains_contextual : (c : Callee) (value : Value) (made : Store) → Obtains s c value made → Contextual made
    obtains_contextual c value made (new_one parent earlier) = new_contextual parent
    obtains_contextual c value made (earlier_one a m l) = no_context
    obtains_contextual c value made (none_at_all m) = no_context

    pub makes_contextual : (state : GroupState) (context : Option ℕ) (made : Store) → Makes s state context made
        → Contextual made × ((b : ℕ) → context ≡ Some b → b < made.context_count)
    makes_contextual state context made zero_group = (no_context, λ b e. absurd (none-some b e))
    makes_contextual state context made (with_context parent earlier) =
        (new_contextual parent, λ b e. let same : s.context_count ≡ b = same_Some s.context_count b e in omega (arith, same))

-- a group is made by a frame or outside, and is shown as made by a frame or outside
pub record MakesShown (s : Store) (x : Shadow) (maker its : Maker) (context : Option ℕ) : Type 0 where
  pub is : IsShadow (with_group s maker context) (record x { maker = put_at x.maker s.group_count its })
  pub grown : Grown s x (with_group s maker context) (record x { maker = put_at x.maker s.group_count its })

pub group_made : (s : Store) (x : Shadow) (is : IsShadow s x) (maker its : Maker) (context : Option ℕ)
    → (maker ≡ outside → its ≡ outside)
    → ((b : ℕ) → context ≡ Some b → b < s.context_count)
    → MakesShown s x maker its context
group_made s x is maker its context out below = record {
  is = record {
    out = at_maker;
    fresh = λ a l e. is.fresh a (omega (arith, l))
        (sym (put_at-other x.maker s.group_count its a (λ same. omega (arith, l, same))) ∙ e);
    same_cells = is.same_cells;
    same_holds = is.same_holds;
    foreign = λ k v a e h. still a (is.foreign k v a e h);
    unused_cells = is.unused_cells;
    unused = is.unused;
    unused_holds = is.unused_holds;
    contexts = λ a b e. elim (cases a) [
      | inl same ↦ below b (sym (ap (put_at s.group_context s.group_count context) same ∙ put_at-same s.group_context s.group_count context) ∙ e)
      | inr ne ↦ is.contexts a b (sym (put_at-other s.group_context s.group_count context a ne) ∙ e)
    ];
  };
  grown = record { cells = omega arith; contexts = omega arith; shown = λ k l. refl; out = still };
}
  where
    cases : (a : ℕ) → (a ≡ s.group_count) ⊎ (a ≡ s.group_count → ⊥)
    cases a = cases_eq a s.group_count

    still : (a : ℕ) → x.maker a ≡ outside → put_at x.maker s.group_count its a ≡ outside
    still a h = put_at-other x.maker s.group_count its a (λ same. is.fresh a (omega (arith, same)) h) ∙ h

    at_maker : (a : ℕ) → put_at s.maker s.group_count maker a ≡ outside → put_at x.maker s.group_count its a ≡ outside
    at_maker a e = elim (cases a) [
      | inl same ↦
          ap (put_at x.maker s.group_count its) same ∙ (put_at-same x.maker s.group_count its
          ∙ out (sym (ap (put_at s.maker s.group_count maker) same ∙ put_at-same s.maker s.group_count maker) ∙ e))
      | inr ne ↦
          put_at-other x.maker s.group_count its a ne
          ∙ is.out a (sym (put_at-other s.maker s.group_count maker a ne) ∙ e)
    ]

pub frame-outside : (place : Place) → frame_at place ≡ outside → ⊥
frame-outside place e = cc

pub grown_then : {s : Store} {x : Shadow} {t : Store} {y : Shadow} {after : Store} {z : Shadow} → Grown s x t y
    → Grown t y after z
    → Grown s x after z
grown_then one two =
    let a = one.cells in
    let b = two.cells in
    let c = one.contexts in
    let d = two.contexts in
    record {
      cells = omega (arith, a, b);
      contexts = omega (arith, c, d);
      shown = λ k l. two.shown k (omega (arith, l, a)) ∙ one.shown k l;
      out = λ i h. two.out i (one.out i h);
    }

-- Frames

module _ (p : Program) where
  code_runs : (b : Body) (rest : Code Event) → EachIn (HasSource b) rest → FineCode p b (runs rest)
  code_runs b rest h c e = subst (EachIn (HasSource b)) (runs-inj rest c e) h

  code_exits : (b : Body) → FineCode p b exits
  code_exits b c e = absurd (exits≢runs c e)

  -- other things are kept in objects, or given to others
  pub keeps_now : {s : Store} {x : Shadow} {f : Frame} → FineFrame p s x f
      → (kept : List InObject) (given : List Value)
      → FineKept s kept
      → FineFrame p s x (record f { kept = kept; given_away = given })
  keeps_now it kept given fine = record {
    is_of = it.is_of;
    newest = it.newest;
    waits = it.waits;
    saves = it.saves;
    keeps = fine;
    code = it.code;
  }

  module _ {s : Store} {x : Shadow} {f : Frame} (it : FineFrame p s x f) {after : Store} {y : Shadow}
      (grown : Grown s x after y) where
    abbrev b : Body
    b = f.body

    abbrev now : FineFrame p after y f
    now = frame_grows p grown f it

    pub past_it : {o : Option (Occurrence Event)} {rest : Code Event} (d : GoesOn f o rest)
        → EachIn (HasSource f.body) rest × OccurrenceFits (HasSource f.body) o
    past_it {o} {rest} d = moved (HasSource f.body) d.code rest o d.moves (it.code d.code d.stage)

    -- it goes on, with other items saved, and another call under way
    pub with_items : (stage : Stage) (w : Option Passing) (ys : List Saved) (obtained made : List ℕ) (handed : List Value)
        → FineCode p f.body stage
        → FineWait p after y f.body w
        → FineSaved p after y f.body ys
        → FineFrame p after y (record f { stage = stage; waiting = w; saved = ys; obtained = obtained; made = made; handed_on = handed })
    with_items stage w ys obtained made handed code waits saves = record {
      is_of = it.is_of;
      newest = now.newest;
      waits = waits;
      saves = saves;
      keeps = now.keeps;
      code = code;
    }

    pub goes_on : {o : Option (Occurrence Event)} {rest : Code Event} (d : GoesOn f o rest)
        → FineFrame p after y (at_code f rest)
    goes_on {o} {rest} d =
        with_items (runs rest) f.waiting f.saved f.obtained f.made f.handed_on (code_runs f.body rest (past_it d).0) now.waits
        now.saves

    pub saves_more : {o : Option (Occurrence Event)} {rest : Code Event} (d : GoesOn f o rest) (z : Saved)
        → FineItem p after y f.body z
        → FineFrame p after y (record f { stage = runs rest; saved = z ∷ f.saved })
    saves_more {o} {rest} d z fine =
        with_items (runs rest) f.waiting (z ∷ f.saved) f.obtained f.made f.handed_on
        (code_runs f.body rest (past_it d).0) now.waits (one_more z f.saved fine now.saves)
      where
        one_more : (z : Saved) (ys : List Saved) → FineItem p after y f.body z → FineSaved p after y f.body ys
            → FineSaved p after y f.body (z ∷ ys)
        one_more z ys fine rest u c = elim (contains_cases z u ys c) [
          | inl same ↦ subst (FineItem p after y f.body) same fine
          | inr more ↦ rest u more
        ]

    pub pops : {z : Saved} {left : List Saved} (r : RunsSaved f z left) → FineFrame p after y (record f { saved = left })
    pops {z} {left} r =
        with_items f.stage f.waiting left f.obtained f.made f.handed_on it.code now.waits
        (λ u c. now.saves u (subst (λ l. Contains l u) (sym r.saved) (contains_there z u left c)))

    pub popped : {z : Saved} {left : List Saved} (r : RunsSaved f z left) → FineItem p s x f.body z
    popped {z} {left} r = it.saves z (subst (λ l. Contains l z) (sym r.saved) (contains_here z left))

    pub waits_no_more : FineFrame p after y (record f { waiting = None })
    waits_no_more =
        with_items f.stage None f.saved f.obtained f.made f.handed_on it.code (λ r e. absurd (none-some r e)) now.saves

    pub saves_its_pass : (r : Passing) → f.waiting ≡ Some r
        → FineFrame p after y (record f { waiting = None; saved = saved_pass r ∷ f.saved })
    saves_its_pass r e =
        with_items f.stage None (saved_pass r ∷ f.saved) f.obtained f.made f.handed_on it.code
        (λ q i. absurd (none-some q i))
        (λ u c. elim (contains_cases (saved_pass r) u f.saved c) [
          | inl same ↦ subst (FineItem p after y f.body) same (now.waits r e)
          | inr more ↦ now.saves u more
        ])

    pub returns : (handed : List Value) → FineFrame p after y (record f { stage = exits; handed_on = handed })
    returns handed =
        with_items exits f.waiting f.saved f.obtained f.made handed (code_exits f.body) now.waits now.saves

    -- one more argument of a call
    pub joins : {o : Option (Occurrence Event)} {rest : Code Event} (d : GoesOn f o rest) (c : Callee) (later : Bool)
        (position : ℕ) (xs : List Given) (ys : List Lent)
        → MayJoin c later position f.waiting
        → HandsThere f.body.file c
        → ((g : Given) → Contains xs g → IsAny after g.value)
        → (T p f.body.home ≡ false → (l : Lent) (a : ℕ) → Contains ys l → l.group ≡ Some a → IsOut y a)
        → FineFrame p after y (record f { stage = runs rest; waiting = Some (joining f.waiting c later xs ys) })
    joins {o} {rest} d c later position xs ys may hands any out =
        with_items (runs rest) (Some (joining f.waiting c later xs ys)) f.saved f.obtained f.made f.handed_on
        (code_runs f.body rest (past_it d).0)
        (λ r e. subst (FinePass (T p) after y f.body) (same_Some (joining f.waiting c later xs ys) r e)
        (by f.waiting may now.waits))
        now.saves
      where
        by : (w : Option Passing) → MayJoin c later position w → FineWait p after y f.body w
            → FinePass (T p) after y f.body (joining w c later xs ys)
        by None may waits = record { any = any; handed = hands; lent = out }
        by (Some r) may waits =
            let fine = waits r refl in
            record {
              any = λ g h. elim (Contains-append_cases xs r.given g h) [ inl k ↦ any g k | inr k ↦ fine.any g k ];
              handed = fine.handed;
              lent = λ e l a h i. elim (Contains-append_cases ys r.lent l h)
                  [ inl k ↦ out e l a k i | inr k ↦ fine.lent e l a k i ];
            }
