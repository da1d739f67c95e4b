-- What stands beside a mark. The callee of a call is followed by the literal that is its only argument; a literal that
-- is started is led by such a callee; one under `defer` stands before its mark. Outside all bodies no call stands as a
-- whole, and no literal is called under `defer`. And each body around a mark begins with a mark of its own.
use Rattle.std.proofs.Common.{◌≡◌, ℕ, Bool, true, false, ◌⊎◌, inl, inr, List, [], ◌∷◌, ◌++◌, Some, None, Contains, refl, sym, ap, ◌∙◌, subst}
use Rattle.std.proofs.lemmas.Bool.{false≢true}
use Rattle.std.proofs.lemmas.List.Elements.{Contains-append_cases, Contains-append_left, Contains-append_right}
use Rattle.std.proofs.lemmas.Option.{none-some, same_Some}
use Rattle.tree.specs.Syntax.{Expressions, SourceFile}
use Rattle.meaning.specs.Mentions.{nowhere, Call, LiteralUse, argument_use, called, Mention, BodyPlace, Mark, mentions, runs_literal, returns, opens, closes, mention, in_body, file_marks, marks_by, of_fields, FieldMark, Moment, at_return, in_goroutine}
use Rattle.meaning.specs.Tracked.{Placed, placed, outer}
use Rattle.meaning.specs.Uses.{is_run}
use Rattle.meaning.specs.BodyEvents.{opened_by, opened_in}
use Rattle.meaning.proofs.Membership.{contains_nil, contains_here, contains_there, contains_cases}
use Rattle.meaning_runs.proofs.BodyOffsetsWithin.{Splits, placed_nil, split_both, split_body, body_placed}
use Rattle.meaning_runs.proofs.MarkForms.{is_call, is_started, literal_of, argument_is_not_run, AreMade, no_mark, both_parts, a_mention, a_call, a_call_with, a_return, a_body, a_run_body, a_field, use_at}
use Rattle.tree.specs.declared.edition.Edition.{Edition}
use Rattle.meaning_runs.proofs.FieldMarks.{FieldsOnly, no_more, and_one, Any}
use Rattle.meaning_runs.proofs.EditionMarks.{file_made}

-- among these marks one opens a literal at the offset, straight in these bodies, and it is used so
pub record OpensLiteral (marks : List Placed) (bodies : List BodyPlace) (at : ℕ) (used : LiteralUse) : Type 0 where
  pub body : BodyPlace
  pub is_there : Contains marks record { mark = opens body; bodies = body ∷ bodies }
  pub begins_there : body.at ≡ at
  pub is_used_so : body.literal ≡ used

-- the mention is the callee of the call
pub record IsCallee (marks : List Placed) (bodies : List BodyPlace) (m : Mention) (c : Call) : Type 0 where
  pub is_named : m.named ≡ c.callee
  pub declares_none : m.declares ≡ None
  pub is_placed : bodies ≡ [] → c.place ≡ nowhere
  pub literal : (at : ℕ) → literal_of c ≡ Some at → OpensLiteral marks bodies at (argument_use (Some c))

-- the body, which stands in these, is a literal that is the only argument of a call
pub record IsLed (marks : List Placed) (around : List BodyPlace) (b : BodyPlace) : Type 0 where
  pub site : ℕ
  pub call : Call
  pub is_there : Contains marks record { mark = mention site (called call) call.callee; bodies = around }
  pub is_argument : literal_of call ≡ Some b.at
  pub is_used_so : b.literal ≡ argument_use (Some call)
  pub has_no_name : b.name ≡ None

-- the mark with these bodies around it opens the body, which is the innermost of them
pub record IsOpened (marks : List Placed) (bodies : List BodyPlace) (b : BodyPlace) : Type 0 where
  pub stands_first : bodies ≡ b ∷ outer bodies
  pub not_run : outer bodies ≡ [] → is_run b.literal ≡ false
  pub led : is_started b.literal ≡ true → IsLed marks (outer bodies) b

abbrev pub IsBeside : List Placed → List BodyPlace → Mark → Type 0
IsBeside marks bodies (mentions m) = (c : Call) → m.role ≡ called c → IsCallee marks bodies m c
IsBeside marks bodies (of_fields site m) = Unit {0}
IsBeside marks bodies (runs_literal moment site at) = OpensLiteral marks bodies at (use_at moment)
IsBeside marks bodies (returns at es) = Unit {0}
IsBeside marks bodies (opens b) = IsOpened marks bodies b
IsBeside marks bodies closes = Unit {0}

-- these bodies end with this one and those around it
pub data EndsWith (b : BodyPlace) (around : List BodyPlace) : List BodyPlace → Type 0 where
  all_of_them : EndsWith b around (b ∷ around)
  one_more : {c : BodyPlace} {bs : List BodyPlace} → EndsWith b around bs → EndsWith b around (c ∷ bs)

-- More marks

abbrev AreAmong : List Placed → List Placed → Type 0
AreAmong ps qs = (p : Placed) → Contains ps p → Contains qs p

opens_among : (ps qs : List Placed) (bodies : List BodyPlace) (at : ℕ) (used : LiteralUse)
    → AreAmong ps qs
    → OpensLiteral ps bodies at used
    → OpensLiteral qs bodies at used
opens_among ps qs bodies at used among h = record {
  body = h.body;
  is_there = among _ h.is_there;
  begins_there = h.begins_there;
  is_used_so = h.is_used_so;
}

beside_among : (ps qs : List Placed) (bodies : List BodyPlace) (m : Mark)
    → AreAmong ps qs
    → IsBeside ps bodies m
    → IsBeside qs bodies m
beside_among ps qs bodies (mentions m) among h = λ c e. let r = h c e in record {
  is_named = r.is_named;
  declares_none = r.declares_none;
  is_placed = r.is_placed;
  literal = λ at q. opens_among ps qs bodies at (argument_use (Some c)) among (r.literal at q);
}
beside_among ps qs bodies (of_fields site m) among h = tt
beside_among ps qs bodies (runs_literal moment site at) among h = opens_among ps qs bodies at (use_at moment) among h
beside_among ps qs bodies (returns at es) among h = tt
beside_among ps qs bodies (opens b) among h = record {
  stands_first = h.stands_first;
  not_run = h.not_run;
  led = λ q. let r = h.led q in record {
    site = r.site;
    call = r.call;
    is_there = among _ r.is_there;
    is_argument = r.is_argument;
    is_used_so = r.is_used_so;
    has_no_name = r.has_no_name;
  };
}
beside_among ps qs bodies closes among h = tt

unstarted : (moment : Moment) → is_started (use_at moment) ≡ false
unstarted at_return = refl
unstarted in_goroutine = refl

-- Each form splits

mention_placed : (bodies : List BodyPlace) (m : Mention) (ms : List Mark)
    → placed bodies (mentions m ∷ ms) ≡ record { mark = mentions m; bodies = bodies } ∷ placed bodies ms
unfolding placed
mention_placed bodies m ms = refl

field_placed : (bodies : List BodyPlace) (site : ℕ) (m : FieldMark) (ms : List Mark)
    → placed bodies (of_fields site m ∷ ms) ≡ record { mark = of_fields site m; bodies = bodies } ∷ placed bodies ms
unfolding placed
field_placed bodies site m ms = refl

return_placed : (bodies : List BodyPlace) (n : ℕ) (es : Expressions) (ms : List Mark)
    → placed bodies (returns n es ∷ ms) ≡ record { mark = returns n es; bodies = bodies } ∷ placed bodies ms
unfolding placed
return_placed bodies n es ms = refl

deferral_placed : (bodies : List BodyPlace) (moment : Moment) (n at : ℕ) (ms : List Mark)
    → placed bodies (runs_literal moment n at ∷ ms) ≡ record { mark = runs_literal moment n at; bodies = bodies } ∷ placed bodies ms
unfolding placed
deferral_placed bodies moment n at ms = refl

first_splits : (bodies : List BodyPlace) (m : Mark) (p : Placed) (ms : List Mark)
    → ((ns : List Mark) → placed bodies (m ∷ ns) ≡ p ∷ placed bodies ns)
    → Splits bodies ms
    → Splits bodies (m ∷ ms)
first_splits bodies m p ms first h ns =
    first (ms ++ ns) ∙ ap (λ (l : List Placed). p ∷ l) (h ns) ∙ ap (λ (l : List Placed). l ++ placed bodies ns) (sym (first ms))

none_splits : (bodies : List BodyPlace) → Splits bodies []
none_splits bodies ns = ap (λ (l : List Placed). l ++ placed bodies ns) (sym (placed_nil bodies))

mention_splits : (bodies : List BodyPlace) (m : Mention) (ms : List Mark)
    → Splits bodies ms
    → Splits bodies (mentions m ∷ ms)
mention_splits bodies m ms h =
    first_splits bodies (mentions m) record { mark = mentions m; bodies = bodies } ms (mention_placed bodies m) h

-- marks of fields, and then a mention
fields_split : (bodies : List BodyPlace) {site : ℕ} (fs ms : List Mark) → FieldsOnly Any site fs → Splits bodies ms
    → Splits bodies (fs ++ ms)
fields_split bodies fs ms no_more h = h
fields_split bodies {site} fs ms (and_one {ms = rest} m p k) h =
    first_splits bodies (of_fields site m) record { mark = of_fields site m; bodies = bodies } (rest ++ ms)
    (field_placed bodies site m) (fields_split bodies rest ms k h)

pub splits : {i : Bool} (ms : List Mark) → AreMade i ms → (bodies : List BodyPlace) → Splits bodies ms
splits ms no_mark bodies = none_splits bodies
splits ms (both_parts {xs = xs} {ys = ys} h k e) bodies =
    subst (Splits bodies) (sym e) (split_both bodies xs ys (splits xs h bodies) (splits ys k bodies))
splits ms (a_mention m none) bodies = mention_splits bodies m [] (none_splits bodies)
splits ms (a_call site c none at) bodies = mention_splits bodies _ [] (none_splits bodies)
splits ms (a_field site m) bodies =
    first_splits bodies (of_fields site m) record { mark = of_fields site m; bodies = bodies } []
    (field_placed bodies site m) (none_splits bodies)
splits ms (a_call_with {ms = ns} {fs = fs} site c b is used unnamed at h k) bodies =
    let callee = mention site (called c) c.callee ∷ [] in
    split_both bodies (in_body b ns) (fs ++ callee) (split_body b bodies ns (splits ns h (b ∷ bodies)))
    (fields_split bodies fs callee k (mention_splits bodies _ [] (none_splits bodies)))
splits ms (a_return at es) bodies =
    first_splits bodies (returns at es) record { mark = returns at es; bodies = bodies } [] (return_placed bodies at es)
    (none_splits bodies)
splits ms (a_body {ms = ns} b none later h) bodies = split_body b bodies ns (splits ns h (b ∷ bodies))
splits ms (a_run_body {ms = ns} moment b site is h) bodies =
    split_both bodies (in_body b ns) (runs_literal moment site b.at ∷ [])
    (split_body b bodies ns (splits ns h (b ∷ bodies)))
    (first_splits bodies (runs_literal moment site b.at) record { mark = runs_literal moment site b.at; bodies = bodies } []
    (deferral_placed bodies moment site b.at) (none_splits bodies))

-- Places among the marks

-- these marks, placed in these bodies, are one and then others
one_first : (p q : Placed) (all rest : List Placed) → all ≡ p ∷ rest → Contains all q → (p ≡ q) ⊎ Contains rest q
one_first p q all rest e h = contains_cases p q rest (subst (λ (l : List Placed). Contains l q) e h)

is_first : (p : Placed) (all rest : List Placed) → all ≡ p ∷ rest → Contains all p
is_first p all rest e = subst (λ (l : List Placed). Contains l p) (sym e) (contains_here p rest)

are_rest : (p : Placed) (all rest : List Placed) → all ≡ p ∷ rest → AreAmong rest all
are_rest p all rest e q h = subst (λ (l : List Placed). Contains l q) (sym e) (contains_there p q rest h)

-- of marks of fields, and then a mention
in_tail : (bodies : List BodyPlace) {site : ℕ} (m : Mention) (fs : List Mark) → FieldsOnly Any site fs
    → (p : Placed)
    → Contains (placed bodies (fs ++ mentions m ∷ [])) p
    → ((x : FieldMark) × (record { mark = of_fields site x; bodies = bodies } ≡ p))
    ⊎ (record { mark = mentions m; bodies = bodies } ≡ p)
in_tail bodies m fs no_more p h =
    let only : Placed = record { mark = mentions m; bodies = bodies } in
    elim (one_first only p (placed bodies (mentions m ∷ [])) (placed bodies []) (mention_placed bodies m []) h) [
      | inl e ↦ inr e
      | inr r ↦ absurd (contains_nil p (subst (λ (l : List Placed). Contains l p) (placed_nil bodies) r))
    ]
in_tail bodies {site} m fs (and_one {ms = rest} x q k) p h =
    let first : Placed = record { mark = of_fields site x; bodies = bodies } in
    let others = rest ++ mentions m ∷ [] in
    elim (one_first first p (placed bodies (of_fields site x ∷ others)) (placed bodies others) (field_placed bodies site x others) h) [
      | inl e ↦ inl (x, e)
      | inr r ↦ in_tail bodies m rest k p r
    ]

last_there : (bodies : List BodyPlace) {site : ℕ} (m : Mention) (fs : List Mark) → FieldsOnly Any site fs
    → Contains (placed bodies (fs ++ mentions m ∷ [])) record { mark = mentions m; bodies = bodies }
last_there bodies m fs no_more =
    is_first record { mark = mentions m; bodies = bodies } (placed bodies (mentions m ∷ [])) (placed bodies [])
    (mention_placed bodies m [])
last_there bodies {site} m fs (and_one {ms = rest} x q k) =
    let others = rest ++ mentions m ∷ [] in
    are_rest record { mark = of_fields site x; bodies = bodies } (placed bodies (of_fields site x ∷ others))
    (placed bodies others) (field_placed bodies site x others) _ (last_there bodies m rest k)

-- What is beside each mark

abbrev AreBeside : List Placed → List Placed → Type 0
AreBeside ps marks = (p : Placed) → Contains ps p → IsBeside marks p.bodies p.mark

not_both : (b : Bool) → b ≡ false → b ≡ true → ⊥
not_both b e q = false≢true (sym e ∙ q)

no_call_is : (m : Mention) (c : Call) → is_call m.role ≡ false → m.role ≡ called c → ⊥
no_call_is m c none e = not_both (is_call m.role) none (ap is_call e)

same_call : (c d : Call) → called c ≡ called d → c ≡ d
same_call c d e = cc

not_empty : (b : BodyPlace) (bs : List BodyPlace) → b ∷ bs ≡ [] → ⊥
not_empty b bs e = cc

-- the callee, in a whole that has these marks
callee_beside : (marks : List Placed) (bodies : List BodyPlace) (site : ℕ) (c : Call)
    → (bodies ≡ [] → c.place ≡ nowhere)
    → ((at : ℕ) → literal_of c ≡ Some at → OpensLiteral marks bodies at (argument_use (Some c)))
    → IsBeside marks bodies (mention site (called c) c.callee)
callee_beside marks bodies site c at literal = λ d e. let same = same_call c d e in
    subst (λ x. IsCallee marks bodies record { named = c.callee; role = called c; site = site; declares = None } x) same
    (record { is_named = refl; declares_none = refl; is_placed = at; literal = literal })

module _ (b : BodyPlace) (bodies : List BodyPlace) (ms : List Mark) (split : Splits (b ∷ bodies) ms) where
  abbrev opening : Placed
  opening = record { mark = opens b; bodies = b ∷ bodies }

  is_opening : Contains (placed bodies (in_body b ms)) opening
  is_opening = is_first opening (placed bodies (in_body b ms)) (placed (b ∷ bodies) ms) (body_placed b bodies ms split)

  are_inside : AreAmong (placed (b ∷ bodies) ms) (placed bodies (in_body b ms))
  are_inside = are_rest opening (placed bodies (in_body b ms)) (placed (b ∷ bodies) ms) (body_placed b bodies ms split)

  -- a body and what stands in it
  body_beside : (marks : List Placed)
      → AreAmong (placed bodies (in_body b ms)) marks
      → IsOpened marks (b ∷ bodies) b
      → AreBeside (placed (b ∷ bodies) ms) (placed (b ∷ bodies) ms)
      → AreBeside (placed bodies (in_body b ms)) marks
  body_beside marks among opened h p there =
      elim (one_first opening p (placed bodies (in_body b ms)) (placed (b ∷ bodies) ms) (body_placed b bodies ms split) there) [
        | inl e ↦ subst (λ (q : Placed). IsBeside marks q.bodies q.mark) e opened
        | inr k ↦ beside_among (placed (b ∷ bodies) ms) marks p.bodies p.mark (λ q l. among q (are_inside q l)) (h p k)
      ]

beside : {i : Bool} (ms : List Mark)
    → AreMade i ms
    → (bodies : List BodyPlace)
    → (bodies ≡ [] → i ≡ false)
    → AreBeside (placed bodies ms) (placed bodies ms)
beside ms no_mark bodies tie p there =
    absurd (contains_nil p (subst (λ (l : List Placed). Contains l p) (placed_nil bodies) there))
beside ms (both_parts {xs = xs} {ys = ys} h k e) bodies tie p there =
    let first = placed bodies xs in
    let second = placed bodies ys in
    let is : placed bodies ms ≡ first ++ second = ap (placed bodies) e ∙ splits xs h bodies ys in
    subst (λ (l : List Placed). IsBeside l p.bodies p.mark) (sym is)
    (elim (Contains-append_cases first second p (subst (λ (l : List Placed). Contains l p) is there)) [
      | inl l ↦ beside_among first (first ++ second) p.bodies p.mark (λ q m. Contains-append_left first second q m)
          (beside xs h bodies tie p l)
      | inr r ↦ beside_among second (first ++ second) p.bodies p.mark (λ q m. Contains-append_right first second q m)
          (beside ys k bodies tie p r)
    ])
beside ms (a_mention m none) bodies tie p there =
    let only : Placed = record { mark = mentions m; bodies = bodies } in
    elim (one_first only p (placed bodies (mentions m ∷ [])) (placed bodies []) (mention_placed bodies m []) there) [
      | inl e ↦ subst (λ (q : Placed). IsBeside (placed bodies (mentions m ∷ [])) q.bodies q.mark) e
          (λ c q. absurd (no_call_is m c none q))
      | inr r ↦ absurd (contains_nil p (subst (λ (l : List Placed). Contains l p) (placed_nil bodies) r))
    ]
beside ms (a_call site c none at) bodies tie p there =
    let all = placed bodies (mention site (called c) c.callee ∷ []) in
    let only : Placed = record { mark = mention site (called c) c.callee; bodies = bodies } in
    elim (one_first only p all (placed bodies []) (mention_placed bodies _ []) there) [
      | inl e ↦ subst (λ (q : Placed). IsBeside all q.bodies q.mark) e
          (callee_beside all bodies site c (λ q. at (tie q)) (λ n q. absurd (none-some n (sym none ∙ q))))
      | inr r ↦ absurd (contains_nil p (subst (λ (l : List Placed). Contains l p) (placed_nil bodies) r))
    ]
beside ms (a_field site m) bodies tie p there =
    let only : Placed = record { mark = of_fields site m; bodies = bodies } in
    elim (one_first only p (placed bodies (of_fields site m ∷ [])) (placed bodies []) (field_placed bodies site m []) there) [
      | inl e ↦ subst (λ (q : Placed). IsBeside (placed bodies (of_fields site m ∷ [])) q.bodies q.mark) e tt
      | inr r ↦ absurd (contains_nil p (subst (λ (l : List Placed). Contains l p) (placed_nil bodies) r))
    ]
beside ms (a_call_with {ms = ns} {fs = fs} site c b is used unnamed at h k) bodies tie p there =
    let callee : Mention = record { named = c.callee; role = called c; site = site; declares = None } in
    let body = placed bodies (in_body b ns) in
    let tail = placed bodies (fs ++ mentions callee ∷ []) in
    let split = splits ns h (b ∷ bodies) in
    let whole : placed bodies (in_body b ns ++ (fs ++ mentions callee ∷ [])) ≡ body ++ tail =
    split_body b bodies ns split (fs ++ mentions callee ∷ []) in
    subst (λ (l : List Placed). IsBeside l p.bodies p.mark) (sym whole)
    (elim (Contains-append_cases body tail p (subst (λ (l : List Placed). Contains l p) whole there)) [
      | inl l ↦ body_beside b bodies ns split (body ++ tail) (λ q m. Contains-append_left body tail q m) record {
        stands_first = refl;
        not_run = λ q. ap is_run used ∙ argument_is_not_run (Some c);
        led = λ q. record {
          site = site;
          call = c;
          is_there = Contains-append_right body tail record { mark = mentions callee; bodies = bodies }
              (last_there bodies callee fs k);
          is_argument = is;
          is_used_so = used;
          has_no_name = unnamed;
        };
      } (beside ns h (b ∷ bodies) (λ q. absurd (not_empty b bodies q))) p l
      | inr r ↦ elim (in_tail bodies callee fs k p r) [
        | inl f ↦ subst (λ (q : Placed). IsBeside (body ++ tail) q.bodies q.mark) f.1 tt
        | inr e ↦ subst (λ (q : Placed). IsBeside (body ++ tail) q.bodies q.mark) e
            (callee_beside (body ++ tail) bodies site c (λ q. at (tie q)) (λ n q. record {
              body = b;
              is_there = Contains-append_left body tail (opening b bodies ns split) (is_opening b bodies ns split);
              begins_there = same_Some b.at n (sym is ∙ q);
              is_used_so = used;
            }))
      ]
    ])
beside ms (a_return at es) bodies tie p there =
    let only : Placed = record { mark = returns at es; bodies = bodies } in
    elim (one_first only p (placed bodies (returns at es ∷ [])) (placed bodies []) (return_placed bodies at es []) there) [
      | inl e ↦ subst (λ (q : Placed). IsBeside (placed bodies (returns at es ∷ [])) q.bodies q.mark) e tt
      | inr r ↦ absurd (contains_nil p (subst (λ (l : List Placed). Contains l p) (placed_nil bodies) r))
    ]
beside ms (a_body {ms = ns} b none later h) bodies tie p there =
    body_beside b bodies ns (splits ns h (b ∷ bodies)) (placed bodies (in_body b ns)) (λ q l. l) record {
      stands_first = refl;
      not_run = λ q. later (tie q);
      led = λ q. absurd (not_both (is_started b.literal) none q);
    } (beside ns h (b ∷ bodies) (λ q. absurd (not_empty b bodies q))) p there
beside ms (a_run_body {ms = ns} moment b site is h) bodies tie p there =
    let body = placed bodies (in_body b ns) in
    let last = placed bodies (runs_literal moment site b.at ∷ []) in
    let split = splits ns h (b ∷ bodies) in
    let only : Placed = record { mark = runs_literal moment site b.at; bodies = bodies } in
    let whole : placed bodies (in_body b ns ++ runs_literal moment site b.at ∷ []) ≡ body ++ last =
    split_body b bodies ns split (runs_literal moment site b.at ∷ []) in
    subst (λ (l : List Placed). IsBeside l p.bodies p.mark) (sym whole)
    (elim (Contains-append_cases body last p (subst (λ (l : List Placed). Contains l p) whole there)) [
      | inl l ↦ body_beside b bodies ns split (body ++ last) (λ q m. Contains-append_left body last q m) record {
        stands_first = refl;
        not_run = λ q. absurd (false≢true (sym (tie q)));
        led = λ q. absurd (not_both _ (ap is_started is ∙ unstarted moment) q);
      } (beside ns h (b ∷ bodies) (λ q. absurd (not_empty b bodies q))) p l
      | inr r ↦ elim (one_first only p last (placed bodies []) (deferral_placed bodies moment site b.at []) r) [
        | inl e ↦ subst (λ (q : Placed). IsBeside (body ++ last) q.bodies q.mark) e (record {
          body = b;
          is_there = Contains-append_left body last (opening b bodies ns split) (is_opening b bodies ns split);
          begins_there = refl;
          is_used_so = is;
        })
        | inr none ↦ absurd (contains_nil p (subst (λ (l : List Placed). Contains l p) (placed_nil bodies) none))
      ]
    ])

-- Bodies around a mark

-- it is one of those around all of them, or begins among them
abbrev IsBegun : BodyPlace → List BodyPlace → List BodyPlace → List Placed → Type 0
IsBegun b around bodies marks = EndsWith b around bodies ⊎ Contains marks record { mark = opens b; bodies = b ∷ around }

-- each mark among these
abbrev AreBegun : List BodyPlace → List Placed → Type 0
AreBegun bodies marks = (p : Placed) (b : BodyPlace) (around : List BodyPlace)
    → Contains marks p
    → EndsWith b around p.bodies
    → IsBegun b around bodies marks

begun_among : (b : BodyPlace) (around bodies : List BodyPlace) (ps qs : List Placed)
    → AreAmong ps qs
    → IsBegun b around bodies ps
    → IsBegun b around bodies qs
begun_among b around bodies ps qs among (inl h) = inl h
begun_among b around bodies ps qs among (inr h) = inr (among _ h)

one_begun : (bodies : List BodyPlace) (m : Mark) (marks : List Placed)
    → marks ≡ record { mark = m; bodies = bodies } ∷ placed bodies []
    → AreBegun bodies marks
one_begun bodies m marks e p b around there ends =
    elim (one_first record { mark = m; bodies = bodies } p marks (placed bodies []) e there) [
      | inl q ↦ inl (subst (λ (x : Placed). EndsWith b around x.bodies) (sym q) ends)
      | inr r ↦ absurd (contains_nil p (subst (λ (l : List Placed). Contains l p) (placed_nil bodies) r))
    ]

both_begun : (bodies : List BodyPlace) (ps qs marks : List Placed)
    → marks ≡ ps ++ qs
    → AreBegun bodies ps
    → AreBegun bodies qs
    → AreBegun bodies marks
both_begun bodies ps qs marks e h k p b around there ends =
    subst (IsBegun b around bodies) (sym e)
    (elim (Contains-append_cases ps qs p (subst (λ (l : List Placed). Contains l p) e there)) [
      | inl l ↦ begun_among b around bodies ps (ps ++ qs) (λ q m. Contains-append_left ps qs q m) (h p b around l ends)
      | inr r ↦ begun_among b around bodies qs (ps ++ qs) (λ q m. Contains-append_right ps qs q m) (k p b around r ends)
    ])

-- one that ends with others ends with these, or is this one
in_them : (c : BodyPlace) (bodies : List BodyPlace) (marks : List Placed) (b : BodyPlace) (around bs : List BodyPlace)
    → bs ≡ c ∷ bodies
    → Contains marks record { mark = opens c; bodies = c ∷ bodies }
    → EndsWith b around bs
    → IsBegun b around bodies marks
in_them c bodies marks b around bs e there all_of_them =
    let first : c ≡ b = cc in
    let rest : bodies ≡ around = cc in
    inr (subst (λ x. Contains marks record { mark = opens x; bodies = x ∷ around }) first
    (subst (λ (l : List BodyPlace). Contains marks record { mark = opens c; bodies = c ∷ l }) rest there))
in_them c bodies marks b around bs e there (one_more {bs = tail} h) =
    let same : tail ≡ bodies = cc in
    inl (subst (EndsWith b around) same h)

body_begun : (c : BodyPlace) (bodies : List BodyPlace) (ms : List Mark)
    → Splits (c ∷ bodies) ms
    → AreBegun (c ∷ bodies) (placed (c ∷ bodies) ms)
    → AreBegun bodies (placed bodies (in_body c ms))
body_begun c bodies ms split h p b around there ends =
    let whole = placed bodies (in_body c ms) in
    let begins = is_opening c bodies ms split in
    elim (one_first (opening c bodies ms split) p whole (placed (c ∷ bodies) ms) (body_placed c bodies ms split) there) [
      | inl e ↦ in_them c bodies whole b around p.bodies (sym (ap (λ (x : Placed). x.bodies) e)) begins ends
      | inr r ↦ elim (h p b around r ends) [
        | inl k ↦ in_them c bodies whole b around (c ∷ bodies) refl begins k
        | inr k ↦ inr (are_inside c bodies ms split _ k)
      ]
    ]

begun : {i : Bool} (ms : List Mark) → AreMade i ms → (bodies : List BodyPlace) → AreBegun bodies (placed bodies ms)
begun ms no_mark bodies = λ p b around there ends.
    absurd (contains_nil p (subst (λ (l : List Placed). Contains l p) (placed_nil bodies) there))
begun ms (both_parts {xs = xs} {ys = ys} h k e) bodies =
    both_begun bodies (placed bodies xs) (placed bodies ys) (placed bodies ms)
    (ap (placed bodies) e ∙ splits xs h bodies ys) (begun xs h bodies) (begun ys k bodies)
begun ms (a_mention m none) bodies = one_begun bodies (mentions m) _ (mention_placed bodies m [])
begun ms (a_call site c none at) bodies = one_begun bodies _ _ (mention_placed bodies _ [])
begun ms (a_field site m) bodies = one_begun bodies (of_fields site m) _ (field_placed bodies site m [])
begun ms (a_call_with {ms = ns} {fs = fs} site c b is used unnamed at h k) bodies =
    let callee : Mention = record { named = c.callee; role = called c; site = site; declares = None } in
    let split = splits ns h (b ∷ bodies) in
    both_begun bodies (placed bodies (in_body b ns)) (placed bodies (fs ++ mentions callee ∷ [])) _
    (split_body b bodies ns split (fs ++ mentions callee ∷ [])) (body_begun b bodies ns split (begun ns h (b ∷ bodies)))
    (λ p d around there ends. inl (elim (in_tail bodies callee fs k p there) [
      | inl f ↦ subst (λ (q : Placed). EndsWith d around q.bodies) (sym f.1) ends
      | inr e ↦ subst (λ (q : Placed). EndsWith d around q.bodies) (sym e) ends
    ]))
begun ms (a_return at es) bodies = one_begun bodies (returns at es) _ (return_placed bodies at es [])
begun ms (a_body {ms = ns} b none later h) bodies =
    body_begun b bodies ns (splits ns h (b ∷ bodies)) (begun ns h (b ∷ bodies))
begun ms (a_run_body {ms = ns} moment b site is h) bodies =
    let split = splits ns h (b ∷ bodies) in
    let last = runs_literal moment site b.at ∷ [] in
    both_begun bodies (placed bodies (in_body b ns)) (placed bodies last) _ (split_body b bodies ns split last)
    (body_begun b bodies ns split (begun ns h (b ∷ bodies)))
    (one_begun bodies (runs_literal moment site b.at) (placed bodies last) (deferral_placed bodies moment site b.at []))

-- A file

-- a body that a mark opens is one of those that begin
pub opened_there : (marks : List Placed) (m : Placed) (b : BodyPlace)
    → Contains marks m
    → m.mark ≡ opens b
    → Contains (opened_in marks) b
opened_there [] m b h e = absurd (contains_nil m h)
opened_there (x ∷ xs) m b h e = elim (contains_cases x m xs h) [
  | inl q ↦ Contains-append_left (opened_by x.mark) (opened_in xs) b
      (subst (λ k. Contains (opened_by k) b) (sym (ap (λ (y : Placed). y.mark) q ∙ e)) (contains_here b []))
  | inr r ↦ Contains-append_right (opened_by x.mark) (opened_in xs) b (opened_there xs m b r e)
]

pub record AreInForm (marks : List Placed) : Type 0 where
  pub beside : (p : Placed) → Contains marks p → IsBeside marks p.bodies p.mark
  pub begun : (p : Placed) (b : BodyPlace) (around : List BodyPlace)
      → Contains marks p
      → EndsWith b around p.bodies
      → Contains marks record { mark = opens b; bodies = b ∷ around }

ends_not : (b : BodyPlace) (around bs : List BodyPlace) → bs ≡ [] → EndsWith b around bs → ⊥
ends_not b around bs e all_of_them = not_empty b around e
ends_not b around bs e (one_more {c = c} {bs = rest} h) = not_empty c rest e

pub in_form : (edition : Edition) (some_keep : Bool) (file : SourceFile)
    → AreInForm (placed [] (marks_by edition some_keep (file_marks file)))
in_form edition some_keep file =
    let marks = marks_by edition some_keep (file_marks file) in
    let made = file_made edition some_keep file in
    record {
      beside = beside marks made [] (λ q. refl);
      begun = λ p b around there ends. elim (begun marks made [] p b around there ends) [
        | inl none ↦ absurd (ends_not b around [] refl none)
        | inr h ↦ h
      ];
    }
