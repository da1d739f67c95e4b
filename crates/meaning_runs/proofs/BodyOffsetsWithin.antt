-- Marks that stand within a range of offsets: their bodies begin in it, each behind those around it, one at an offset.
use Rattle.std.proofs.Common.{◌≡◌, ℕ, ◌+◌, ◌<◌, ◌≤◌, ◌⊎◌, inl, inr, List, [], ◌∷◌, ◌++◌, Contains, refl, sym, ap, ◌∙◌, subst, arith, append_assoc, append-nil}
use Rattle.std.proofs.lemmas.List.Elements.{Contains-append_cases}
use Rattle.meaning.specs.Mentions.{BodyPlace, Mark, mentions, runs_literal, returns, opens, closes, in_body, of_fields}
use Rattle.meaning.specs.Tracked.{Placed, placed}
use Rattle.meaning.proofs.Membership.{contains_cases, contains_here, contains_nil, contains_there}
use Rattle.meaning_runs.specs.BodyOffsets.{AreFalling}

-- all these bodies begin before the offset
abbrev pub AllBefore : ℕ → List BodyPlace → Type 0
AllBefore lo bodies = (c : BodyPlace) → Contains bodies c → c.at < lo

abbrev pub Falls : List BodyPlace → List Mark → Type 0
Falls bodies ms = (p : Placed) → Contains (placed bodies ms) p → AreFalling p.bodies

-- the marks leave the bodies around them as they were
abbrev pub Splits : List BodyPlace → List Mark → Type 0
Splits bodies ms = (ns : List Mark) → placed bodies (ms ++ ns) ≡ placed bodies ms ++ placed bodies ns

-- the second mark opens no body where the first one does
abbrev OpensElsewhere : Mark → Mark → Type 0
OpensElsewhere m n = (b c : BodyPlace) → m ≡ opens b → n ≡ opens c → b.at ≡ c.at → ⊥

-- no two of the marks open a body at one offset
abbrev pub OpenOnce : List Mark → Type 0
OpenOnce [] = Unit {0}
OpenOnce (m ∷ ms) = ((n : Mark) → Contains ms n → OpensElsewhere m n) × OpenOnce ms

open_once_both : (ms ns : List Mark) → OpenOnce ms → OpenOnce ns
    → ((m n : Mark) → Contains ms m → Contains ns n → OpensElsewhere m n)
    → OpenOnce (ms ++ ns)
open_once_both [] ns h k across = k
open_once_both (m ∷ ms) ns h k across = (
  λ n among. elim (Contains-append_cases ms ns n among) [
    | inl x ↦ h.0 n x
    | inr x ↦ across m n (contains_here m ms) x
  ],
  open_once_both ms ns h.1 k λ l n x y. across l n (contains_there m l ms x) y,
)

pub record Within (lo hi : ℕ) (ms : List Mark) : Type 0 where
  pub goes_up : lo ≤ hi
  pub splits : (bodies : List BodyPlace) → Splits bodies ms
  pub falls : (bodies : List BodyPlace) → AreFalling bodies → AllBefore lo bodies → Falls bodies ms
  pub inside : (b : BodyPlace) → Contains ms (opens b) → (lo ≤ b.at) × (b.at < hi)
  pub one_each : (b c : BodyPlace) → Contains ms (opens b) → Contains ms (opens c) → b.at ≡ c.at → b ≡ c
  pub once : OpenOnce ms

-- no body begins or ends here
abbrev pub IsPlain : Mark → Type 0
IsPlain (mentions m) = Unit {0}
IsPlain (of_fields site m) = Unit {0}
IsPlain (runs_literal moment site at) = Unit {0}
IsPlain (returns at es) = Unit {0}
IsPlain (opens b) = ⊥
IsPlain closes = ⊥

placed_plain : (bodies : List BodyPlace) (m : Mark) (ms : List Mark) → IsPlain m → placed bodies (m ∷ ms) ≡ record { mark = m; bodies = bodies } ∷ placed bodies ms
unfolding placed
placed_plain bodies (mentions m) ms h = refl
placed_plain bodies (of_fields site m) ms h = refl
placed_plain bodies (runs_literal moment site at) ms h = refl
placed_plain bodies (returns at es) ms h = refl
placed_plain bodies (opens b) ms h = absurd h
placed_plain bodies closes ms h = absurd h

pub placed_nil : (bodies : List BodyPlace) → placed bodies [] ≡ []
unfolding placed
placed_nil bodies = refl

pub no_marks : {lo hi : ℕ} → lo ≤ hi → Within lo hi []
no_marks up = record {
  goes_up = up;
  splits = λ bodies ns. sym (ap (λ (l : List Placed). l ++ placed bodies ns) (placed_nil bodies));
  falls = λ bodies h below p among. absurd (contains_nil p (subst (λ (l : List Placed). Contains l p) (placed_nil bodies) among));
  inside = λ b among. absurd (contains_nil (opens b) among);
  one_each = λ b c first second same. absurd (contains_nil (opens b) first);
  once = tt;
}

not_plain : (b : BodyPlace) (m : Mark) → IsPlain m → m ≡ opens b → ⊥
not_plain b m plain e = subst IsPlain e plain

behind_plain : (b : BodyPlace) (m : Mark) (ms : List Mark) → IsPlain m → Contains (m ∷ ms) (opens b) → Contains ms (opens b)
behind_plain b m ms plain among = elim (contains_cases m (opens b) ms among) [
  | inl e ↦ absurd (not_plain b m plain e)
  | inr h ↦ h
]

pub plain_and : {lo hi : ℕ} (m : Mark) {ms : List Mark} → IsPlain m → Within lo hi ms → Within lo hi (m ∷ ms)
plain_and m {ms} plain w = record {
  goes_up = w.goes_up;
  splits = λ bodies ns.
      placed_plain bodies m (ms ++ ns) plain
      ∙ (ap (λ (l : List Placed). record { mark = m; bodies = bodies } ∷ l) (w.splits bodies ns)
      ∙ sym (ap (λ (l : List Placed). l ++ placed bodies ns) (placed_plain bodies m ms plain)));
  falls = λ bodies h below p among.
      elim (contains_cases record { mark = m; bodies = bodies } p (placed bodies ms) (subst (λ (l : List Placed). Contains l p) (placed_plain bodies m ms plain) among)) [
        | inl e ↦ subst (λ (q : Placed). AreFalling q.bodies) e h
        | inr rest ↦ w.falls bodies h below p rest
      ];
  inside = λ b among. w.inside b (behind_plain b m ms plain among);
  one_each = λ b c first second same. w.one_each b c (behind_plain b m ms plain first) (behind_plain c m ms plain second) same;
  once = (λ n among b c e f same. not_plain b m plain e, w.once);
}

pub wider : {lo mid hi : ℕ} {ms : List Mark} → mid ≤ hi → Within lo mid ms → Within lo hi ms
wider {lo} {mid} {hi} up w = record {
  goes_up = let k : lo ≤ mid = w.goes_up in omega arith;
  splits = w.splits;
  falls = w.falls;
  inside = λ b among. let k = w.inside b among in (k.0, omega (arith, k.1, up));
  one_each = w.one_each;
  once = w.once;
}

pub longer : {low lo hi : ℕ} {ms : List Mark} → low ≤ lo → Within lo hi ms → Within low hi ms
longer {low} {lo} {hi} up w = record {
  goes_up = let k : lo ≤ hi = w.goes_up in omega arith;
  splits = w.splits;
  falls = λ bodies h below. w.falls bodies h λ c among. omega (arith, below c among, up);
  inside = λ b among. let k = w.inside b among in (omega (arith, k.0, up), k.1);
  one_each = w.one_each;
  once = w.once;
}

pub split_both : (bodies : List BodyPlace) (ms ns : List Mark) → Splits bodies ms → Splits bodies ns → Splits bodies (ms ++ ns)
split_both bodies ms ns h k others =
    ap (placed bodies) (append_assoc ms ns others)
    ∙ (h (ns ++ others)
    ∙ (ap (λ (l : List Placed). placed bodies ms ++ l) (k others)
    ∙ (sym (append_assoc (placed bodies ms) (placed bodies ns) (placed bodies others))
    ∙ sym (ap (λ (l : List Placed). l ++ placed bodies others) (h ns)))))

falls_both : (bodies : List BodyPlace) (ms ns : List Mark) → Splits bodies ms → Falls bodies ms → Falls bodies ns → Falls bodies (ms ++ ns)
falls_both bodies ms ns s h k p among =
    elim (Contains-append_cases (placed bodies ms) (placed bodies ns) p (subst (λ (l : List Placed). Contains l p) (s ns) among)) [
      | inl first ↦ h p first
      | inr second ↦ k p second
    ]

inside_both : {lo hi : ℕ} {ms ns : List Mark} → Within lo hi ms → Within lo hi ns → (b : BodyPlace) → Contains (ms ++ ns) (opens b) → (lo ≤ b.at) × (b.at < hi)
inside_both {ms = ms} {ns = ns} h k b among = elim (Contains-append_cases ms ns (opens b) among) [
  | inl first ↦ h.inside b first
  | inr second ↦ k.inside b second
]

-- of two ranges one comes behind the other
abbrev pub Apart : ℕ → ℕ → ℕ → ℕ → Type 0
Apart lo hi low high = (x y : ℕ) → lo ≤ x → x < hi → low ≤ y → y < high → x ≡ y → ⊥

one_of_both : {lo hi low high : ℕ} {ms ns : List Mark} → Apart lo hi low high → Within lo hi ms → Within low high ns → (b c : BodyPlace) → Contains (ms ++ ns) (opens b) → Contains (ms ++ ns) (opens c) → b.at ≡ c.at → b ≡ c
one_of_both {ms = ms} {ns = ns} apart h k b c first second same =
    elim (Contains-append_cases ms ns (opens b) first) [
      | inl f ↦ elim (Contains-append_cases ms ns (opens c) second) [
        | inl s ↦ h.one_each b c f s same
        | inr s ↦ let x = h.inside b f in let y = k.inside c s in absurd (apart b.at c.at x.0 x.1 y.0 y.1 same)
      ]
      | inr f ↦ elim (Contains-append_cases ms ns (opens c) second) [
        | inl s ↦ let y = k.inside b f in let x = h.inside c s in absurd (apart c.at b.at x.0 x.1 y.0 y.1 (sym same))
        | inr s ↦ k.one_each b c f s same
      ]
    ]

once_of_both : {lo hi low high : ℕ} {ms ns : List Mark} → Apart lo hi low high → Within lo hi ms → Within low high ns → OpenOnce (ms ++ ns)
once_of_both {ms = ms} {ns = ns} apart h k = open_once_both ms ns h.once k.once λ m n first second b c e f same.
    let x = h.inside b (subst (λ (o : Mark). Contains ms o) e first) in
    let y = k.inside c (subst (λ (o : Mark). Contains ns o) f second) in
    apart b.at c.at x.0 x.1 y.0 y.1 same

both_apart : {lo hi l h' l2 h2 : ℕ} {ms ns : List Mark} → Apart l h' l2 h2 → Within l h' ms → Within l2 h2 ns → Within lo hi ms → Within lo hi ns → Within lo hi (ms ++ ns)
both_apart {ms = ms} {ns = ns} apart first second h k = record {
  goes_up = h.goes_up;
  splits = λ bodies. split_both bodies ms ns (h.splits bodies) (k.splits bodies);
  falls = λ bodies fall below. falls_both bodies ms ns (h.splits bodies) (h.falls bodies fall below) (k.falls bodies fall below);
  inside = inside_both h k;
  one_each = one_of_both apart first second;
  once = once_of_both apart first second;
}

-- one part, and then the other
pub both_within : {lo mid hi : ℕ} {ms ns : List Mark} → Within lo mid ms → Within mid hi ns → Within lo hi (ms ++ ns)
both_within {lo} {mid} {hi} h k =
    both_apart (λ x y a b c d e. omega (arith, b, c, e)) h k (wider k.goes_up h) (longer h.goes_up k)

-- the marks of the second part before those of the first
pub turned_within : {lo mid hi : ℕ} {ms ns : List Mark} → Within lo mid ms → Within mid hi ns → Within lo hi (ns ++ ms)
turned_within {lo} {mid} {hi} h k =
    both_apart (λ x y a b c d e. omega (arith, a, d, e)) k h (longer h.goes_up k) (wider k.goes_up h)

-- one body
inner_placed : (b : BodyPlace) (bodies : List BodyPlace) (ms ns : List Mark) → Splits (b ∷ bodies) ms → placed (b ∷ bodies) ((ms ++ closes ∷ []) ++ ns) ≡ placed (b ∷ bodies) ms ++ placed bodies ns
unfolding placed
inner_placed b bodies ms ns s = ap (placed (b ∷ bodies)) (append_assoc ms (closes ∷ []) ns) ∙ s (closes ∷ ns)

alone_placed : (b : BodyPlace) (bodies : List BodyPlace) (ms : List Mark) → Splits (b ∷ bodies) ms → placed (b ∷ bodies) (ms ++ closes ∷ []) ≡ placed (b ∷ bodies) ms
unfolding placed
alone_placed b bodies ms s = s (closes ∷ []) ∙ append-nil (placed (b ∷ bodies) ms)

pub opened_placed : (b : BodyPlace) (bodies : List BodyPlace) (ms : List Mark)
    → placed bodies (opens b ∷ ms) ≡ record { mark = opens b; bodies = b ∷ bodies } ∷ placed (b ∷ bodies) ms
unfolding placed
opened_placed b bodies ms = refl

pub body_placed : (b : BodyPlace) (bodies : List BodyPlace) (ms : List Mark)
    → Splits (b ∷ bodies) ms
    → placed bodies (in_body b ms) ≡ record { mark = opens b; bodies = b ∷ bodies } ∷ placed (b ∷ bodies) ms
body_placed b bodies ms s =
    opened_placed b bodies (ms ++ closes ∷ [])
    ∙ ap (λ (l : List Placed). record { mark = opens b; bodies = b ∷ bodies } ∷ l) (alone_placed b bodies ms s)

pub split_body : (b : BodyPlace) (bodies : List BodyPlace) (ms : List Mark) → Splits (b ∷ bodies) ms → Splits bodies (in_body b ms)
split_body b bodies ms s ns =
    opened_placed b bodies ((ms ++ closes ∷ []) ++ ns)
    ∙ (ap (λ (l : List Placed). record { mark = opens b; bodies = b ∷ bodies } ∷ l) (inner_placed b bodies ms ns s)
    ∙ sym (ap (λ (l : List Placed). l ++ placed bodies ns) (body_placed b bodies ms s)))

same_body : (b c : BodyPlace) → opens b ≡ opens c → b ≡ c
same_body b c e = cc

not_closed : (b : BodyPlace) → closes ≡ opens b → ⊥
not_closed b e = cc

pub of_body : (b c : BodyPlace) (ms : List Mark) → Contains (in_body b ms) (opens c) → (b ≡ c) ⊎ Contains ms (opens c)
of_body b c ms among = elim (contains_cases (opens b) (opens c) (ms ++ closes ∷ []) among) [
  | inl e ↦ inl (same_body b c e)
  | inr rest ↦ elim (Contains-append_cases ms (closes ∷ []) (opens c) rest) [
    | inl h ↦ inr h
    | inr last ↦ elim (contains_cases closes (opens c) [] last) [
      | inl e ↦ absurd (not_closed c e)
      | inr h ↦ absurd (contains_nil (opens c) h)
    ]
  ]
]

one_more : (b : BodyPlace) (bodies : List BodyPlace) → AllBefore b.at bodies → AllBefore (b.at + 1) (b ∷ bodies)
one_more b bodies below c among = elim (contains_cases b c bodies among) [
  | inl e ↦ let same : b.at ≡ c.at = ap (λ (x : BodyPlace). x.at) e in omega arith
  | inr h ↦ omega (arith, below c h)
]

-- a body, and those that begin in it
body_once : {hi : ℕ} (b : BodyPlace) {ms : List Mark} → Within (b.at + 1) hi ms → OpenOnce (in_body b ms)
body_once b {ms} w = (
  λ n among c d e f same. elim (Contains-append_cases ms (closes ∷ []) n among) [
    | inl x ↦
        let here : b.at ≡ c.at = ap (λ (y : BodyPlace). y.at) (same_body b c e) in
        let k = w.inside d (subst (λ (o : Mark). Contains ms o) f x) in
        omega (arith, here, same, k.0)
    | inr last ↦ elim (contains_cases closes n [] last) [
      | inl g ↦ not_closed d (g ∙ f)
      | inr none ↦ contains_nil n none
    ]
  ],
  open_once_both ms (closes ∷ []) w.once (λ n none. absurd (contains_nil n none), tt) λ m n first last c d e f same.
      elim (contains_cases closes n [] last) [
        | inl g ↦ not_closed d (g ∙ f)
        | inr none ↦ contains_nil n none
      ],
)

pub body_within : {hi : ℕ} (b : BodyPlace) {ms : List Mark} → Within (b.at + 1) hi ms → Within b.at hi (in_body b ms)
body_within {hi} b {ms} w = record {
  goes_up = let k : b.at + 1 ≤ hi = w.goes_up in omega arith;
  splits = λ bodies. split_body b bodies ms (w.splits (b ∷ bodies));
  falls = λ bodies fall below p among.
      elim (contains_cases record { mark = opens b; bodies = b ∷ bodies } p (placed (b ∷ bodies) ms) (subst (λ (l : List Placed). Contains l p) (body_placed b bodies ms (w.splits (b ∷ bodies))) among)) [
        | inl e ↦ subst (λ (q : Placed). AreFalling q.bodies) e (below, fall)
        | inr rest ↦ w.falls (b ∷ bodies) (below, fall) (one_more b bodies below) p rest
      ];
  inside = λ c among. elim (of_body b c ms among) [
    | inl e ↦ let same : b.at ≡ c.at = ap (λ (x : BodyPlace). x.at) e in let k : b.at + 1 ≤ hi = w.goes_up in (omega arith, omega arith)
    | inr h ↦ let k = w.inside c h in (omega (arith, k.0), k.1)
  ];
  one_each = λ c d first second same. elim (of_body b c ms first) [
    | inl e ↦ elim (of_body b d ms second) [
      | inl f ↦ sym e ∙ f
      | inr f ↦ let k = w.inside d f in let one : b.at ≡ c.at = ap (λ (x : BodyPlace). x.at) e in absurd (omega (arith, k.0, one, same))
    ]
    | inr e ↦ elim (of_body b d ms second) [
      | inl f ↦ let k = w.inside c e in let one : b.at ≡ d.at = ap (λ (x : BodyPlace). x.at) f in absurd (omega (arith, k.0, one, same))
      | inr f ↦ w.one_each c d e f same
    ]
  ];
  once = body_once b w;
}
