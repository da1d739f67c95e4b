-- Marks whose sites stand within a range of offsets, but for those of what stands around the part: each return is the
-- last mark of its site, no other site for whose events the code asks is that of a return, and no two sites of a code are
-- one.
use Rattle.std.proofs.Common.{◌≡◌, ℕ, ◌<◌, ◌≤◌, ◌⊎◌, inl, inr, true, false, List, [], ◌∷◌, ◌++◌, Contains, refl, sym, ap, ◌∙◌, subst, arith, true≢false}
use Rattle.std.specs.Prelude.{◌==◌, ◌-◌}
use Rattle.std.proofs.lemmas.List.Elements.{Contains-append_left, Contains-append_cases}
use Rattle.std.proofs.lemmas.Bool.{false_from_ne_true}
use Rattle.tree.specs.Syntax.{Expressions}
use Rattle.meaning.specs.Mentions.{BodyPlace, Mark, mentions, runs_literal, returns, opens, closes, in_body, of_fields}
use Rattle.meaning.specs.BodyEvents.{is_site}
use Rattle.meaning.proofs.Membership.{contains_cases, contains_nil, contains_here, contains_there}
use Rattle.meaning_runs.proofs.Places.{eqb_is}
use Rattle.meaning_runs.proofs.AskedSites.{CodeSite, asked_at, unasked_at, place_of, AreDistinct, asked_statements, asked_body}
use Rattle.meaning_runs.proofs.BodyOffsetsWithin.{Apart, of_body}

-- the site of what stands around a part: none, one that begins with the part or before it, or one that begins before it
pub data Around : Type 0 where
  no_site : Around
  from_site : ℕ → Around
  behind_site : ℕ → Around

-- the offset is that site
abbrev pub IsAround : Around → ℕ → Type 0
IsAround no_site s = ⊥
IsAround (from_site n) s = s ≡ n
IsAround (behind_site n) s = s ≡ n

-- a part that begins at the offset can stand so
abbrev pub Fits : Around → ℕ → Type 0
Fits no_site lo = Unit {0}
Fits (from_site n) lo = n ≤ lo
Fits (behind_site n) lo = n < lo

pub still_fits : (own : Around) (lo hi : ℕ) → lo ≤ hi → Fits own lo → Fits own hi
still_fits no_site lo hi up h = tt
still_fits (from_site n) lo hi up h = omega (arith, up, h)
still_fits (behind_site n) lo hi up h = omega (arith, up, h)

fits_before : (own : Around) (lo s : ℕ) → Fits own lo → IsAround own s → s ≤ lo
fits_before no_site lo s h k = absurd k
fits_before (from_site n) lo s h k = omega (arith, h, k)
fits_before (behind_site n) lo s h k = omega (arith, h, k)

-- the second may stand behind the first
abbrev pub MayFollow : Mark → Mark → Type 0
MayFollow (returns s es) m = is_site m s ≡ false
MayFollow mark m = Unit {0}

-- behind a return no mark has its site
abbrev pub ReturnsEnd : List Mark → Type 0
ReturnsEnd [] = Unit {0}
ReturnsEnd (m ∷ ms) = ((n : Mark) → Contains ms n → MayFollow m n) × ReturnsEnd ms

-- the code of a body that begins here asks for the events of the site
pub record AskedInside (ms : List Mark) (s : ℕ) : Type 0 where
  pub body : BodyPlace
  pub opened : Contains ms (opens body)
  pub among : Contains (asked_statements body.statements) (asked_at s)

-- the site is one of these, or that of a body that begins here
abbrev pub IsAsked : List CodeSite → List Mark → ℕ → Type 0
IsAsked asks ms s = Contains asks (asked_at s) ⊎ AskedInside ms s

-- no two sites of the body's code are one, and all stand before the offset
abbrev pub HasSites : ℕ → BodyPlace → Type 0
HasSites hi b = AreDistinct (asked_body b) × ((t : CodeSite) → Contains (asked_body b) t → place_of t < hi)

-- What is so of a part from `lo` to `hi` in a statement with the site `own`: where the sites of its marks, of its
-- returns and of what its code asks for are, that the last two differ, and that returns end their sites. No two sites of
-- its code are one, and none of a body that begins here.
pub record Sited (own : Around) (lo hi : ℕ) (asks : List CodeSite) (ms : List Mark) : Type 0 where
  pub sites : (m : Mark) (s : ℕ) → Contains ms m → is_site m s ≡ true → IsAround own s ⊎ ((lo ≤ s) × (s < hi))
  pub returning : (s : ℕ) (es : Expressions) → Contains ms (returns s es) → (IsAround own s → ⊥) × (lo ≤ s) × (s < hi)
  pub asked : (s : ℕ) → IsAsked asks ms s → (lo ≤ s) × (s < hi)
  pub differ : (s : ℕ) (es : Expressions) → IsAsked asks ms s → Contains ms (returns s es) → ⊥
  pub last : ReturnsEnd ms
  pub stands : (t : CodeSite) → Contains asks t → (lo ≤ place_of t) × (place_of t < hi)
  pub distinct : AreDistinct asks
  pub bodies : (b : BodyPlace) → Contains ms (opens b) → HasSites hi b

-- the site of these marks is that of what stands around
abbrev pub IsOwn : Around → Mark → Type 0
IsOwn own (mentions m) = IsAround own m.site
IsOwn own (of_fields site m) = IsAround own site
IsOwn own (runs_literal moment site at) = IsAround own site
IsOwn own mark = ⊥

-- so is that of each of them
abbrev pub AreOwn : Around → List Mark → Type 0
AreOwn own [] = Unit {0}
AreOwn own (m ∷ ms) = IsOwn own m × AreOwn own ms

-- the mark is that of a mention, or of fields, at the site around
abbrev pub IsMention : Around → Mark → Type 0
IsMention own (mentions m) = IsAround own m.site
IsMention own (of_fields site m) = IsAround own site
IsMention own mark = ⊥

-- each of them is
abbrev pub AreMentions : Around → List Mark → Type 0
AreMentions own [] = Unit {0}
AreMentions own (m ∷ ms) = IsMention own m × AreMentions own ms

pub mention_is_own : (own : Around) (m : Mark) → IsMention own m → IsOwn own m
mention_is_own own (mentions m) h = h
mention_is_own own (of_fields site m) h = h
mention_is_own own (runs_literal moment site at) h = absurd h
mention_is_own own (returns site es) h = absurd h
mention_is_own own (opens b) h = absurd h
mention_is_own own closes h = absurd h

pub mentions_are_own : (own : Around) (ms : List Mark) → AreMentions own ms → AreOwn own ms
mentions_are_own own [] h = tt
mentions_are_own own (m ∷ ms) h = (mention_is_own own m h.0, mentions_are_own own ms h.1)

own_among : (own : Around) (ms : List Mark) (m : Mark) → AreOwn own ms → Contains ms m → IsOwn own m
own_among own [] m h among = absurd (contains_nil m among)
own_among own (n ∷ ms) m h among = elim (contains_cases n m ms among) [
  | inl e ↦ subst (λ (x : Mark). IsOwn own x) e h.0
  | inr rest ↦ own_among own ms m h.1 rest
]

own_site : (own : Around) (m : Mark) (s : ℕ) → IsOwn own m → is_site m s ≡ true → IsAround own s
own_site own (mentions m) s h e = subst (λ (n : ℕ). IsAround own n) (eqb_is m.site s e) h
own_site own (of_fields site m) s h e = subst (λ (n : ℕ). IsAround own n) (eqb_is site s e) h
own_site own (runs_literal moment site at) s h e = subst (λ (n : ℕ). IsAround own n) (eqb_is site s e) h
own_site own (returns site es) s h e = absurd h
own_site own (opens b) s h e = absurd h
own_site own closes s h e = absurd h

follows_own : (own : Around) (m n : Mark) → IsOwn own m → MayFollow m n
follows_own own (mentions m) n h = tt
follows_own own (of_fields site m) n h = tt
follows_own own (runs_literal moment site at) n h = tt
follows_own own (returns site es) n h = absurd h
follows_own own (opens b) n h = absurd h
follows_own own closes n h = absurd h

own_last : (own : Around) (ms : List Mark) → AreOwn own ms → ReturnsEnd ms
own_last own [] h = tt
own_last own (m ∷ ms) h = (λ n among. follows_own own m n h.0, own_last own ms h.1)

pub own_sited : (own : Around) (lo hi : ℕ) (ms : List Mark) → AreOwn own ms → Sited own lo hi [] ms
own_sited own lo hi ms h = record {
  sites = λ m s among e. inl (own_site own m s (own_among own ms m h among) e);
  returning = λ s es among. absurd (own_among own ms (returns s es) h among);
  asked = λ s k. elim k [
    | inl none ↦ absurd (contains_nil (asked_at s) none)
    | inr w ↦ absurd (own_among own ms (opens w.body) h w.opened)
  ];
  differ = λ s es k among. own_among own ms (returns s es) h among;
  last = own_last own ms h;
  stands = λ t none. absurd (contains_nil t none);
  distinct = tt;
  bodies = λ b among. absurd (own_among own ms (opens b) h among);
}

pub wider_sited : {own : Around} {lo mid hi : ℕ} {asks : List CodeSite} {ms : List Mark}
    → mid ≤ hi
    → Sited own lo mid asks ms
    → Sited own lo hi asks ms
wider_sited up w = record {
  sites = λ m s among e. elim (w.sites m s among e) [ inl x ↦ inl x | inr x ↦ inr (x.0, omega (arith, x.1, up)) ];
  returning = λ s es among. let x = w.returning s es among in (x.0, x.1, omega (arith, x.2, up));
  asked = λ s k. let x = w.asked s k in (x.0, omega (arith, x.1, up));
  differ = w.differ;
  last = w.last;
  stands = λ t k. let x = w.stands t k in (x.0, omega (arith, x.1, up));
  distinct = w.distinct;
  bodies = λ b among. let x = w.bodies b among in (x.0, λ t k. let l = x.1 t k in omega (arith, l, up));
}

pub longer_sited : {own : Around} {low lo hi : ℕ} {asks : List CodeSite} {ms : List Mark}
    → low ≤ lo
    → Sited own lo hi asks ms
    → Sited own low hi asks ms
longer_sited up w = record {
  sites = λ m s among e. elim (w.sites m s among e) [ inl x ↦ inl x | inr x ↦ inr (omega (arith, x.0, up), x.1) ];
  returning = λ s es among. let x = w.returning s es among in (x.0, omega (arith, x.1, up), x.2);
  asked = λ s k. let x = w.asked s k in (omega (arith, x.0, up), x.1);
  differ = w.differ;
  last = w.last;
  stands = λ t k. let x = w.stands t k in (omega (arith, x.0, up), x.1);
  distinct = w.distinct;
  bodies = w.bodies;
}

-- Mentions at sites that the code asks for

-- a mention at one of these, or a mark of fields
abbrev pub IsAskedMention : List CodeSite → Mark → Type 0
IsAskedMention asks (mentions m) = Contains asks (asked_at m.site)
IsAskedMention asks (of_fields site m) = Contains asks (asked_at site)
IsAskedMention asks mark = ⊥

abbrev pub AreAskedMentions : List CodeSite → List Mark → Type 0
AreAskedMentions asks [] = Unit {0}
AreAskedMentions asks (m ∷ ms) = IsAskedMention asks m × AreAskedMentions asks ms

asked_mention : (asks : List CodeSite) (ms : List Mark) (m : Mark) → AreAskedMentions asks ms → Contains ms m → IsAskedMention asks m
asked_mention asks [] m h among = absurd (contains_nil m among)
asked_mention asks (n ∷ ms) m h among = elim (contains_cases n m ms among) [
  | inl e ↦ subst (λ (x : Mark). IsAskedMention asks x) e h.0
  | inr rest ↦ asked_mention asks ms m h.1 rest
]

asked_site : (asks : List CodeSite) (m : Mark) (s : ℕ) → IsAskedMention asks m → is_site m s ≡ true → Contains asks (asked_at s)
asked_site asks (mentions m) s h e = subst (λ (n : ℕ). Contains asks (asked_at n)) (eqb_is m.site s e) h
asked_site asks (of_fields site m) s h e = subst (λ (n : ℕ). Contains asks (asked_at n)) (eqb_is site s e) h
asked_site asks (runs_literal moment site at) s h e = absurd h
asked_site asks (returns site es) s h e = absurd h
asked_site asks (opens b) s h e = absurd h
asked_site asks closes s h e = absurd h

asked_follows : (asks : List CodeSite) (m n : Mark) → IsAskedMention asks m → MayFollow m n
asked_follows asks (mentions m) n h = tt
asked_follows asks (of_fields site m) n h = tt
asked_follows asks (runs_literal moment site at) n h = tt
asked_follows asks (returns site es) n h = absurd h
asked_follows asks (opens b) n h = absurd h
asked_follows asks closes n h = absurd h

asked_end : (asks : List CodeSite) (ns ms : List Mark) → AreAskedMentions asks ns → ReturnsEnd ms → ReturnsEnd (ns ++ ms)
asked_end asks [] ms h k = k
asked_end asks (n ∷ ns) ms h k = (λ m among. asked_follows asks n m h.0, asked_end asks ns ms h.1 k)

pub mentions_before : {own : Around} {lo hi : ℕ} {asks : List CodeSite} {ms : List Mark} (ns : List Mark)
    → AreAskedMentions asks ns
    → Sited own lo hi asks ms
    → Sited own lo hi asks (ns ++ ms)
mentions_before {asks = asks} {ms = ms} ns are w = record {
  sites = λ m s among e. elim (Contains-append_cases ns ms m among) [
    | inl x ↦ inr (w.stands (asked_at s) (asked_site asks m s (asked_mention asks ns m are x) e))
    | inr x ↦ w.sites m s x e
  ];
  returning = λ s es among. elim (Contains-append_cases ns ms (returns s es) among) [
    | inl x ↦ absurd (asked_mention asks ns (returns s es) are x)
    | inr x ↦ w.returning s es x
  ];
  asked = λ s k. w.asked s (behind s k);
  differ = λ s es k among. elim (Contains-append_cases ns ms (returns s es) among) [
    | inl x ↦ asked_mention asks ns (returns s es) are x
    | inr x ↦ w.differ s es (behind s k) x
  ];
  last = asked_end asks ns ms are w.last;
  stands = w.stands;
  distinct = w.distinct;
  bodies = λ b among. elim (Contains-append_cases ns ms (opens b) among) [
    | inl x ↦ absurd (asked_mention asks ns (opens b) are x)
    | inr x ↦ w.bodies b x
  ];
}
  where
    behind : (s : ℕ) → IsAsked asks (ns ++ ms) s → IsAsked asks ms s
    behind s (inl h) = inl h
    behind s (inr o) = elim (Contains-append_cases ns ms (opens o.body) o.opened) [
      | inl x ↦ absurd (asked_mention asks ns (opens o.body) are x)
      | inr x ↦ inr record { body = o.body; opened = x; among = o.among }
    ]

-- Two parts

asked_of_both : (qs rs : List CodeSite) (ms ns : List Mark) (s : ℕ)
    → IsAsked (qs ++ rs) (ms ++ ns) s
    → IsAsked qs ms s ⊎ IsAsked rs ns s
asked_of_both qs rs ms ns s (inl h) = elim (Contains-append_cases qs rs (asked_at s) h) [
  | inl x ↦ inl (inl x)
  | inr x ↦ inr (inl x)
]
asked_of_both qs rs ms ns s (inr w) = elim (Contains-append_cases ms ns (opens w.body) w.opened) [
  | inl x ↦ inl (inr record { body = w.body; opened = x; among = w.among })
  | inr x ↦ inr (inr record { body = w.body; opened = x; among = w.among })
]

follows_both : (ms ns : List Mark)
    → ReturnsEnd ms
    → ReturnsEnd ns
    → ((m n : Mark) → Contains ms m → Contains ns n → MayFollow m n)
    → ReturnsEnd (ms ++ ns)
follows_both [] ns h k across = k
follows_both (m ∷ ms) ns h k across = (
  λ n among. elim (Contains-append_cases ms ns n among) [
    | inl x ↦ h.0 n x
    | inr x ↦ across m n (contains_here m ms) x
  ],
  follows_both ms ns h.1 k λ l n x y. across l n (contains_there m l ms x) y,
)

pub distinct_both : (qs rs : List CodeSite)
    → AreDistinct qs
    → AreDistinct rs
    → ((s t : CodeSite) → Contains qs s → Contains rs t → place_of s ≡ place_of t → ⊥)
    → AreDistinct (qs ++ rs)
distinct_both [] rs h k across = k
distinct_both (s ∷ qs) rs h k across = (
  λ t among. elim (Contains-append_cases qs rs t among) [
    | inl x ↦ h.0 t x
    | inr x ↦ across s t (contains_here s qs) x
  ],
  distinct_both qs rs h.1 k λ l t x y. across l t (contains_there s l qs x) y,
)

module _ {own : Around} {lo hi low high : ℕ} {qs rs : List CodeSite} {ms ns : List Mark} (apart : Apart lo hi low high)
    (h : Sited own lo hi qs ms) (k : Sited own low high rs ns) where
  across : (m n : Mark) → Contains ms m → Contains ns n → MayFollow m n
  across (mentions m) n x y = tt
  across (of_fields site m) n x y = tt
  across (runs_literal moment site at) n x y = tt
  across (returns s es) n x y = false_from_ne_true (is_site n s) λ e.
      let r = h.returning s es x in
      elim (k.sites n s y e) [ inl z ↦ r.0 z | inr z ↦ apart s s r.1 r.2 z.0 z.1 refl ]
  across (opens b) n x y = tt
  across closes n x y = tt

  differs : (s : ℕ) (es : Expressions) → IsAsked (qs ++ rs) (ms ++ ns) s → Contains (ms ++ ns) (returns s es) → ⊥
  differs s es asked among =
      elim (asked_of_both qs rs ms ns s asked) [
        | inl a ↦ elim (Contains-append_cases ms ns (returns s es) among) [
          | inl x ↦ h.differ s es a x
          | inr x ↦ let p = h.asked s a in let r = k.returning s es x in apart s s p.0 p.1 r.1 r.2 refl
        ]
        | inr a ↦ elim (Contains-append_cases ms ns (returns s es) among) [
          | inl x ↦ let p = k.asked s a in let r = h.returning s es x in apart s s r.1 r.2 p.0 p.1 refl
          | inr x ↦ k.differ s es a x
        ]
      ]

  sited_apart : {least most : ℕ}
      → Sited own least most qs ms
      → Sited own least most rs ns
      → Sited own least most (qs ++ rs) (ms ++ ns)
  sited_apart wide broad = record {
    sites = λ m s among e. elim (Contains-append_cases ms ns m among) [
      | inl x ↦ wide.sites m s x e
      | inr x ↦ broad.sites m s x e
    ];
    returning = λ s es among. elim (Contains-append_cases ms ns (returns s es) among) [
      | inl x ↦ wide.returning s es x
      | inr x ↦ broad.returning s es x
    ];
    asked = λ s a. elim (asked_of_both qs rs ms ns s a) [ inl x ↦ wide.asked s x | inr x ↦ broad.asked s x ];
    differ = differs;
    last = follows_both ms ns h.last k.last across;
    stands = λ t among. elim (Contains-append_cases qs rs t among) [
      | inl x ↦ wide.stands t x
      | inr x ↦ broad.stands t x
    ];
    distinct = distinct_both qs rs h.distinct k.distinct λ s t x y same.
        let p = h.stands s x in
        let q = k.stands t y in
        apart (place_of s) (place_of t) p.0 p.1 q.0 q.1 same;
    bodies = λ b among. elim (Contains-append_cases ms ns (opens b) among) [
      | inl x ↦ wide.bodies b x
      | inr x ↦ broad.bodies b x
    ];
  }

-- one part, and then the other
pub both_sited : {own : Around} {lo mid hi : ℕ} {qs rs : List CodeSite} {ms ns : List Mark}
    → lo ≤ mid
    → mid ≤ hi
    → Sited own lo mid qs ms
    → Sited own mid hi rs ns
    → Sited own lo hi (qs ++ rs) (ms ++ ns)
both_sited up on h k =
    sited_apart (λ x y a b c d e. omega (arith, b, c, e)) h k (wider_sited on h) (longer_sited up k)

-- the marks of the second part before those of the first
pub turned_sited : {own : Around} {lo mid hi : ℕ} {qs rs : List CodeSite} {ms ns : List Mark}
    → lo ≤ mid
    → mid ≤ hi
    → Sited own lo mid qs ms
    → Sited own mid hi rs ns
    → Sited own lo hi (rs ++ qs) (ns ++ ms)
turned_sited up on h k =
    sited_apart (λ x y a b c d e. omega (arith, a, d, e)) k h (longer_sited up k) (wider_sited on h)

-- marks of the site around, before the others or behind them
pub own_before : {own : Around} {lo hi : ℕ} {asks : List CodeSite} {ms : List Mark} (ns : List Mark)
    → AreOwn own ns
    → lo ≤ hi
    → Sited own lo hi asks ms
    → Sited own lo hi asks (ns ++ ms)
own_before {own} {lo} {hi} ns are up h = both_sited (omega arith) up (own_sited own lo lo ns are) h

pub own_behind : {own : Around} {lo hi : ℕ} {ms : List Mark} (ns : List Mark)
    → AreOwn own ns
    → lo ≤ hi
    → Sited own lo hi [] ms
    → Sited own lo hi [] (ms ++ ns)
own_behind {own} {lo} {hi} ns are up h = both_sited up (omega arith) h (own_sited own hi hi ns are)

-- What a statement makes of its parts

-- the sites of other statements are none of the site around
pub foreign_sited : {n lo hi : ℕ} {asks : List CodeSite} {ms : List Mark}
    → n < lo
    → Sited no_site lo hi asks ms
    → Sited (behind_site n) lo hi asks ms
foreign_sited before h = record {
  sites = λ m s among e. elim (h.sites m s among e) [ inl x ↦ absurd x | inr x ↦ inr x ];
  returning = λ s es among. let x = h.returning s es among in (λ e. absurd (omega (arith, before, x.1, e)), x.1, x.2);
  asked = h.asked;
  differ = h.differ;
  last = h.last;
  stands = h.stands;
  distinct = h.distinct;
  bodies = h.bodies;
}

pub past_sited : {n lo hi : ℕ} {asks : List CodeSite} {ms : List Mark}
    → Sited (from_site n) lo hi asks ms
    → Sited (behind_site n) lo hi asks ms
past_sited h = record {
  sites = λ m s among e. h.sites m s among e;
  returning = λ s es among. h.returning s es among;
  asked = h.asked;
  differ = h.differ;
  last = h.last;
  stands = h.stands;
  distinct = h.distinct;
  bodies = h.bodies;
}

pub unasked_sited : {own : Around} {lo hi : ℕ} {asks : List CodeSite} {ms : List Mark}
    → Sited own lo hi asks ms
    → Sited own lo hi [] ms
unasked_sited h = record {
  sites = h.sites;
  returning = h.returning;
  asked = λ s k. elim k [ inl none ↦ absurd (contains_nil (asked_at s) none) | inr w ↦ h.asked s (inr w) ];
  differ = λ s es k among. elim k [ inl none ↦ absurd (contains_nil (asked_at s) none) | inr w ↦ h.differ s es (inr w) among ];
  last = h.last;
  stands = λ t none. absurd (contains_nil t none);
  distinct = tt;
  bodies = h.bodies;
}

same_asked : (n s : ℕ) → asked_at n ≡ asked_at s → n ≡ s
same_asked n s e = cc

not_asked : (n s : ℕ) → unasked_at n ≡ asked_at s → ⊥
not_asked n s e = cc

-- a statement whose site is asked for, with what stands in it
pub settled_sited : {own : Around} {n low lo hi : ℕ} {asks : List CodeSite} {ms : List Mark}
    → ((s : ℕ) → IsAround own s → s ≡ n)
    → IsAround own n
    → low ≤ n
    → n < hi
    → low ≤ lo
    → ((t : CodeSite) → Contains asks t → n ≡ place_of t → ⊥)
    → Sited own lo hi asks ms
    → Sited no_site low hi (asked_at n ∷ asks) ms
settled_sited {own = own} {n = n} {asks = asks} {ms = ms} only is least under up others h = record {
  sites = λ m s among e. elim (h.sites m s among e) [
    | inl x ↦ let same = only s x in inr (omega (arith, same, least), omega (arith, same, under))
    | inr x ↦ inr (omega (arith, x.0, up), x.1)
  ];
  returning = λ s es among. let x = h.returning s es among in (λ e. e, omega (arith, x.1, up), x.2);
  asked = λ s k. elim k [
    | inl a ↦ elim (contains_cases (asked_at n) (asked_at s) asks a) [
      | inl q ↦ let e = same_asked n s q in (omega (arith, e, least), omega (arith, e, under))
      | inr x ↦ let y = h.asked s (inl x) in (omega (arith, y.0, up), y.1)
    ]
    | inr w ↦ let y = h.asked s (inr w) in (omega (arith, y.0, up), y.1)
  ];
  differ = λ s es k among. elim k [
    | inl a ↦ elim (contains_cases (asked_at n) (asked_at s) asks a) [
      | inl q ↦ (h.returning s es among).0 (subst (λ (x : ℕ). IsAround own x) (same_asked n s q) is)
      | inr x ↦ h.differ s es (inl x) among
    ]
    | inr w ↦ h.differ s es (inr w) among
  ];
  last = h.last;
  stands = λ t k. elim (contains_cases (asked_at n) t asks k) [
    | inl e ↦ let same = ap place_of e in (omega (arith, same, least), omega (arith, same, under))
    | inr x ↦ let y = h.stands t x in (omega (arith, y.0, up), y.1)
  ];
  distinct = (others, h.distinct);
  bodies = h.bodies;
}

asked_behind : (n s : ℕ) (asks : List CodeSite) (ms : List Mark) → IsAsked (unasked_at n ∷ asks) ms s → IsAsked asks ms s
asked_behind n s asks ms (inl a) = elim (contains_cases (unasked_at n) (asked_at s) asks a) [
  | inl e ↦ absurd (not_asked n s e)
  | inr x ↦ inl x
]
asked_behind n s asks ms (inr w) = inr w

-- a site of the code that it does not ask for, before a part or behind it
pub noted_sited : {own : Around} {n low lo hi : ℕ} {asks : List CodeSite} {ms : List Mark}
    → low ≤ n
    → n < lo
    → n < hi
    → Sited own lo hi asks ms
    → Sited own low hi (unasked_at n ∷ asks) ms
noted_sited {n = n} {asks = asks} {ms = ms} least before under h = record {
  sites = λ m s among e. elim (h.sites m s among e) [ inl x ↦ inl x | inr x ↦ inr (omega (arith, x.0, least, before), x.1) ];
  returning = λ s es among. let x = h.returning s es among in (x.0, omega (arith, x.1, least, before), x.2);
  asked = λ s k. let x = h.asked s (asked_behind n s asks ms k) in (omega (arith, x.0, least, before), x.1);
  differ = λ s es k among. h.differ s es (asked_behind n s asks ms k) among;
  last = h.last;
  stands = λ t k. elim (contains_cases (unasked_at n) t asks k) [
    | inl e ↦ let same = ap place_of e in (omega (arith, same, least), omega (arith, same, under))
    | inr x ↦ let y = h.stands t x in (omega (arith, y.0, least, before), y.1)
  ];
  distinct = (λ t k e. let y = h.stands t k in omega (arith, y.0, before, e), h.distinct);
  bodies = h.bodies;
}

pub lone_sited : {own : Around} {n lo hi : ℕ} → lo ≤ n → n < hi → Sited own lo hi (unasked_at n ∷ []) []
lone_sited {own} {n} {lo} {hi} least under =
    let h = own_sited own lo hi [] tt in
    record {
      sites = h.sites;
      returning = h.returning;
      asked = λ s k. h.asked s (asked_behind n s [] [] k);
      differ = λ s es k among. absurd (contains_nil (returns s es) among);
      last = tt;
      stands = λ t k. elim (contains_cases (unasked_at n) t [] k) [
        | inl e ↦ let same = ap place_of e in (omega (arith, same, least), omega (arith, same, under))
        | inr none ↦ absurd (contains_nil t none)
      ];
      distinct = (λ t none e. absurd (contains_nil t none), tt);
      bodies = λ b none. absurd (contains_nil (opens b) none);
    }

-- a return, behind its items
same_return : (s n : ℕ) (es fs : Expressions) → returns n es ≡ returns s fs → n ≡ s
same_return s n es fs e = cc

no_return : (b : BodyPlace) (n : ℕ) (es : Expressions) → returns n es ≡ opens b → ⊥
no_return b n es e = cc

opened_before : (n : ℕ) (es : Expressions) (ms : List Mark) (b : BodyPlace)
    → Contains (ms ++ returns n es ∷ []) (opens b)
    → Contains ms (opens b)
opened_before n es ms b among = elim (Contains-append_cases ms (returns n es ∷ []) (opens b) among) [
  | inl x ↦ x
  | inr x ↦ elim (contains_cases (returns n es) (opens b) [] x) [
    | inl e ↦ absurd (no_return b n es e)
    | inr none ↦ absurd (contains_nil (opens b) none)
  ]
]

asked_before : (n s : ℕ) (es : Expressions) (ms : List Mark)
    → IsAsked (unasked_at n ∷ []) (ms ++ returns n es ∷ []) s
    → IsAsked [] ms s
asked_before n s es ms k = elim (asked_behind n s [] (ms ++ returns n es ∷ []) k) [
  | inl none ↦ inl none
  | inr w ↦ inr record { body = w.body; opened = opened_before n es ms w.body w.opened; among = w.among }
]

one_or_return : (n s : ℕ) (es fs : Expressions) (ms : List Mark)
    → Contains (ms ++ returns n es ∷ []) (returns s fs)
    → Contains ms (returns s fs) ⊎ (n ≡ s)
one_or_return n s es fs ms among = elim (Contains-append_cases ms (returns n es ∷ []) (returns s fs) among) [
  | inl x ↦ inl x
  | inr x ↦ elim (contains_cases (returns n es) (returns s fs) [] x) [
    | inl e ↦ inr (same_return s n es fs e)
    | inr none ↦ absurd (contains_nil (returns s fs) none)
  ]
]

eqb_not : (n s : ℕ) → (n ≡ s → ⊥) → (n == s) ≡ false
eqb_not n s h = false_from_ne_true (n == s) λ e. h (eqb_is n s e)

returns_follow : (n : ℕ) (es : Expressions) (ms : List Mark)
    → ((s : ℕ) (fs : Expressions) → Contains ms (returns s fs) → n < s)
    → (m k : Mark)
    → Contains ms m
    → Contains (returns n es ∷ []) k
    → MayFollow m k
returns_follow n es ms before (mentions m) k x y = tt
returns_follow n es ms before (of_fields site m) k x y = tt
returns_follow n es ms before (runs_literal moment site at) k x y = tt
returns_follow n es ms before (returns s fs) k x y = elim (contains_cases (returns n es) k [] y) [
  | inl e ↦ subst (λ (q : Mark). is_site q s ≡ false) e (eqb_not n s λ same. omega (arith, before s fs x, same))
  | inr none ↦ absurd (contains_nil k none)
]
returns_follow n es ms before (opens b) k x y = tt
returns_follow n es ms before closes k x y = tt

no_more : (m n : Mark) → Contains [] n → MayFollow m n
no_more m n none = absurd (contains_nil n none)

pub return_sited : {n lo hi : ℕ} {ms : List Mark} (es : Expressions)
    → n < lo
    → lo ≤ hi
    → Sited (from_site n) lo hi [] ms
    → Sited no_site n hi (unasked_at n ∷ []) (ms ++ returns n es ∷ [])
return_sited {n} {lo} {hi} {ms} es before up h = record {
  sites = λ m s among e. elim (Contains-append_cases ms (returns n es ∷ []) m among) [
    | inl x ↦ elim (h.sites m s x e) [
      | inl same ↦ inr (omega (arith, same), omega (arith, same, before, up))
      | inr y ↦ inr (omega (arith, y.0, before), y.1)
    ]
    | inr x ↦ elim (contains_cases (returns n es) m [] x) [
      | inl q ↦
          let same = eqb_is n s (ap (λ (k : Mark). is_site k s) q ∙ e) in
          inr (omega (arith, same), omega (arith, same, before, up))
      | inr none ↦ absurd (contains_nil m none)
    ]
  ];
  returning = λ s fs among. elim (one_or_return n s es fs ms among) [
    | inl x ↦ let y = h.returning s fs x in (λ e. e, omega (arith, y.1, before), y.2)
    | inr same ↦ (λ e. e, omega (arith, same), omega (arith, same, before, up))
  ];
  asked = λ s k. let y = h.asked s (asked_before n s es ms k) in (omega (arith, y.0, before), y.1);
  differ = λ s fs k among. elim (one_or_return n s es fs ms among) [
    | inl x ↦ h.differ s fs (asked_before n s es ms k) x
    | inr same ↦ let y = h.asked s (asked_before n s es ms k) in omega (arith, same, y.0, before)
  ];
  last = follows_both ms (returns n es ∷ []) h.last (no_more (returns n es), tt)
      (returns_follow n es ms λ s fs x. let y = h.returning s fs x in omega (arith, y.1, before));
  stands = λ t k. elim (contains_cases (unasked_at n) t [] k) [
    | inl e ↦ let same = ap place_of e in (omega (arith, same), omega (arith, same, before, up))
    | inr none ↦ absurd (contains_nil t none)
  ];
  distinct = (λ t none e. absurd (contains_nil t none), tt);
  bodies = λ b among. h.bodies b (opened_before n es ms b among);
}

-- A body

not_opened : (b : BodyPlace) (s : ℕ) (es : Expressions) → opens b ≡ returns s es → ⊥
not_opened b s es e = cc

not_closed : (s : ℕ) (es : Expressions) → closes ≡ returns s es → ⊥
not_closed s es e = cc

return_of_body : (b : BodyPlace) (ms : List Mark) (s : ℕ) (es : Expressions)
    → Contains (in_body b ms) (returns s es)
    → Contains ms (returns s es)
return_of_body b ms s es among = elim (contains_cases (opens b) (returns s es) (ms ++ closes ∷ []) among) [
  | inl e ↦ absurd (not_opened b s es e)
  | inr rest ↦ elim (Contains-append_cases ms (closes ∷ []) (returns s es) rest) [
    | inl x ↦ x
    | inr x ↦ elim (contains_cases closes (returns s es) [] x) [
      | inl e ↦ absurd (not_closed s es e)
      | inr none ↦ absurd (contains_nil (returns s es) none)
    ]
  ]
]

no_opened_site : (b : BodyPlace) (m : Mark) (s : ℕ) → opens b ≡ m → is_site m s ≡ true → ⊥
no_opened_site b m s q e = true≢false (sym e ∙ sym (ap (λ (k : Mark). is_site k s) q))

no_closed_site : (m : Mark) (s : ℕ) → closes ≡ m → is_site m s ≡ true → ⊥
no_closed_site m s q e = true≢false (sym e ∙ sym (ap (λ (k : Mark). is_site k s) q))

site_of_body : (b : BodyPlace) (ms : List Mark) (m : Mark) (s : ℕ)
    → Contains (in_body b ms) m
    → is_site m s ≡ true
    → Contains ms m
site_of_body b ms m s among e = elim (contains_cases (opens b) m (ms ++ closes ∷ []) among) [
  | inl q ↦ absurd (no_opened_site b m s q e)
  | inr rest ↦ elim (Contains-append_cases ms (closes ∷ []) m rest) [
    | inl x ↦ x
    | inr x ↦ elim (contains_cases closes m [] x) [
      | inl q ↦ absurd (no_closed_site m s q e)
      | inr none ↦ absurd (contains_nil m none)
    ]
  ]
]

inside_braces : (b : BodyPlace) (s : ℕ)
    → Contains (asked_statements b.statements) (asked_at s)
    → Contains (asked_body b) (asked_at s)
inside_braces b s h =
    let last = unasked_at (b.braces.end - 1) ∷ [] in
    contains_there (unasked_at b.braces.start) (asked_at s) (asked_statements b.statements ++ last)
    (Contains-append_left (asked_statements b.statements) last (asked_at s) h)

asked_of_body : (b : BodyPlace) (ms : List Mark) (s : ℕ)
    → IsAsked [] (in_body b ms) s
    → IsAsked (asked_body b) ms s
asked_of_body b ms s (inl none) = absurd (contains_nil (asked_at s) none)
asked_of_body b ms s (inr w) = elim (of_body b w.body ms w.opened) [
  | inl e ↦ inl (inside_braces b s (subst (λ (x : BodyPlace). Contains (asked_statements x.statements) (asked_at s)) (sym e) w.among))
  | inr x ↦ inr record { body = w.body; opened = x; among = w.among }
]

follows_closes : (m n : Mark) → Contains (closes ∷ []) n → MayFollow m n
follows_closes (mentions m) n x = tt
follows_closes (of_fields site m) n x = tt
follows_closes (runs_literal moment site at) n x = tt
follows_closes (returns s es) n x = elim (contains_cases closes n [] x) [
  | inl e ↦ subst (λ (q : Mark). is_site q s ≡ false) e refl
  | inr none ↦ absurd (contains_nil n none)
]
follows_closes (opens b) n x = tt
follows_closes closes n x = tt

pub body_sited : {own : Around} {lo mid hi : ℕ} (b : BodyPlace) {ms : List Mark}
    → Fits own lo
    → lo ≤ b.at
    → b.at < mid
    → mid ≤ hi
    → Sited (behind_site b.at) mid hi (asked_body b) ms
    → Sited own lo hi [] (in_body b ms)
body_sited {own} {lo} {mid} {hi} b {ms} fits least before up h = record {
  sites = λ m s among e. elim (h.sites m s (site_of_body b ms m s among e) e) [
    | inl same ↦ inr (omega (arith, same, least), omega (arith, same, before, up))
    | inr x ↦ inr (omega (arith, x.0, least, before), x.1)
  ];
  returning = λ s es among.
      let x = h.returning s es (return_of_body b ms s es among) in (
        λ is. absurd (omega (arith, fits_before own lo s fits is, x.1, least, before)),
        omega
            (arith, x.1, least, before),
        x.2,
      );
  asked = λ s k. let x = h.asked s (asked_of_body b ms s k) in (omega (arith, x.0, least, before), x.1);
  differ = λ s es k among. h.differ s es (asked_of_body b ms s k) (return_of_body b ms s es among);
  last = (λ n among. tt, follows_both ms (closes ∷ []) h.last (λ n among. tt, tt) λ m n x y. follows_closes m n y);
  stands = λ t none. absurd (contains_nil t none);
  distinct = tt;
  bodies = λ c among. elim (of_body b c ms among) [
    | inl e ↦ subst (HasSites hi) e (h.distinct, λ t k. (h.stands t k).1)
    | inr x ↦ h.bodies c x
  ];
}
