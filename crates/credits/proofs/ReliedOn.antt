-- For which variables a body is relied on, by what the program finds of it.
use Rattle.std.proofs.Common.{◌≡◌, ℕ, Bool, true, false, ◌&&◌, ◌||◌, if◌then◌else◌, List, [], ◌∷◌, ◌++◌, Some, Contains, refl, sym, ap, ◌∙◌, subst, IsTrue}
use Rattle.std.specs.Prelude.{◌↔◌, ◌==◌, not, slice_get}
use Rattle.std.specs.List.{filter}
use Rattle.std.proofs.lemmas.Bool.{false≢true, true≢false, and_parts, and_from, not-true, not_from_false}
use Rattle.std.proofs.lemmas.Bool.Decides.{Decides-eqb}
use Rattle.tree.specs.declared.edition.Edition.{Edition}
use Rattle.tree.specs.declared.edition.Edition.TheVariants.{First, Second}
use Rattle.meaning.proofs.Membership.{contains_nil}
use Rattle.meaning.specs.BodyEvents.{Variable}
use Rattle.meaning.specs.Mentions.{BodyPlace}
use Rattle.meaning.specs.Uses.{Seen, goes_off}
use Rattle.meaning_packages.specs.PathFaults.{Paths, ComesBack}
use Rattle.meaning_packages.specs.Credits.{Credits, MayComeBack}
use Rattle.mentions.specs.MarkViews.{use_view}
use Rattle.bodies.specs.Bodies.{TellsBody}
use Rattle.bodies.specs.declared.body.Body.{Body as KeptBody}
use Rattle.credits.specs.CreditViews.{is_among}
use Rattle.credits.specs.FoundCredits.{body_paths, IsReliedOn}
use Rattle.credits.specs.ReliedOn.{asks_return, is_unbound, unbound_number}
use Rattle.credits.specs.SettledVariables.{SettlesCaptured}

-- Whether it comes back

pub unasked : (e : Edition) (goes : Bool) (b : Paths) → asks_return e goes ≡ false → MayComeBack e goes b
unasked First goes b h = tt
unasked Second true b h = absurd (true≢false h)
unasked Second false b h = tt

pub asked : (e : Edition) (goes : Bool) (b : Paths) (answer : Bool) → asks_return e goes ≡ true
    → IsTrue answer ↔ ComesBack b → IsTrue answer ↔ MayComeBack e goes b
asked First goes b answer h comes = absurd (false≢true h)
asked Second true b answer h comes = comes
asked Second false b answer h comes = absurd (false≢true h)

-- The numbers that are left

pub none_unbound : (bound : List ℕ) (number : ℕ) → is_among bound number ≡ true → [] ≡ unbound_number bound number
none_unbound bound number e = ap (λ t. if t then [] else number ∷ []) (sym e)

pub one_unbound : (bound : List ℕ) (number : ℕ) → is_among bound number ≡ false
    → number ∷ [] ≡ unbound_number bound number
one_unbound bound number e = ap (λ t. if t then [] else number ∷ []) (sym e)

pub filter_first : (bound : List ℕ) (n : ℕ) (ns : List ℕ)
    → filter (is_unbound bound) (n ∷ ns) ≡ unbound_number bound n ++ filter (is_unbound bound) ns
filter_first bound n ns = by (is_among bound n)
  where
    by : (t : Bool) → (if not t then n ∷ filter (is_unbound bound) ns else filter (is_unbound bound) ns)
        ≡ (if t then [] else n ∷ []) ++ filter (is_unbound bound) ns
    by true = refl
    by false = refl

and_itself : (b : Bool) → b ≡ (b && true)
and_itself true = refl
and_itself false = refl

and_never : (b : Bool) → false ≡ (b && false)
and_never true = refl
and_never false = refl

first_among : (c : Bool) (n number : ℕ) (ns : List ℕ)
    → is_among (if c then n ∷ ns else ns) number ≡ (((n == number) && c) || is_among ns number)
first_among true n number ns = ap (λ t. t || is_among ns number) (and_itself (n == number))
first_among false n number ns = ap (λ t. t || is_among ns number) (and_never (n == number))

absorbed : (b u : Bool) → (not u || (b && not u)) ≡ not u
absorbed true true = refl
absorbed false true = refl
absorbed b false = refl

joined : (s c a b u : Bool) → (s ≡ true → c ≡ not u) → a ≡ (b && not u) → ((s && c) || a) ≡ ((s || b) && not u)
joined true c a b u same h = (λ i. same refl i || h i) ∙ absorbed b u
joined false c a b u same h = h

pub among_filtered : (bound : List ℕ) (number : ℕ) (ns : List ℕ)
    → is_among (filter (is_unbound bound) ns) number ≡ (is_among ns number && is_unbound bound number)
among_filtered bound number [] = refl
among_filtered bound number (n ∷ ns) =
    first_among (is_unbound bound n) n number (filter (is_unbound bound) ns)
    ∙ joined (n == number) (is_unbound bound n) _ (is_among ns number) (is_among bound number)
    (λ e. ap (is_unbound bound) ((Decides-eqb n number).0 e)) (among_filtered bound number ns)

first_variable : (vs : List Variable) (v : Variable) → Contains vs v → (w : Variable) × (slice_get vs 0 ≡ Some w)
first_variable [] v h = absurd (contains_nil v h)
first_variable (w ∷ vs) v h = (w, refl)

-- What is found of a body

module _ (file : ℕ) (seen : Seen) (b : BodyPlace) (body : KeptBody) (tells : TellsBody file seen b body)
    (credits : Credits) (number : ℕ) where
  abbrev paths : Paths
  paths = body_paths seen credits b

  -- as the program asks it, where the body has a variable
  abbrev pub AnswersReturn : Bool → Type 0
  AnswersReturn answer = (v : Variable) → slice_get paths.variables 0 ≡ Some v
      → IsTrue answer ↔ MayComeBack body.edition (goes_off (use_view body.place.literal)) paths

  same_asked : (answer : Bool) → IsTrue answer ↔ MayComeBack body.edition (goes_off (use_view body.place.literal)) paths
      → IsTrue answer ↔ MayComeBack seen.known.edition (goes_off b.literal) paths
  same_asked answer h =
      subst (λ e. IsTrue answer ↔ MayComeBack e (goes_off b.literal) paths) tells.is_edition
      (subst (λ (p : BodyPlace). IsTrue answer ↔ MayComeBack body.edition (goes_off p.literal) paths) tells.is_place h)

  pub never_relied : (answer : Bool) → answer ≡ false → AnswersReturn answer
      → (is_among [] number ≡ true) ↔ IsReliedOn seen credits b number
  never_relied answer none comes = (
    λ bad. absurd (false≢true bad),
    λ h.
        let w = first_variable paths.variables h.settles.variable h.settles.is_of_body in
        absurd (false≢true (sym none ∙ (same_asked answer (comes w.0 w.1)).1 h.comes_back)),
  )

  pub surely_relied : (answer : Bool) → answer ≡ true → AnswersReturn answer → (numbers left : List ℕ)
      → left ≡ filter (is_unbound body.bound.now) numbers
      → (is_among numbers number ≡ true) ↔ SettlesCaptured paths number
      → (is_among left number ≡ true) ↔ IsReliedOn seen credits b number
  surely_relied answer sure comes numbers left is settled = (
    λ e.
        let parts = and_parts (is_among numbers number) (is_unbound body.bound.now number) (sym same ∙ e) in
        let settles = settled.0 parts.0 in
        let w = first_variable paths.variables settles.variable settles.is_of_body in
        record {
          binds_none = sym (tells.binds number) ∙ not-true (is_among body.bound.now number) parts.1;
          comes_back = (same_asked answer (comes w.0 w.1)).0 sure;
          settles = settles;
        },
    λ h.
        same
        ∙ and_from (is_among numbers number) (is_unbound body.bound.now number) (settled.1 h.settles)
        (not_from_false (is_among body.bound.now number) (tells.binds number ∙ h.binds_none)),
  )
    where
      same : is_among left number ≡ (is_among numbers number && is_unbound body.bound.now number)
      same = ap (λ ns. is_among ns number) is ∙ among_filtered body.bound.now number numbers
