-- The first body at an offset is the same in the order of places, since bodies of one place stay as they were.
use Rattle.std.proofs.Common.{◌≡◌, ℕ, ◌<◌, Bool, true, false, List, [], ◌∷◌, Option, Some, refl, ap, ◌∙◌, arith}
use Rattle.std.specs.Prelude.{◌==◌, if◌then◌else◌, nat_le}
use Rattle.std.proofs.lemmas.Bool.{eqb-true, leb-false}
use Rattle.meaning.specs.Mentions.{BodyPlace}
use Rattle.meaning.specs.BodyEvents.{put_body, by_place}
use Rattle.meaning_packages.specs.Credits.{body_at}

-- two bodies that are not both at the offset, in either order
swapped : (at : ℕ) (b c : BodyPlace) (o : Option BodyPlace) → c.at < b.at
    → (if c.at == at then Some c else if b.at == at then Some b else o)
    ≡ (if b.at == at then Some b else if c.at == at then Some c else o)
swapped at b c o low = by (b.at == at) (c.at == at) (eqb-true b.at at) (eqb-true c.at at)
  where
    by : (s t : Bool) → (s ≡ true → b.at ≡ at) → (t ≡ true → c.at ≡ at)
        → (if t then Some c else if s then Some b else o) ≡ (if s then Some b else if t then Some c else o)
    by true true here there = let p = here refl in let q = there refl in absurd (omega (arith, low, p, q))
    by true false here there = refl
    by false true here there = refl
    by false false here there = refl

put_first : (at : ℕ) (b : BodyPlace) (cs : List BodyPlace) → body_at at (put_body b cs) ≡ body_at at (b ∷ cs)
put_first at b [] = refl
put_first at b (c ∷ cs) = by (nat_le b.at c.at) (leb-false b.at c.at) (put_first at b cs)
  where
    by : (t : Bool) → (t ≡ false → c.at < b.at) → body_at at (put_body b cs) ≡ body_at at (b ∷ cs)
        → body_at at (if t then b ∷ c ∷ cs else c ∷ put_body b cs) ≡ body_at at (b ∷ c ∷ cs)
    by true high go = refl
    by false high go =
        ap (λ (o : Option BodyPlace). if c.at == at then Some c else o) go ∙ swapped at b c (body_at at cs) (high refl)

pub first_placed : (at : ℕ) (bs : List BodyPlace) → body_at at (by_place bs) ≡ body_at at bs
first_placed at [] = refl
first_placed at (b ∷ bs) =
    put_first at b (by_place bs) ∙ ap (λ (o : Option BodyPlace). if b.at == at then Some b else o) (first_placed at bs)
