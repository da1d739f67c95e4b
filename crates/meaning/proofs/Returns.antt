-- Falling off a body's end is a return at its last brace.
use Rattle.std.proofs.Common.{◌≡◌, List, [], ◌∷◌, ◌++◌, refl, ap, ◌∙◌}
use Rattle.tree.specs.Syntax.{Block}
use Rattle.meaning.specs.Code.{Occurrence, Code, does, then_code}
use Rattle.meaning.specs.Lists.{falls, Lists, done, goes_on, ends_in_first}
use Rattle.meaning.specs.StatementCode.{Sites, entry, body_code}
use Rattle.meaning.specs.Laws.{FallsOff, whole_list, FallingOffReturns}

-- the two parts of a list that comes to the end of one code after another
record Parts {E : Type 0} (a b : Code E) (r : List (Occurrence E)) : Type 0 where
  first : List (Occurrence E)
  second : List (Occurrence E)
  of_first : Lists a first falls
  of_second : Lists b second falls
  joined : r ≡ first ++ second

parts : {E : Type 0} (a b : Code E) (r : List (Occurrence E)) → Lists (then_code a b) r falls → Parts a b r
parts a b r (ends_in_first l h) = absurd (h refl)
parts a b r (goes_on {t = t} {u = u} l m f) = record { first = t; second = u; of_first = l; of_second = m; joined = f }

just_one : {E : Type 0} (o : Occurrence E) (r : List (Occurrence E)) → Lists (does o) r falls → r ≡ o ∷ []
just_one o r done = refl

no_other : {E : Type 0} (sites : Sites E) (b : Block) (r : List (Occurrence E)) → Lists (body_code sites b) r falls → (t : List (Occurrence E)) × FallsOff sites b t × (r ≡ whole_list sites b t)
no_other sites b r l =
    let p = parts _ _ r l in
    let q = parts _ _ p.second p.of_second in
    let is_entry = just_one _ _ p.of_first in
    let is_return = just_one _ _ q.of_second in
    (q.first, q.of_first, p.joined ∙ ap (λ x. x ++ p.second) is_entry ∙ ap (λ x. entry sites b ∷ x) (q.joined ∙ ap (λ x. q.first ++ x) is_return))

pub falling_off_returns : (E : Type 0) → FallingOffReturns E
falling_off_returns E = record {
  returns = λ sites b t l. goes_on done (goes_on l done refl) refl;
  no_other = no_other;
}
