-- The first that is told of a fault is told of it.
use Rattle.std.proofs.Common.{◌≡◌, ℕ, ◌==◌, ◌&&◌, Bool, true, false, if◌then◌else◌, inl, inr, List, [], ◌∷◌, map, Contains, Some, refl, sym, ap, ◌∙◌}
use Rattle.std.proofs.lemmas.Bool.{and_parts, eq-eqb, eqb-true, false≢true}
use Rattle.std.proofs.lemmas.Slice.Eq.{bytes_eq-Decides}
use Rattle.std.specs.Str.{bytes_eq}
use Rattle.body_ways.specs.BodyWays.{ToldWay}
use Rattle.explanations.specs.Found.{code_number, first_told, is_same_fault}
use Rattle.meaning.proofs.Membership.{contains_nil, contains_here, contains_there, contains_cases}
use Rattle.meaning_packages.specs.PathFaults.{PathFault, PathCode, overwritten, not_called, group_is_live, group_overwritten, left_to_live_group, passed_on}

-- the code of a number
abbrev code_at : ℕ → PathCode
code_at n =
    if n == 0 then overwritten
    else if n == 1 then not_called
    else if n == 2 then group_is_live
    else if n == 3 then group_overwritten
    else if n == 4 then left_to_live_group
    else passed_on

code_back : (c : PathCode) → code_at (code_number c) ≡ c
code_back overwritten = refl
code_back not_called = refl
code_back group_is_live = refl
code_back group_overwritten = refl
code_back left_to_live_group = refl
code_back passed_on = refl

same_code : (c d : PathCode) → code_number c ≡ code_number d → c ≡ d
same_code c d e = sym (code_back c) ∙ ap code_at e ∙ code_back d

same_fault : (f g : PathFault) → is_same_fault f g ≡ true → f ≡ g
same_fault f g e =
    let both = and_parts ((f.at == g.at) && (code_number f.code == code_number g.code)) (bytes_eq f.name g.name) e in
    let front = and_parts (f.at == g.at) (code_number f.code == code_number g.code) both.0 in
    let at = eqb-true f.at g.at front.0 in
    let code = same_code f.code g.code (eqb-true (code_number f.code) (code_number g.code) front.1) in
    let name = (bytes_eq-Decides f.name g.name).0 both.1 in
    λ i. record { at = at i; code = code i; name = name i }

-- a fault is the same as itself
same_itself : (f : PathFault) → is_same_fault f f ≡ true
same_itself f = by (f.at == f.at) (code_number f.code == code_number f.code) (bytes_eq f.name f.name)
    (eq-eqb f.at f.at refl) (eq-eqb (code_number f.code) (code_number f.code) refl) ((bytes_eq-Decides f.name f.name).1 refl)
  where
    by : (a b c : Bool) → a ≡ true → b ≡ true → c ≡ true → ((a && b) && c) ≡ true
    by true true true p q r = refl
    by true true false p q r = r
    by true false c p q r = absurd (false≢true q)
    by false b c p q r = absurd (false≢true p)

-- the first one is among them, and told of the fault
pub record IsFirst (f : PathFault) (told : List ToldWay) : Type 0 where
  pub way : ToldWay
  pub is_first : first_told f told ≡ Some way
  pub is_there : Contains told way
  pub is_of : way.fault ≡ f

pub first_is : (f : PathFault) (told : List ToldWay) → Contains (map (λ t. t.fault) told) f → IsFirst f told
first_is f [] h = absurd (contains_nil f h)
first_is f (t ∷ ts) h = by (is_same_fault t.fault f) refl (λ later. first_is f ts later)
  where
    by : (b : Bool) → is_same_fault t.fault f ≡ b
        → (Contains (map (λ (s : ToldWay). s.fault) ts) f → IsFirst f ts)
        → IsFirst f (t ∷ ts)
    by true e rest = record {
      way = t;
      is_first = ap (λ c. if c then Some t else first_told f ts) e;
      is_there = contains_here t ts;
      is_of = same_fault t.fault f e;
    }
    by false e rest = elim (contains_cases t.fault f (map (λ (s : ToldWay). s.fault) ts) h) [
      | inl same ↦ absurd (false≢true (sym e ∙ (ap (λ g. is_same_fault g f) same ∙ same_itself f)))
      | inr later ↦
          let w = rest later in
          record {
            way = w.way;
            is_first = ap (λ c. if c then Some t else first_told f ts) e ∙ w.is_first;
            is_there = contains_there t w.way ts w.is_there;
            is_of = w.is_of;
          }
    ]
