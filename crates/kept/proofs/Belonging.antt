-- What belongs together, by what is kept of one variable and in one object alone.
use Rattle.std.proofs.Common.{◌≡◌, ℕ, Bool, true, false, true≢false, not, ◌&&◌, ◌||◌, if◌then◌else◌, List, [], ◌∷◌, ◌++◌, Option, Some, None, refl, sym, ap, ◌∙◌}
use Rattle.std.specs.Prelude.{◌==◌}
use Rattle.std.specs.List.{list_any, list_all, filter}
use Rattle.std.specs.Str.{bytes_eq}
use Rattle.tracked.proofs.Numbers.{either_way}
use Rattle.meaning.specs.Mentions.{BodyPlace, FieldLeft, Assigned, calls_field, writes_field, hands_over, hands_literal, renews, imports_all, Mark, mentions, of_fields, runs_literal, returns, opens, closes}
use Rattle.meaning.specs.Tracked.{Placed, is_variable}
use Rattle.meaning.specs.Objects.{local_named}
use Rattle.meaning.specs.Uses.{Seen}
use Rattle.meaning.specs.Kept.{Keep, keeps_there, keeps_in, is_same_place, agrees, writes_otherwise, belongs}
use Rattle.kept.specs.declared.sides.Sides.{Sides}
use Rattle.kept.specs.KeptViews.{Write, stored_keeps_by, is_there, written_in, writes_there, writes_among, writes_in, is_spoiled_by, HasSides, belongs_in}

or_false : (a : Bool) → a ≡ (a || false)
or_false true = refl
or_false false = refl

and_assoc : (a b c : Bool) → (a && (b && c)) ≡ ((a && b) && c)
and_assoc true b c = refl
and_assoc false b c = refl

-- a test of those that pass one test or another
one_all : (f p q : Bool) (a b all : Bool) → (p ≡ false → q ≡ false → f ≡ true) → (a && b) ≡ all
    → ((if p then f && a else a) && (if q then f && b else b)) ≡ (f && all)
one_all true true true a b all other same = same
one_all true true false a b all other same = same
one_all true false true a b all other same = same
one_all true false false a b all other same = same
one_all false true true a b all other same = refl
one_all false true false a b all other same = refl
one_all false false true true b all other same = refl
one_all false false true false b all other same = refl
one_all false false false a b all other same = absurd (true≢false (sym (other refl refl)))

one_any : (f p : Bool) (a all : Bool) → (p ≡ false → f ≡ false) → a ≡ all
    → (if p then f || a else a) ≡ (f || all)
one_any true true a all other same = refl
one_any false true a all other same = same
one_any true false a all other same = absurd (true≢false (other refl))
one_any false false a all other same = same

module _ {X : Type 0} where
  kept_all : (f p : X → Bool) (x : X) (xs : List X)
      → list_all f (filter p (x ∷ xs)) ≡ (if p x then f x && list_all f (filter p xs) else list_all f (filter p xs))
  kept_all f p x xs = by (p x)
    where
      by : (b : Bool)
          → list_all f (if b then x ∷ filter p xs else filter p xs)
          ≡ (if b then f x && list_all f (filter p xs) else list_all f (filter p xs))
      by true = refl
      by false = refl

  pub all_of_both : (f p q : X → Bool) → ((x : X) → p x ≡ false → q x ≡ false → f x ≡ true) → (xs : List X)
      → (list_all f (filter p xs) && list_all f (filter q xs)) ≡ list_all f xs
  all_of_both f p q other [] = refl
  all_of_both f p q other (x ∷ xs) =
      (λ i. kept_all f p x xs i && kept_all f q x xs i)
      ∙ one_all (f x) (p x) (q x) _ _ _ (other x) (all_of_both f p q other xs)

  kept_any : (f p : X → Bool) (x : X) (xs : List X)
      → list_any f (filter p (x ∷ xs)) ≡ (if p x then f x || list_any f (filter p xs) else list_any f (filter p xs))
  kept_any f p x xs = by (p x)
    where
      by : (b : Bool)
          → list_any f (if b then x ∷ filter p xs else filter p xs)
          ≡ (if b then f x || list_any f (filter p xs) else list_any f (filter p xs))
      by true = refl
      by false = refl

  pub any_of_some : (f p : X → Bool) → ((x : X) → p x ≡ false → f x ≡ false) → (xs : List X)
      → list_any f (filter p xs) ≡ list_any f xs
  any_of_some f p other [] = refl
  any_of_some f p other (x ∷ xs) =
      kept_any f p x xs ∙ one_any (f x) (p x) _ _ (other x) (any_of_some f p other xs)

  pub any-append : (f : X → Bool) (xs ys : List X) → list_any f (xs ++ ys) ≡ (list_any f xs || list_any f ys)
  any-append f [] ys = refl
  any-append f (x ∷ xs) ys = by (f x) _ _ _ (any-append f xs ys)
    where
      by : (b u v w : Bool) → u ≡ (v || w) → (b || u) ≡ ((b || v) || w)
      by true u v w e = refl
      by false u v w e = e

-- What is kept of another variable and in another object agrees.

abbrev agreeing : Keep → Keep → Bool → Bool
agreeing k q b = if b then is_same_place k q else not (is_same_place k q)

abbrev apart : Keep → Keep → Bool → Bool
apart k q b = not (b && bytes_eq k.field q.field)

others_agree : (k q : Keep) → (q.variable == k.variable) ≡ false → (q.object == k.object) ≡ false → agrees k q ≡ true
others_agree k q variable object =
    ap (agreeing k q) (either_way k.variable q.variable ∙ variable)
    ∙ ap (apart k q) (either_way k.object q.object ∙ object)

abbrev spoiling : Keep → Write → Bool → Bool
spoiling k w b = (b && bytes_eq w.field k.field) && not (list_any (is_same_place k) w.keeps)

others_spoil : (k : Keep) (w : Write) → (w.object == k.object) ≡ false → is_spoiled_by k w ≡ false
others_spoil k w object = ap (spoiling k w) object

-- What is written otherwise, by the writes of the file

abbrev written_to : Keep → List ℕ → List Keep → Option ℕ → Bool
written_to k f ks o = (is_variable o k.object && bytes_eq f k.field) && not (list_any (is_same_place k) ks)

one_written : (k : Keep) (f : List ℕ) (ks : List Keep) (o : Option ℕ)
    → written_to k f ks o ≡ list_any (is_spoiled_by k) (written_in o f ks)
one_written k f ks None = refl
one_written k f ks (Some x) = or_false (is_spoiled_by k record { object = x; field = f; keeps = ks })

stored_same : (s : Seen) (bs : List BodyPlace) (site : ℕ) (l : FieldLeft) (by : Option Assigned)
    → filter (is_there s bs) (stored_keeps_by s bs l by) ≡ keeps_there s bs (of_fields site (writes_field l by))
stored_same s bs site l None = refl
stored_same s bs site l (Some a) = refl

write_written : (s : Seen) (k : Keep) (bs : List BodyPlace) (m : Mark)
    → writes_otherwise s k bs m ≡ list_any (is_spoiled_by k) (writes_there s bs m)
write_written s k bs (of_fields site (writes_field l by)) =
    ap (λ ks. written_to k l.field.text ks (local_named s.known l.object)) (sym (stored_same s bs site l by))
    ∙ one_written k l.field.text (filter (is_there s bs) (stored_keeps_by s bs l by)) (local_named s.known l.object)
write_written s k bs (of_fields site (calls_field f)) = refl
write_written s k bs (of_fields site (hands_over taker e)) = refl
write_written s k bs (of_fields site (hands_literal taker at)) = refl
write_written s k bs (of_fields site (renews number)) = refl
write_written s k bs (of_fields site imports_all) = refl
write_written s k bs (mentions m) = refl
write_written s k bs (runs_literal moment site at) = refl
write_written s k bs (returns at es) = refl
write_written s k bs (opens b) = refl
write_written s k bs closes = refl

all_written : (s : Seen) (k : Keep) (ps : List Placed)
    → list_any (λ p. writes_otherwise s k p.bodies p.mark) ps ≡ list_any (is_spoiled_by k) (writes_among s ps)
all_written s k [] = refl
all_written s k (p ∷ ps) =
    (λ i. write_written s k p.bodies p.mark i || all_written s k ps i)
    ∙ sym (any-append (is_spoiled_by k) (writes_there s p.bodies p.mark) (writes_among s ps))

pub belongs_same : (s : Seen) (sides : Sides) → HasSides (keeps_in s) (writes_in s) sides
    → (k : Keep) → belongs_in sides k ≡ belongs s k
belongs_same s sides has k =
    (λ i. list_all (agrees k) (has.by_variable k.variable i)
    && (list_all (agrees k) (has.by_object k.object i)
    && not (list_any (is_spoiled_by k) (has.writes k.object i))))
    ∙ and_assoc (list_all (agrees k) (filter (λ q. q.variable == k.variable) (keeps_in s)))
    (list_all (agrees k) (filter (λ q. q.object == k.object) (keeps_in s)))
    (not (list_any (is_spoiled_by k) (filter (λ w. w.object == k.object) (writes_in s))))
    ∙ (λ i. all_of_both (agrees k) (λ q. q.variable == k.variable) (λ q. q.object == k.object) (others_agree k) (keeps_in s) i
    && not (any_of_some (is_spoiled_by k) (λ w. w.object == k.object) (others_spoil k) (writes_in s) i))
    ∙ ap (λ b. list_all (agrees k) (keeps_in s) && not b) (sym (all_written s k s.marks))
