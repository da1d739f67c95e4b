-- The numbers of what bodies may bind: what one mark adds to them, and what all marks of a file have.
use Rattle.std.proofs.Common.{◌≡◌, ℕ, Bool, true, false, true≢false, ◌&&◌, ◌||◌, if◌then◌else◌, List, [], ◌∷◌, ◌++◌, refl, sym, ap, ◌∙◌}
use Rattle.std.specs.Prelude.{◌==◌}
use Rattle.std.specs.List.{list_any}
use Rattle.tree.specs.declared.edition.Edition.{Edition}
use Rattle.tree.specs.declared.edition.Edition.TheVariants.{First, Second}
use Rattle.mentions.specs.declared.mark.Mark.{Mark as KeptMark}
use Rattle.mentions.specs.declared.mark.Mark.TheVariants.{Mentions, OfFields, RunsLiteral, Returns, Opens, Closes}
use Rattle.mentions.specs.declared.mark.Mention.{Mention as KeptMention}
use Rattle.mentions.specs.MarkViews.{mark_view}
use Rattle.meaning.specs.Mentions.{BodyPlace}
use Rattle.meaning.specs.Uses.{Seen}
use Rattle.meaning_packages.specs.Credits.{binds_there, binds_captured}
use Rattle.events.specs.ToldViews.{is_second}

or_false : (a : Bool) → a ≡ (a || false)
or_false true = refl
or_false false = refl

-- one number, added to the list of one body

numbers-append : (numbers : List ℕ) (v n : ℕ)
    → list_any (λ m. m == n) (numbers ++ v ∷ []) ≡ (list_any (λ m. m == n) numbers || (v == n))
numbers-append [] v n = sym (or_false (v == n))
numbers-append (m ∷ ms) v n = by (m == n) _ _ _ (numbers-append ms v n)
  where
    by : (b x y z : Bool) → x ≡ (y || z) → (b || x) ≡ ((b || y) || z)
    by true x y z e = refl
    by false x y z e = e

pub number_there : (b : Bool) (before after : List ℕ) (v n : ℕ) → after ≡ (if b then before ++ v ∷ [] else before)
    → list_any (λ m. m == n) after ≡ (list_any (λ m. m == n) before || (b && (v == n)))
number_there true before after v n added = ap (list_any (λ m. m == n)) added ∙ numbers-append before v n
number_there false before after v n added = ap (list_any (λ m. m == n)) added ∙ or_false _

-- a loop over the bodies around

both_ways : (before t x rest : Bool) → ((before || (t && x)) || (rest && x)) ≡ (before || ((t || rest) && x))
both_ways true t x rest = refl
both_ways false true true rest = refl
both_ways false true false true = refl
both_ways false true false false = refl
both_ways false false x rest = refl

pub around_next : (before after t x all rest whole : Bool) → after ≡ (before || (t && x)) → all ≡ (t || rest)
    → (before || (all && x)) ≡ whole → (after || (rest && x)) ≡ whole
around_next before after t x all rest whole added split so_far =
    ap (λ b. b || (rest && x)) added ∙ both_ways before t x rest ∙ ap (λ b. before || (b && x)) (sym split) ∙ so_far

pub around_end : (all rest x whole : Bool) → rest ≡ false → (all || (rest && x)) ≡ whole → all ≡ whole
around_end all rest x whole none so_far = or_false all ∙ ap (λ b. all || (b && x)) (sym none) ∙ so_far

-- a mention

never_set : (around variable set : Bool) → set ≡ false → (around && (variable && set)) ≡ false
never_set true true set e = e
never_set true false set e = refl
never_set false variable set e = refl

pub not_bound : (bound around variable set : Bool) → set ≡ false → bound ≡ (bound || (around && (variable && set)))
not_bound bound around variable set e = or_false bound ∙ ap (λ b. bound || b) (sym (never_set around variable set e))

never_there : (around : Bool) → (around && false) ≡ false
never_there true = refl
never_there false = refl

pub no_variable : (bound around variable set : Bool) → variable ≡ false → bound ≡ (bound || (around && (variable && set)))
no_variable bound around true set e = absurd (true≢false e)
no_variable bound around false set e = or_false bound ∙ ap (λ b. bound || b) (sym (never_there around))

surely_set : (variable set : Bool) → set ≡ true → variable ≡ (variable && set)
surely_set true set e = sym e
surely_set false set e = refl

pub bound_there : (after bound around variable found set : Bool) → set ≡ true → found ≡ variable
    → after ≡ (bound || (around && found)) → after ≡ (bound || (around && (variable && set)))
bound_there after bound around variable found set e same added =
    added ∙ ap (λ v. bound || (around && v)) (same ∙ surely_set variable set e)

-- any other mark
pub others_bind_none : (s : Seen) (body number : ℕ) (bs : List BodyPlace) (m : KeptMark)
    → ((n : KeptMention) → m ≡ Mentions n → ⊥) → (bound : Bool)
    → bound ≡ (bound || binds_there s body number bs (mark_view m))
others_bind_none s body number bs (Mentions n) mention bound = absurd (mention n refl)
others_bind_none s body number bs (OfFields site f) mention bound = or_false bound
others_bind_none s body number bs (RunsLiteral moment site at) mention bound = or_false bound
others_bind_none s body number bs (Returns at es) mention bound = or_false bound
others_bind_none s body number bs (Opens b) mention bound = or_false bound
others_bind_none s body number bs Closes mention bound = or_false bound

-- by the edition

pub none_in_first : (bound there : Bool) (e : Edition) → e ≡ First → bound ≡ (bound || (there && is_second e))
none_in_first bound there e first = none bound there ∙ ap (λ x. bound || (there && is_second x)) (sym first)
  where
    none : (a b : Bool) → a ≡ (a || (b && false))
    none a true = or_false a
    none a false = or_false a

pub all_in_second : (after bound there : Bool) (e : Edition) → e ≡ Second → after ≡ (bound || there)
    → after ≡ (bound || (there && is_second e))
all_in_second after bound there e second added =
    added ∙ ap (λ b. bound || b) (itself there) ∙ ap (λ x. bound || (there && is_second x)) (sym second)
  where
    itself : (b : Bool) → b ≡ (b && true)
    itself true = refl
    itself false = refl

none_of : {X : Type 0} (t : X → Bool) (xs : List X) → list_any (λ x. t x && false) xs ≡ false
none_of t [] = refl
none_of t (x ∷ xs) = by (t x) (none_of t xs)
  where
    by : (b : Bool) → list_any (λ x. t x && false) xs ≡ false → ((b && false) || list_any (λ x. t x && false) xs) ≡ false
    by true h = h
    by false h = h

all_of : {X : Type 0} (t : X → Bool) (xs : List X) → list_any (λ x. t x && true) xs ≡ list_any t xs
all_of t [] = refl
all_of t (x ∷ xs) = by (t x) _ _ (all_of t xs)
  where
    by : (b m n : Bool) → m ≡ n → ((b && true) || m) ≡ (b || n)
    by true m n h = refl
    by false m n h = h

pub binds_of : (e : Edition) (s : Seen) (body number : ℕ)
    → list_any (λ p. binds_there s body number p.bodies p.mark && is_second e) s.marks ≡ binds_captured e s body number
binds_of First s body number = none_of (λ p. binds_there s body number p.bodies p.mark) s.marks
binds_of Second s body number = all_of (λ p. binds_there s body number p.bodies p.mark) s.marks
