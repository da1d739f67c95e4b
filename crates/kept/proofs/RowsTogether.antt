-- What belongs together, by the numbers of variables, and by objects.
use Rattle.std.proofs.Common.{◌≡◌, ℕ, ◌+◌, ◌<◌, nat_eq, nat_lt, Bool, true, false, true≢false, ◌&&◌, if◌then◌else◌, List, [], ◌∷◌, ◌++◌, length, get_or, take, drop, map, Some, refl, sym, ap, ◌∙◌, subst, append_assoc}
use Rattle.std.proofs.lemmas.Bool.Decides.{Decides-eqb}
use Rattle.tree.proofs.Depths.{drop_item}
use Rattle.kept.specs.declared.row.Keep.{Keep as KeptKeep}
use Rattle.std.specs.Prelude.{◌==◌}
use Rattle.std.specs.List.{filter}
use Rattle.std.proofs.lemmas.List.{map-append, take-append-drop}
use Rattle.meaning.specs.Mentions.{BodyPlace}
use Rattle.meaning.specs.Uses.{Seen, found}
use Rattle.meaning.specs.Kept.{Keep, keeps_in, belongs, put_keep, by_variable, kept_of, is_of_body, kept_there}
use Rattle.kept.specs.declared.gathered.Gathered.{Gathered}
use Rattle.kept.specs.declared.sides.Sides.{Sides}
use Rattle.kept.specs.KeptViews.{keep_view, write_view, writes_in, Gathers, HasSides, belongs_in}
use Rattle.kept.proofs.Belonging.{belongs_same}

-- Lists by numbers

module _ {X V : Type 0} (view : X → V) (number : V → ℕ) where
  -- one item more, in a loop
  pub listed_next : (xs : List X) (i : ℕ) (x : X) → i < length xs → x ≡ get_or xs i x
      → (n : ℕ) (now next : List X) (whole : List V)
      → next ≡ (if nat_eq (number (view x)) n then now ++ x ∷ [] else now)
      → map view now ++ filter (λ v. number v == n) (map view (drop i xs)) ≡ whole
      → map view next ++ filter (λ v. number v == n) (map view (drop (i + 1) xs)) ≡ whole
  listed_next xs i x within is n now next whole added so_far =
      ap (λ l. map view l ++ others) added
      ∙ by (nat_eq (number (view x)) n)
      (ap (λ (l : List X). map view now ++ filter (λ v. number v == n) (map view l)) (sym (drop_item xs i x within is)) ∙ so_far)
    where
      others : List V
      others = filter (λ v. number v == n) (map view (drop (i + 1) xs))

      by : (b : Bool) → map view now ++ (if b then view x ∷ others else others) ≡ whole
          → map view (if b then now ++ x ∷ [] else now) ++ others ≡ whole
      by true e =
          ap (λ l. l ++ others) (map-append view now (x ∷ [])) ∙ (append_assoc (map view now) (view x ∷ []) others ∙ e)
      by false e = e

-- Rows

there_already : (k q : Keep) (qs : List Keep) → k.variable ≡ q.variable → q ∷ qs ≡ put_keep k (q ∷ qs)
there_already k q qs same = by (k.variable == q.variable) ((Decides-eqb k.variable q.variable).1 same)
  where
    by : (b : Bool) → b ≡ true
        → q ∷ qs ≡ (if b then q ∷ qs else if nat_lt k.variable q.variable then k ∷ q ∷ qs else q ∷ put_keep k qs)
    by true e = refl
    by false e = absurd (true≢false (sym e))

-- a row of the variable stands there
pub stands_there : (k : Keep) (rows : List KeptKeep) (i : ℕ) (r : KeptKeep) → i < length rows → r ≡ get_or rows i r
    → k.variable ≡ r.variable
    → put_keep k (map keep_view rows) ≡ map keep_view (take i rows) ++ put_keep k (map keep_view (drop i rows))
    → map keep_view rows ≡ put_keep k (map keep_view rows)
stands_there k rows i r within is same so_far =
    let rest : drop i rows ≡ r ∷ drop (i + 1) rows = drop_item rows i r within is in
    ap (map keep_view) (sym (take-append-drop i rows)) ∙ map-append keep_view (take i rows) (drop i rows)
    ∙ ap (λ l. map keep_view (take i rows) ++ l)
    (ap (map keep_view) rest ∙ there_already k (keep_view r) (map keep_view (drop (i + 1) rows)) same
    ∙ ap (λ (l : List KeptKeep). put_keep k (map keep_view l)) (sym rest))
    ∙ sym so_far

-- what is known of all that is kept is known of what belongs together
pub rows_known : (s : Seen) (keeps : List Keep) (sides : Sides) → keeps ≡ keeps_in s
    → ((k : Keep) → belongs_in sides k ≡ belongs s k) → (rows : List Keep)
    → rows ≡ by_variable (filter (belongs_in sides) keeps) → rows ≡ kept_of s
rows_known s keeps sides same belong rows are = are ∙ λ i. by_variable (filter (λ k. belong k i) (same i))

pub sides_known : (s : Seen) (g : Gathered) (sides : Sides) → Gathers s g
    → HasSides (map keep_view g.keeps.items) (map write_view g.writes.items) sides
    → (k : Keep) → belongs_in sides k ≡ belongs s k
sides_known s g sides gathers has =
    belongs_same s sides (subst (λ ks. HasSides ks (writes_in s) sides) gathers.keeps
    (subst (λ ws. HasSides (map keep_view g.keeps.items) ws sides) gathers.writes has))

-- What the body keeps in an object

and_true : (a : Bool) → a ≡ (a && true)
and_true true = refl
and_true false = refl

and_false : (a : Bool) → false ≡ (a && false)
and_false true = refl
and_false false = refl

none_kept : {X : Type 0} (xs : List X) → [] ≡ filter (λ x. false) xs
none_kept [] = refl
none_kept (x ∷ xs) = none_kept xs

module _ (s : Seen) (bs : List BodyPlace) (x : ℕ) where
  abbrev kept_if : Bool → List Keep
  kept_if b = filter (λ k. (k.object == x) && b) (kept_of s)

  pub there_if : true ≡ is_of_body bs (found s (Some x)) → filter (λ k. k.object == x) (kept_of s) ≡ kept_there s bs (Some x)
  there_if is = (λ i. filter (λ k. and_true (k.object == x) i) (kept_of s)) ∙ ap kept_if is

  pub there_not : false ≡ is_of_body bs (found s (Some x)) → [] ≡ kept_there s bs (Some x)
  there_not is = none_kept (kept_of s) ∙ (λ i. filter (λ k. and_false (k.object == x) i) (kept_of s)) ∙ ap kept_if is
