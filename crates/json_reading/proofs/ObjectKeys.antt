-- Objects by their keys, as members are put into them one by one.
use Rattle.std.proofs.Common.{◌≡◌, inl, inr, ℕ, ◌∷◌, [], Bool, true, false, List, Option, Some, None, is_eq, bytes_eq, true≢false, refl, sym, ap, subst, ◌∙◌}
use Rattle.std.proofs.lemmas.Cmp.{nat_list_cmp_total, tied_itself}
use Rattle.std.proofs.lemmas.Map.Text.{is_eq-slice_cmp}
use Rattle.std.proofs.lemmas.Slice.Eq.{bytes_eq-Decides}
use Rattle.std.specs.Cmp.Lexicographic.{slice_cmp}
use Rattle.std.specs.declared.cmp.Ordering.{Ordering}
use Rattle.std.specs.declared.cmp.Ordering.TheVariants.{Less, Equal, Greater}
use Rattle.std.specs.Ordering.{nat_cmp, match_ordering, ordering_reverse}
use Rattle.serde_json.specs.Data.{Data, Members, member, put}
use Rattle.serde_json.specs.Find.{get_member}
use Rattle.serde_json.proofs.Views.{get_member-put, get_member-put_other}
use Rattle.json_reading.specs.Standing.{Judges, Refutes}
use Rattle.json_reading.specs.Keyed.{with_member, chosen, HasOther, IsBelow, IsNone, IsOne, IsUnder, KeysRise}

-- Keys that were compared

pub same_key : (k q : List ℕ) → true ≡ bytes_eq k q → k ≡ q
same_key k q e = (bytes_eq-Decides k q).0 (sym e)

pub other_key : (k q : List ℕ) → false ≡ bytes_eq k q → k ≡ q → ⊥
other_key k q e same = true≢false (sym ((bytes_eq-Decides k q).1 same) ∙ sym e)

-- What is read under one key

module _ (P : Option Data → Type 0) (key k : List ℕ) (value : Data) (ms : Members) where
  -- what holds of a value holds of what stands under the key it is put at
  pub set : k ≡ key → P (Some value) → P (get_member key (put k value ms))
  set same h =
      subst P (sym (ap (λ q. get_member q (put k value ms)) (sym same) ∙ get_member-put k value ms)) h

  pub kept : (k ≡ key → ⊥) → P (get_member key ms) → P (get_member key (put k value ms))
  kept other h = subst P (sym (get_member-put_other key k value ms (λ e. other (sym e)))) h

module _ {X : Type 0} (Is : Data → X → Type 0) where
  pub none_under : IsUnder Is None None
  none_under value x e = absurd (cc)

  pub under_value : (value : Data) (found : Option X) → Judges Is (Refutes Is) value found
      → IsUnder Is (Some value) found
  under_value value None h = λ d x is. subst (λ v. ¬ Is v x) (cc) (h x)
  under_value value (Some x) h = (value, refl, h)

-- What is put under one of some keys

not_equal : (o : Ordering) → o ≡ Less → o ≡ Equal → ⊥
not_equal o e h = cc

pub differs : (k q : List ℕ) → slice_cmp nat_cmp k q ≡ Less → k ≡ q → ⊥
differs k q less same =
    not_equal (slice_cmp nat_cmp k q) less
    (ap (slice_cmp nat_cmp k) (sym same) ∙ tied_itself nat_list_cmp_total k)

before : (k : List ℕ) (value : Data) (q : List ℕ) (o : Option Data) (rest : Members) → slice_cmp nat_cmp k q ≡ Less
    → put k value rest ≡ member k value rest
    → put k value (with_member q o rest) ≡ member k value (with_member q o rest)
before k value q None rest less e = e
before k value q (Some x) rest less e =
    ap (λ o. match_ordering o (member k value (member q x rest)) (member q value rest) (member q x (put k value rest)))
    less

put_first : (k : List ℕ) (value : Data) (keys : List (List ℕ)) (f : List ℕ → Option Data) → IsBelow k keys
    → put k value (chosen keys f) ≡ member k value (chosen keys f)
put_first k value [] f below = refl
put_first k value (q ∷ keys) f below =
    before k value q (f q) (chosen keys f) below.0 (put_first k value keys f below.1)

here : (k : List ℕ) (value : Data) (q : List ℕ) (o : Option Data) (rest : Members) → k ≡ q
    → put k value rest ≡ member k value rest
    → put k value (with_member q o rest) ≡ member q value rest
here k value q None rest same e = e ∙ ap (λ x. member x value rest) same
here k value q (Some x) rest same e =
    ap (λ o. match_ordering o (member k value (member q x rest)) (member q value rest) (member q x (put k value rest)))
    (ap (slice_cmp nat_cmp k) (sym same) ∙ tied_itself nat_list_cmp_total k)

there : (k : List ℕ) (value : Data) (q : List ℕ) (o : Option Data) (rest : Members)
    → slice_cmp nat_cmp k q ≡ Greater
    → put k value (with_member q o rest) ≡ with_member q o (put k value rest)
there k value q None rest e = refl
there k value q (Some x) rest e =
    ap (λ o. match_ordering o (member k value (member q x rest)) (member q value rest) (member q x (put k value rest))) e

same_chosen : (keys : List (List ℕ)) (k : List ℕ) (f g : List ℕ → Option Data)
    → ((q : List ℕ) → (k ≡ q → ⊥) → g q ≡ f q)
    → IsBelow k keys
    → chosen keys f ≡ chosen keys g
same_chosen [] k f g others below = refl
same_chosen (q ∷ keys) k f g others below =
    λ i. with_member q (sym (others q (differs k q below.0)) i) (same_chosen keys k f g others below.1 i)

below_one : (q k : List ℕ) (keys : List (List ℕ)) → IsBelow q keys → IsOne k keys → slice_cmp nat_cmp q k ≡ Less
below_one q k [] below one = absurd one
below_one q k (r ∷ keys) below (inl e) = ap (slice_cmp nat_cmp q) e ∙ below.0
below_one q k (r ∷ keys) below (inr one) = below_one q k keys below.1 one

put_chosen : (keys : List (List ℕ)) (k : List ℕ) (value : Data) (f g : List ℕ → Option Data) → KeysRise keys
    → IsOne k keys
    → g k ≡ Some value
    → ((q : List ℕ) → (k ≡ q → ⊥) → g q ≡ f q)
    → put k value (chosen keys f) ≡ chosen keys g
put_chosen [] k value f g rise one is others = absurd one
put_chosen (q ∷ keys) k value f g rise (inl e) is others =
    let below = subst (λ x. IsBelow x keys) (sym e) rise.0 in
    here k value q (f q) (chosen keys f) e (put_first k value keys f below)
    ∙ (λ i. with_member q ((sym is ∙ ap g e) i) (same_chosen keys k f g others below i))
put_chosen (q ∷ keys) k value f g rise (inr one) is others =
    let less = below_one q k keys rise.0 one in
    let greater : slice_cmp nat_cmp k q ≡ Greater =
    nat_list_cmp_total.antisymm k q ∙ ap ordering_reverse less in
    there k value q (f q) (chosen keys f) greater
    ∙ (λ i. with_member q (sym (others q (λ e. differs q k less (sym e))) i) (put_chosen keys k value f g rise.1 one is others i))

one_or_none : (k q : List ℕ) (keys : List (List ℕ)) → IsNone k keys → IsOne q keys → q ≡ k → ⊥
one_or_none k q [] none one e = one
one_or_none k q (r ∷ keys) none (inl h) e = none.0 (sym e ∙ h)
one_or_none k q (r ∷ keys) none (inr one) e = one_or_none k q keys none.1 one e

pub other_kept : (keys : List (List ℕ)) (k : List ℕ) (value : Data) (ms : Members) (other : Bool) → KeysRise keys
    → IsOne k keys
    → HasOther keys ms other
    → HasOther keys (put k value ms) other
other_kept keys k value ms true rise one h = (
  h.0,
  h.1,
  get_member-put_other h.0 k value ms (λ e. one_or_none h.0 k keys h.3 one (sym e)) ∙ h.2,
  h.3,
)
other_kept keys k value ms false rise one h =
    ap (put k value) h
    ∙ put_chosen keys k value (λ q. get_member q ms) (λ q. get_member q (put k value ms)) rise one
    (get_member-put k value ms) (λ q apart. get_member-put_other q k value ms (λ e. apart (sym e)))

pub other_put : (keys : List (List ℕ)) (k : List ℕ) (value : Data) (ms : Members) → IsNone k keys
    → HasOther keys (put k value ms) true
other_put keys k value ms none = (k, value, get_member-put k value ms, none)

-- What has other members is no object of the wanted form

skipped : (o : Ordering) (a b : Option Data) → (o ≡ Equal → ⊥) → match_ordering o a b a ≡ a
skipped Less a b other = refl
skipped Equal a b other = absurd (other refl)
skipped Greater a b other = refl

not_there : (k q : List ℕ) (o : Option Data) (ms : Members) → (k ≡ q → ⊥) → get_member k ms ≡ None
    → get_member k (with_member q o ms) ≡ None
not_there k q None ms other e = e
not_there k q (Some value) ms other e =
    skipped (slice_cmp nat_cmp k q) (get_member k ms) (Some value)
    (λ same. other ((bytes_eq-Decides k q).0 (sym (is_eq-slice_cmp k q) ∙ ap is_eq same))) ∙ e

none_chosen : (keys : List (List ℕ)) (k : List ℕ) (f : List ℕ → Option Data) → IsNone k keys
    → get_member k (chosen keys f) ≡ None
none_chosen [] k f none = refl
none_chosen (q ∷ keys) k f none = not_there k q (f q) (chosen keys f) none.0 (none_chosen keys k f none.1)

pub none_some : {A : Type 0} (o : Option A) (a : A) → o ≡ None → o ≡ Some a → ⊥
none_some o a e h = cc

pub has_no_other : (keys : List (List ℕ)) (ms : Members) (f : List ℕ → Option Data) → ms ≡ chosen keys f
    → HasOther keys ms true
    → ⊥
has_no_other keys ms f e h =
    none_some (get_member h.0 ms) h.1 (ap (get_member h.0) e ∙ none_chosen keys h.0 f h.3) h.2
