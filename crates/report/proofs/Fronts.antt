-- What a sink took of a text that is put part by part: a front of a part is a front of the whole, behind the parts
-- before it.
use Rattle.std.proofs.Common.{◌≡◌, ℕ, zero, suc, ◌<◌, List, [], ◌∷◌, ◌++◌, length, get_or, take, drop, flat_map, Result, Ok, Err, refl, sym, ap, ◌∙◌, subst, arith}
use Rattle.std.proofs.lemmas.List.{append_assoc}
use Rattle.report.specs.Writing.{TakesFront, IsWritten}

-- the rest of a text that is not empty was left when a put refused it
pub stops_before : {T E : Type 0} (text old new front rest : List ℕ) → text ≡ front ++ rest → 0 < length rest → new ≡ old ++ front → (r : Result T E) → (e : E) → r ≡ Err e → IsWritten text old new r
stops_before {T} {E} text old new front [] split more taken r e is = absurd (omega (arith, more))
stops_before {T} {E} text old new front (b ∷ rest) split more taken r e is =
    subst (λ (x : Result T E). IsWritten text old new x) (sym is) (record { front = front; next = b; rest = rest; is_front = split; taken = taken })

-- a front of the part behind what was taken, where more may follow
pub front_within : (done part more old mid new : List ℕ) → mid ≡ old ++ done → TakesFront part mid new → TakesFront (done ++ (part ++ more)) old new
front_within done part more old mid new before t = record {
  front = done ++ t.front;
  next = t.next;
  rest = t.rest ++ more;
  is_front =
      ap (λ x. done ++ (x ++ more)) t.is_front
      ∙ (ap (λ x. done ++ x) (append_assoc t.front (t.next ∷ t.rest) more) ∙ sym (append_assoc done t.front (t.next ∷ (t.rest ++ more))));
  taken = t.taken ∙ (ap (λ x. x ++ t.front) before ∙ append_assoc old done t.front);
}

-- the last part, in one go: what the call of the part says is what the whole says
pub last_part : {T E : Type 0} (done part old mid new : List ℕ) → mid ≡ old ++ done → (r : Result T E) → IsWritten part mid new r → IsWritten (done ++ part) old new r
last_part done part old mid new before (Ok v) h = h ∙ (ap (λ x. x ++ part) before ∙ append_assoc old done part)
last_part done part old mid new before (Err e) h = record {
  front = done ++ h.front;
  next = h.next;
  rest = h.rest;
  is_front = ap (λ x. done ++ x) h.is_front ∙ sym (append_assoc done h.front (h.next ∷ h.rest));
  taken = h.taken ∙ (ap (λ x. x ++ h.front) before ∙ append_assoc old done h.front);
}

-- an exit in a part is one of the whole
pub fails_within : {T E : Type 0} (whole done part more old mid new : List ℕ) → whole ≡ done ++ (part ++ more) → mid ≡ old ++ done → TakesFront part mid new → (r : Result T E) → (e : E) → r ≡ Err e → IsWritten whole old new r
fails_within {T} {E} whole done part more old mid new split before t r e is =
    subst (λ (x : Result T E). IsWritten whole old new x) (sym is)
    (subst (λ x. TakesFront x old new) (sym split) (front_within done part more old mid new before t))

-- the texts of a list's elements around one of them
around : {X : Type 0} (f : X → List ℕ) (xs : List X) (i : ℕ) (d : X) → i < length xs → flat_map f xs ≡ flat_map f (take i xs) ++ (f (get_or xs i d) ++ flat_map f (drop (suc i) xs))
around f [] i d h = absurd (omega (arith, h))
around f (y ∷ ys) zero d h = refl
around f (y ∷ ys) (suc i) d h =
    ap (λ t. f y ++ t) (around f ys i d (omega (arith, h)))
    ∙ sym (append_assoc (f y) (flat_map f (take i ys)) (f (get_or ys i d) ++ flat_map f (drop (suc i) ys)))

-- a loop over a list stops at an element, whose text was begun
pub fails_at : {X T E : Type 0} (f : X → List ℕ) (xs : List X) (i : ℕ) (d : X) → i < length xs → (old mid new : List ℕ) → mid ≡ old ++ flat_map f (take i xs) → TakesFront (f (get_or xs i d)) mid new → (r : Result T E) → (e : E) → r ≡ Err e → IsWritten (flat_map f xs) old new r
fails_at f xs i d inside old mid new before t r e is =
    fails_within (flat_map f xs) (flat_map f (take i xs)) (f (get_or xs i d)) (flat_map f (drop (suc i) xs)) old mid new (around f xs i d inside) before t r e is

-- the same of an element that is known by itself
pub fails_at_item : {X T E : Type 0} (f : X → List ℕ) (xs : List X) (i : ℕ) (x : X) → i < length xs → x ≡ get_or xs i x → (old mid new : List ℕ) → mid ≡ old ++ flat_map f (take i xs) → TakesFront (f x) mid new → (r : Result T E) → (e : E) → r ≡ Err e → IsWritten (flat_map f xs) old new r
fails_at_item f xs i x inside there old mid new before t r e is =
    fails_at f xs i x inside old mid new before (subst (λ y. TakesFront (f y) mid new) there t) r e is
