-- A text that is put part by part: what was taken of it so far, and what is left.
use Rattle.std.proofs.Common.{◌≡◌, ℕ, Bool, true, false, not, List, [], ◌++◌, Result, Ok, Err, refl, sym, ap, ◌∙◌, subst}
use Rattle.std.proofs.lemmas.List.{append_assoc, append-nil}
use Rattle.report.specs.Writing.{TakesFront, IsWritten}
use Rattle.report.proofs.Fronts.{fails_within}

-- a sink that had taken `old` and has taken `now` took all of the text but what is left
pub record Goes (text old now left : List ℕ) : Type 0 where
  pub done : List ℕ
  pub split : text ≡ done ++ left
  pub taken : now ≡ old ++ done

pub begins : (text old : List ℕ) → Goes text old old text
begins text old = record { done = []; split = refl; taken = sym (append-nil old) }

-- the same of a text that is another one
pub begins_as : (text old left : List ℕ) → text ≡ left → Goes text old old left
begins_as text old left is = record { done = []; split = is; taken = sym (append-nil old) }

-- a part was taken
pub goes_on : (text old mid new before part left : List ℕ) → before ≡ part ++ left → Goes text old mid before → new ≡ mid ++ part → Goes text old new left
goes_on text old mid new before part left is g taken = record {
  done = g.done ++ part;
  split = g.split ∙ (ap (λ x. g.done ++ x) is ∙ sym (append_assoc g.done part left));
  taken = taken ∙ (ap (λ x. x ++ part) g.taken ∙ append_assoc old g.done part);
}

-- nothing is left
pub ends : (text old now left : List ℕ) → left ≡ [] → Goes text old now left → now ≡ old ++ text
ends text old now left none g =
    g.taken ∙ ap (λ x. old ++ x) (sym (g.split ∙ (ap (λ x. g.done ++ x) none ∙ append-nil g.done)))

-- a part was begun and not ended
pub stops : {T E : Type 0} (text old mid new before part left : List ℕ) → before ≡ part ++ left → Goes text old mid before → TakesFront part mid new → (r : Result T E) → (e : E) → r ≡ Err e → IsWritten text old new r
stops text old mid new before part left is g begun r e why =
    fails_within text g.done part left old mid new (g.split ∙ ap (λ x. g.done ++ x) is) g.taken begun r e why

-- the call that puts the last part says of it what is said of the whole
pub last_call : {T E : Type 0} (text old mid new before : List ℕ) → Goes text old mid before → (r : Result T E) → IsWritten before mid new r → IsWritten text old new r
last_call {T} {E} text old mid new before g (Ok v) h = ends text old new [] refl (goes_on text old mid new before before [] (sym (append-nil before)) g h)
last_call {T} {E} text old mid new before g (Err e) h =
    stops {T = T} {E = E} text old mid new before before [] (sym (append-nil before)) g h (Err e) e refl

-- what is said of one text is said of the same text
pub written_as : {T E : Type 0} (text same old new : List ℕ) → text ≡ same → (r : Result T E) → IsWritten same old new r → IsWritten text old new r
written_as {T} {E} text same old new is r h = subst (λ x. IsWritten {T = T} {E = E} x old new r) (sym is) h

-- there was nothing to put
pub nothing_put : (text old : List ℕ) → text ≡ [] → old ≡ old ++ text
nothing_put text old none = sym (ap (λ t. old ++ t) none ∙ append-nil old)

-- a part that comes first is put in two
pub in_two : (before whole left a b : List ℕ) → before ≡ whole ++ left → whole ≡ a ++ b → before ≡ a ++ (b ++ left)
in_two before whole left a b is parts = is ∙ (ap (λ t. t ++ left) parts ∙ append_assoc a b left)

-- what the test of `!flag` says of the flag
pub flag_is : (flag : Bool) → not flag ≡ false → flag ≡ true
flag_is true h = refl
flag_is false h = sym h

pub flag_not : (flag : Bool) → not flag ≡ true → flag ≡ false
flag_not true h = sym h
flag_not false h = refl
