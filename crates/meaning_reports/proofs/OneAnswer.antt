-- There is one answer: a file has one table of full credits, and a package one table of the most consistent flags.
use Rattle.std.proofs.Common.{◌≡◌, ℕ, zero, suc, ◌+◌, ◌<◌, ◌≤◌, Bool, true, false, ◌&&◌, if◌then◌else◌, List, [], ◌∷◌, Some, nat_lt, refl, sym, ◌∙◌, subst, arith}
use Rattle.std.specs.Prelude.{◌==◌, ◌↔◌}
use Rattle.std.proofs.lemmas.Bool.{ltb-true}
use Rattle.std.proofs.lemmas.Bool.Decides.{Decides-eqb}
use Rattle.meaning.specs.Mentions.{BodyPlace}
use Rattle.meaning.specs.Uses.{Seen, goes_off}
use Rattle.meaning_packages.specs.PathFaults.{paths_of}
use Rattle.meaning_packages.specs.Credits.{body_at, Credits, begun_after, no_calls, Settles, MayComeBack, IsCredited, AreFullCredits}
use Rattle.meaning.specs.BodyEvents.{bodies_of}
use Rattle.meaning_packages.specs.CallsFlags.{Flags, FileWithCredits, AreMost}
use Rattle.meaning_reports.specs.PackageTables.{AreCredited, no_file, file_and}

pub same_test : (a b : Bool) → (a ≡ true → b ≡ true) → (b ≡ true → a ≡ true) → a ≡ b
same_test true b there back = sym (there refl)
same_test false true there back = back refl
same_test false false there back = refl

-- Credits

-- no body begins so far on
abbrev bound : List BodyPlace → ℕ
bound [] = 0
bound (b ∷ bs) = b.at + 1 + bound bs

before_bound : (at : ℕ) (bs : List BodyPlace) (b : BodyPlace) → body_at at bs ≡ Some b → at < bound bs
before_bound at [] b e = cc
before_bound at (x ∷ bs) b e = by (x.at == at) (Decides-eqb x.at at).0 (before_bound at bs b) e
  where
    by : (t : Bool) → (t ≡ true → x.at ≡ at) → (body_at at bs ≡ Some b → at < bound bs)
        → (if t then Some x else body_at at bs) ≡ Some b
        → at < x.at + 1 + bound bs
    by true same later is = let here = same refl in omega (arith, here)
    by false same later is = let l = later is in omega (arith, l)

-- tables that agree on what lies after a literal
pub same_behind : (one other : Credits) (literal : ℕ)
    → ((later number : ℕ) → literal < later → one later number ≡ other later number)
    → begun_after literal one ≡ begun_after literal other
same_behind one other literal agree = λ i later number. by later number (nat_lt literal later) refl i
  where
    by : (later number : ℕ) (t : Bool) → nat_lt literal later ≡ t → (t && one later number) ≡ (t && other later number)
    by later number false e = refl
    by later number true e = agree later number (ltb-true literal later e)

-- whatever credits are, where those of a literal are a body's, and rely only on those behind it
module _ (bodies : List BodyPlace) (IsCredit : Credits → ℕ → ℕ → Type 0)
    (body_there : (credits : Credits) (literal number : ℕ) → IsCredit credits literal number
    → (b : BodyPlace) × (body_at literal bodies ≡ Some b))
    (credit_too : (one other : Credits) (literal number : ℕ) → begun_after literal one ≡ begun_after literal other
    → IsCredit one literal number
    → IsCredit other literal number) where
  abbrev AreCredits : Credits → Type 0
  AreCredits credits = (literal number : ℕ) → (credits literal number ≡ true) ↔ IsCredit credits literal number

  none_past : (credits : Credits) → AreCredits credits → (literal number : ℕ) → bound bodies ≤ literal
      → credits literal number ≡ false
  none_past credits are literal number past = by (credits literal number) refl
    where
      by : (t : Bool) → credits literal number ≡ t → t ≡ false
      by false e = refl
      by true e =
          let b = body_there credits literal number ((are literal number).0 e) in
          absurd (let l = before_bound literal bodies b.0 b.1 in omega (arith, l, past))

  module _ (one other : Credits) (are : AreCredits one) (too : AreCredits other) where
    -- from the last literal to the first
    same_from : (k literal : ℕ) → bound bodies ≤ literal + k → (number : ℕ)
        → one literal number ≡ other literal number
    same_from zero literal past number =
        let behind_all : bound bodies ≤ literal = omega (arith, past) in
        none_past one are literal number behind_all ∙ sym (none_past other too literal number behind_all)
    same_from (suc k) literal past number =
        let same = same_behind one other literal (λ later n l. same_from k later (omega (arith, l, past)) n) in
        same_test (one literal number) (other literal number)
        (λ e. (too literal number).1 (credit_too one other literal number same ((are literal number).0 e)))
        (λ e. (are literal number).1 (credit_too other one literal number (sym same) ((too literal number).0 e)))

  pub one_table_by : (one other : Credits) → AreCredits one → AreCredits other → one ≡ other
  one_table_by one other are too = λ i literal number.
      same_from one other are too (bound bodies) literal (omega arith) number i

module _ (seen : Seen) where
  credited_too : (one other : Credits) (literal number : ℕ) → begun_after literal one ≡ begun_after literal other
      → IsCredited seen one literal number
      → IsCredited seen other literal number
  credited_too one other literal number same h = record {
    body = h.body;
    variable = h.variable;
    is_there = h.is_there;
    is_followed = h.is_followed;
    is_of_body = h.is_of_body;
    is_captured = h.is_captured;
    is_it = h.is_it;
    binds_none = h.binds_none;
    comes_back = subst (λ c. MayComeBack seen.known.edition (goes_off h.body.literal)
        (paths_of seen (record { calls = no_calls; credits = c }) h.body)) same h.comes_back;
    settles = subst (λ c. Settles (paths_of seen (record { calls = no_calls; credits = c }) h.body) h.variable) same h.settles;
  }

  one_table : (one other : Credits) → AreFullCredits seen one → AreFullCredits seen other → one ≡ other
  one_table one other full full_too =
      one_table_by (bodies_of seen) (IsCredited seen) (λ credits literal number h. (h.body, h.is_there)) credited_too one other
      full.each full_too.each

-- Files

-- they are credited in one way
record IsFirst (seen : Seen) (rest : List Seen) (files : List FileWithCredits) : Type 0 where
  file : FileWithCredits
  others : List FileWithCredits
  is : files ≡ file ∷ others
  same : file.seen ≡ seen
  are_full : AreFullCredits seen file.credits
  are_credited : AreCredited rest others

first_of : {seens : List Seen} {files : List FileWithCredits} → AreCredited seens files
    → (first : Seen) (others : List Seen) → seens ≡ first ∷ others
    → IsFirst first others files
first_of no_file first others e = cc
first_of (file_and {seen} {rest} {file} {files} same full credited) first others e =
    let here : seen ≡ first = cc in
    let later : rest ≡ others = cc in
    record {
      file = file;
      others = files;
      is = refl;
      same = same ∙ here;
      are_full = subst (λ x. AreFullCredits x file.credits) here full;
      are_credited = subst (λ x. AreCredited x files) later credited;
    }

none_of : {seens : List Seen} {files : List FileWithCredits} → AreCredited seens files → seens ≡ [] → files ≡ []
none_of no_file e = refl
none_of (file_and same full credited) e = cc

pub one_list : (seens : List Seen) (files others : List FileWithCredits) → AreCredited seens files
    → AreCredited seens others
    → files ≡ others
one_list [] files others one other = none_of one refl ∙ sym (none_of other refl)
one_list (seen ∷ rest) files others one other =
    let a = first_of one seen rest refl in
    let b = first_of other seen rest refl in
    let credits : a.file.credits ≡ b.file.credits = one_table seen a.file.credits b.file.credits a.are_full b.are_full in
    let seen_so : a.file.seen ≡ b.file.seen = a.same ∙ sym b.same in
    let file : a.file ≡ b.file = λ i. record { seen = seen_so i; credits = credits i } in
    let left = one_list rest a.others b.others a.are_credited b.are_credited in
    a.is ∙ ((λ i. file i ∷ left i) ∙ sym b.is)

-- Flags

pub one_most : (files : List FileWithCredits) (imported : List ℕ → Flags) (one other : Flags)
    → AreMost files imported one
    → AreMost files imported other
    → one ≡ other
one_most files imported one other most most_too = λ i name k.
    same_test (one name k) (other name k) (most_too.include one most.are_consistent name k)
    (most.include other most_too.are_consistent name k) i
