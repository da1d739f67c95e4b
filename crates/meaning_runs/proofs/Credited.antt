-- What a body relies on of the literals in it holds of them, and it binds what they are relied on for in declarations
-- alone; a body that is known to call a variable leaves it open at none of its returns.
use Rattle.std.proofs.Common.{◌≡◌, ℕ, Bool, true, false, List, [], ◌∷◌, Some, None, Contains, refl, sym, ap, ◌∙◌, subst}
use Rattle.std.specs.Prelude.{◌==◌, if◌then◌else◌, nat_lt}
use Rattle.std.proofs.lemmas.Bool.{and_parts}
use Rattle.std.proofs.lemmas.Option.{same_Some}
use Rattle.meaning.specs.FunctionFacts.{VariableKind, cancel, group}
use Rattle.meaning.specs.Mentions.{BodyPlace}
use Rattle.meaning.specs.Tracked.{Local}
use Rattle.meaning.specs.Uses.{Callee, Seen, found, tracked_kind}
use Rattle.meaning.specs.BodyEvents.{Variable, captured, variables_of}
use Rattle.meaning_packages.proofs.BodyPlaces.{placed_only}
use Rattle.meaning.proofs.Membership.{contains_here, contains_there}
use Rattle.meaning_packages.specs.PathFaults.{paths_of}
use Rattle.meaning_packages.specs.Credits.{Credits, AreFairCredits, IsCredited, Settles, body_at, no_calls, promises_in}
use Rattle.meaning.specs.BodyEvents.{opened_in, bodies_of}
use Rattle.meaning_runs.specs.Bodies.{Body, IsLiteralIn, variables_in}
use Rattle.meaning_runs.specs.BodyOffsets.{AreApart}
use Rattle.meaning_runs.specs.Duties.{IsCreditedWith, IsWaitingFor}
use Rattle.meaning_runs.proofs.Captured.{of_variable}
use Rattle.meaning_runs.proofs.Places.{eqb_is}
use Rattle.meaning_runs.proofs.MarksBeside.{opened_there}

-- the body that is found at an offset
at_offset : (at : ℕ) (bs : List BodyPlace) (b : BodyPlace) → body_at at bs ≡ Some b → Contains bs b × (b.at ≡ at)
at_offset at [] b e = let bad : None ≡ Some b = e in cc
at_offset at (x ∷ xs) b e = by (x.at == at) refl e (at_offset at xs b)
  where
    by : (t : Bool) → (x.at == at) ≡ t → (if t then Some x else body_at at xs) ≡ Some b → (body_at at xs ≡ Some b → Contains xs b × (b.at ≡ at)) → Contains (x ∷ xs) b × (b.at ≡ at)
    by true q is go =
        let same = same_Some x b is in
        (subst (λ y. Contains (x ∷ xs) y) same (contains_here x xs), ap (λ (y : BodyPlace). y.at) (sym same) ∙ eqb_is x.at at q)
    by false q is go = let r = go is in (contains_there x b xs r.0, r.1)

-- one number is one local, of one kind
pub same_kind : (seen : Seen) (one other : ℕ) (v w : Variable) → Contains (variables_of seen one) v → Contains (variables_of seen other) w → w.number ≡ v.number → w.kind ≡ v.kind
same_kind seen one other v w among there same =
    let h = of_variable seen one v among in
    let g = of_variable seen other w there in
    let local : h.0 ≡ g.0 = same_Some h.0 g.0 (sym h.1 ∙ ap (λ n. found seen (Some n)) (sym same) ∙ g.1) in
    same_Some w.kind v.kind (sym g.4 ∙ ap (λ (l : Local). tracked_kind seen (Some l)) (sym local) ∙ h.4)

-- the literal captures the variable, a cancel variable or a group, and its paths settle it, under some fair credits
record IsCreditedAs (kind : VariableKind) (literal : Body) (v : Variable) : Type 0 where
  credits : Credits
  are_fair : AreFairCredits literal.file credits
  is_of_body : Contains (variables_in literal) v
  is_captured : v.role ≡ captured
  is_of_kind : v.kind ≡ kind
  settles : Settles (paths_of literal.file (promises_in no_calls credits literal.place.at) literal.place) v

module _ (b : Body) (apart : AreApart b.file.marks) (credits : Credits) (fair : AreFairCredits b.file credits) (calls : Callee → ℕ → Bool) where
  credit_of : (at number : ℕ) → (promises_in calls credits b.place.at).credits at number ≡ true → IsCredited b.file credits at number
  credit_of at number q = fair.each at number (and_parts (nat_lt b.place.at at) (credits at number) q).1

  literals_credited : (kind : VariableKind) (v : Variable) (literal : Body) → Contains (variables_in b) v → v.kind ≡ kind → IsLiteralIn b literal → (promises_in calls credits b.place.at).credits literal.place.at v.number ≡ true → (w : Variable) × IsCreditedAs kind literal w × (w.number ≡ v.number)
  literals_credited kind v literal among is_kind is q =
      let c = credit_of literal.place.at v.number q in
      let found_there = at_offset literal.place.at (bodies_of b.file) c.body c.is_there in
      let there = opened_there b.file.marks is.mark literal.place is.is_of_file is.opens_it in
      let one : c.body ≡ literal.place = apart.one_each c.body literal.place (placed_only (opened_in b.file.marks) c.body found_there.0) there found_there.1 in
      let file = sym is.same_file in (
        c.variable,
        record {
          credits = credits;
          are_fair = subst (λ f. AreFairCredits f credits) file fair;
          is_of_body = subst (λ f. Contains (variables_of f literal.place.at) c.variable) file c.is_of_body;
          is_captured = c.is_captured;
          is_of_kind = same_kind b.file b.place.at literal.place.at v c.variable among c.is_of_body c.is_it ∙ is_kind;
          settles = subst (λ f. Settles (paths_of f (promises_in no_calls credits literal.place.at) literal.place) c.variable) file (subst (λ x. Settles (paths_of b.file (promises_in no_calls credits literal.place.at) x) c.variable) one c.settles);
        },
        c.is_it,
      )

  pub literals_taken_up : (v : Variable) (literal : Body) → Contains (variables_in b) v → v.kind ≡ cancel → IsLiteralIn b literal → (promises_in calls credits b.place.at).credits literal.place.at v.number ≡ true → (w : Variable) × IsCreditedWith literal w × (w.number ≡ v.number)
  literals_taken_up v literal among kind is q =
      let r = literals_credited cancel v literal among kind is q in
      let c = r.1 in (
        r.0,
        record { credits = c.credits; are_fair = c.are_fair; is_of_body = c.is_of_body; is_captured = c.is_captured; is_cancel_variable = c.is_of_kind; settles = c.settles },
        r.2,
      )

  pub literals_wait : (g : Variable) (literal : Body) → Contains (variables_in b) g → g.kind ≡ group → IsLiteralIn b literal → (promises_in calls credits b.place.at).credits literal.place.at g.number ≡ true → (w : Variable) × IsWaitingFor literal w × (w.number ≡ g.number)
  literals_wait g literal among kind is q =
      let r = literals_credited group g literal among kind is q in
      let c = r.1 in (
        r.0,
        record { credits = c.credits; are_fair = c.are_fair; is_of_body = c.is_of_body; is_captured = c.is_captured; is_group_variable = c.is_of_kind; settles = c.settles },
        r.2,
      )
