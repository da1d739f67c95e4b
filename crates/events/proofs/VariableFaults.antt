-- Faults of marks: those for which no variables are asked, and those that go by the variables of bodies.
use Rattle.std.proofs.Common.{◌≡◌, ℕ, Bool, true, false, true≢false, not, ◌&&◌, if◌then◌else◌, List, [], ◌∷◌, ◌++◌, length, map, refl, sym, ap, ◌∙◌, arith}
use Rattle.std.specs.Prelude.{◌==◌}
use Rattle.std.specs.List.{list_any}
use Rattle.std.proofs.lemmas.Bool.{ne_eqb}
use Rattle.std.proofs.lemmas.List.{append-nil}
use Rattle.meaning.specs.Jumps.{jumps_in}
use Rattle.meaning.specs.Mentions.{BodyPlace, Mark, mentions, of_fields, runs_literal, returns, opens, closes}
use Rattle.meaning.specs.OuterBlocks.{has_any}
use Rattle.meaning.specs.Uses.{Seen, UseFault, field_faults}
use Rattle.meaning.specs.BodyEvents.{Variable, comes_before, put_in, in_their_order, variables_of, too_many_faults, has_variables, mark_faults, unfollowed_faults}
use Rattle.uses.specs.declared.faults.UseFault.{UseFault as KeptFault}
use Rattle.uses.specs.OutcomeViews.{fault_view, AddsFaults, plain_faults}
use Rattle.events.specs.declared.found.Variables.{Variables}
use Rattle.events.specs.declared.variable.Variable.{Variable as KeptVariable}
use Rattle.events.specs.ToldViews.{faults_by_variables, faults_of_jumps}
use Rattle.events.specs.VariableViews.{variable_view, ordered_in}

-- Whether there are variables

has-put : (v : Variable) (vs : List Variable) → has_any (put_in v vs) ≡ true
has-put v [] = refl
has-put v (u ∷ us) = by (comes_before u v)
  where
    by : (t : Bool) → has_any (if t then u ∷ put_in v us else v ∷ u ∷ us) ≡ true
    by true = refl
    by false = refl

some_there : (v : KeptVariable) (vs : List KeptVariable) → not (length (v ∷ vs) == 0) ≡ true
some_there v vs = ap not (ne_eqb (length (v ∷ vs)) 0 (λ e. omega (arith, e)))

pub some_kept : (vs : List KeptVariable) (is_empty : Bool) → is_empty ≡ (length vs == 0)
    → not is_empty ≡ has_any (map variable_view vs)
some_kept [] is_empty e = ap not e
some_kept (v ∷ vs) is_empty e = ap not e ∙ some_there v vs

-- in their order too
pub some_ordered : (vs : List KeptVariable) (is_empty : Bool) → is_empty ≡ (length vs == 0)
    → not is_empty ≡ has_any (in_their_order (map variable_view vs))
some_ordered [] is_empty e = ap not e
some_ordered (v ∷ vs) is_empty e =
    ap not e ∙ (some_there v vs ∙ sym (has-put (variable_view v) (in_their_order (map variable_view vs))))

pub any_has : (s : Seen) (found : Variables) → ((body : ℕ) → ordered_in found body ≡ variables_of s body)
    → (bs : List BodyPlace) → list_any (λ b. has_any (ordered_in found b.at)) bs ≡ list_any (has_variables s) bs
any_has s found same bs = λ i. list_any (λ b. has_any (same b.at i)) bs

-- Faults that are added under a test, or none

module _ (before : List KeptFault) (fs : List UseFault) where
  pub adds_if : (t : Bool) → t ≡ true → (after : List KeptFault) → AddsFaults before after fs
      → AddsFaults before after (if t then fs else [])
  adds_if true e after added = added
  adds_if false e after added = absurd (true≢false (sym e))

  pub adds_none : (t : Bool) → t ≡ false → AddsFaults before before (if t then fs else [])
  adds_none true e = absurd (true≢false e)
  adds_none false e = sym (append-nil (map fault_view before))

  -- by two tests, the second of which is asked first
  pub adds_if_both : (t u both : Bool) → both ≡ (t && u) → both ≡ true → (after : List KeptFault)
      → AddsFaults before after fs → AddsFaults before after (if u then if t then fs else [] else [])
  adds_if_both true true both e is after added = added
  adds_if_both true false both e is after added = absurd (true≢false (sym is ∙ e))
  adds_if_both false u both e is after added = absurd (true≢false (sym is ∙ e))

  pub adds_unless_both : (t u both : Bool) → both ≡ (t && u) → both ≡ false
      → AddsFaults before before (if u then if t then fs else [] else [])
  adds_unless_both true true both e is = absurd (true≢false (sym e ∙ is))
  adds_unless_both true false both e is = sym (append-nil (map fault_view before))
  adds_unless_both false true both e is = sym (append-nil (map fault_view before))
  adds_unless_both false false both e is = sym (append-nil (map fault_view before))

-- All of a mark

pub faults_split : (s : Seen) (bs : List BodyPlace) (m : Mark)
    → mark_faults s bs m ≡ plain_faults s bs m ++ faults_by_variables s bs m
faults_split s bs (mentions m) = refl
faults_split s bs (of_fields site m) = sym (append-nil (field_faults s m))
faults_split s bs (runs_literal moment site at) = refl
faults_split s bs (returns at es) = refl
faults_split s bs (opens b) = refl
faults_split s bs closes = refl

pub are_unfollowed : (s : Seen) (b : BodyPlace) (vs : List KeptVariable) (is_empty : Bool) → is_empty ≡ (length vs == 0)
    → map variable_view vs ≡ variables_of s b.at
    → too_many_faults (map variable_view vs) ++ (if not is_empty then faults_of_jumps (jumps_in b.statements) else [])
    ≡ unfollowed_faults s b
are_unfollowed s b vs is_empty e same =
    let jumps = faults_of_jumps (jumps_in b.statements) in
    ap (λ t. too_many_faults (map variable_view vs) ++ (if t then jumps else [])) (some_kept vs is_empty e)
    ∙ ap (λ us. too_many_faults us ++ (if has_any us then jumps else [])) same
