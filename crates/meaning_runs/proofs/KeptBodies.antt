-- Where nothing is to be said of any package that runs go through, all is there that the invariant asks of bodies.
use Rattle.std.proofs.Common.{◌≡◌, sym, ◌∙◌, subst}
use Rattle.meaning.specs.FunctionFacts.{VariableKind}
use Rattle.meaning.specs.Uses.{VariableAt}
use Rattle.meaning_runs.specs.Bodies.{Program, Body, IsRun}
use Rattle.meaning_runs.specs.Promise.{AreWellKnown, HaveNoFindings}
use Rattle.meaning_runs.proofs.Bindings.{binds_so}
use Rattle.meaning_runs.proofs.CaredActs.{BodiesAreKept}
use Rattle.meaning_runs.proofs.EventSources.{events_have_sources}
use Rattle.meaning_runs.proofs.GroupDuties.{well_used}
use Rattle.meaning_runs.proofs.GroupVariables.{starts_are_allowed, bindings_are_own}
use Rattle.meaning_runs.proofs.KeptPromises.{no_fault_under, called_under, waited_for_under}
use Rattle.meaning_runs.proofs.OwnBindings.{BindsVariable, BindsItsOwn}
use Rattle.meaning_runs.proofs.PassedVariables.{passed_is_high}
use Rattle.meaning_runs.proofs.TrackedBindings.{cancel_bound}

-- by its number alone
bound_by_number : {kind : VariableKind} {b : Body} (w u : VariableAt) → w.number ≡ u.number → BindsVariable kind b w
    → BindsVariable kind b u
bound_by_number w u same h = record {
  variable = h.variable;
  is_of_body = h.is_of_body;
  is_it = h.is_it ∙ same;
  is_of_kind = h.is_of_kind;
  is_declared_here = h.is_declared_here;
  is_no_parameter = λ v k among its role. h.is_no_parameter v k among (its ∙ sym same) role;
}

-- what is bound as a cancel variable is one that the body declares
pub binds_its_own : (p : Program) → BindsItsOwn p
binds_its_own p = record {
  each = λ b t o u of reached binds.
      let w = binds_so o.event u binds in
      subst (λ k. BindsVariable k b u) (cancel_bound o.event u binds)
      (bound_by_number w.0 u w.2 (bindings_are_own p b t o w.0 of reached w.1));
}

pub bodies_are_kept : (p : Program) → AreWellKnown p → HaveNoFindings p (IsRun p) → BodiesAreKept p
bodies_are_kept p known below = record {
  no_fault = no_fault_under p known below;
  called = called_under p known below;
  waited = waited_for_under p known below;
  binds = binds_its_own p;
  passes_own = λ b t o n of reached is v among same. passed_is_high b t o n reached is v among same;
  starts = λ b t o v literal of reached h.
      let g = (starts_are_allowed b (well_used p below known.of_texts b of) of.is_body o.event
      (events_have_sources b t o reached) v literal h).0 in
      (g.variable, g.is_of_body, g.is_group_variable, g.is_it);
}
