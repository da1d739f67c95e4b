-- The events of a declaration, spec by spec.
use Rattle.std.proofs.Common.{◌≡◌, List, [], ◌++◌, Option, sym, ap, ◌∙◌, append_assoc}
use Rattle.std.proofs.lemmas.List.{append-nil}
use Rattle.std.specs.declared.alloc.Global.{Global}
use Rattle.std.specs.declared.boxed.Box.{Box}
use Rattle.std.specs.declared.vec.Vec.{Vec}
use Rattle.tree.specs.declared.declaration.Spec.{Spec, Value, «Type», Value', Type'}
use Rattle.tree.specs.declared.expression.Expr.{Expr}
use Rattle.tree.specs.declared.expression.Param.{Param}
use Rattle.tree.specs.declared.span.Identifier.{Identifier as KeptIdentifier}
use Rattle.tree.specs.declared.span.Span.{Span}
use Rattle.tree.specs.Syntax.{Specs, no_spec}
use Rattle.tree.specs.View.{spec_and}
use Rattle.tree.proofs.Views.{spec_and-Value, spec_and-Type}
use Rattle.meaning.specs.StatementCode.{Sites, or_other, spec_events}

module _ {E : Type 0} (sites : Sites E) where
  pub events_of-Value : (s : Spec) (ns : Vec KeptIdentifier Global) (t : Option (Box Expr Global)) (es : Vec Expr Global) (span : Span)
      → s ≡ Value ns t es span → or_other sites (sites.events span.start) ≡ spec_events sites (spec_and s no_spec)
  events_of-Value s ns t es span e =
      sym (ap (λ x. spec_events sites (spec_and x no_spec)) e
      ∙ ap (spec_events sites) (spec_and-Value ns t es span no_spec)
      ∙ append-nil (or_other sites (sites.events span.start)))

  pub events_of-Type : (s : Spec) (n : KeptIdentifier) (ps : Vec Param Global) (alias : _) (t : Box Expr Global) (span : Span)
      → s ≡ «Type» n ps alias t span → or_other sites (sites.events span.start) ≡ spec_events sites (spec_and s no_spec)
  events_of-Type s n ps alias t span e =
      sym (ap (λ x. spec_events sites (spec_and x no_spec)) e
      ∙ ap (spec_events sites) (spec_and-Type n ps alias t span no_spec)
      ∙ append-nil (or_other sites (sites.events span.start)))

  pub specs_more : (s : Spec) (rest : Specs)
      → spec_events sites (spec_and s rest) ≡ spec_events sites (spec_and s no_spec) ++ spec_events sites rest
  unfolding spec_and
  specs_more (Value' ns t shape es span) rest =
      ap (λ l. l ++ spec_events sites rest) (sym (append-nil (or_other sites (sites.events span.start))))
  specs_more (Type' n shape ps alias p t t_span span) rest =
      ap (λ l. l ++ spec_events sites rest) (sym (append-nil (or_other sites (sites.events span.start))))

  pub more_events : (before after adds all rest whole : List E) → after ≡ before ++ adds → all ≡ adds ++ rest
      → before ++ all ≡ whole → after ++ rest ≡ whole
  more_events before after adds all rest whole added split so_far =
      ap (λ l. l ++ rest) added ∙ append_assoc before adds rest ∙ ap (λ l. before ++ l) (sym split) ∙ so_far

  pub all_events : (all rest whole : List E) → rest ≡ [] → all ++ rest ≡ whole → all ≡ whole
  all_events all rest whole none so_far = sym (append-nil all) ∙ ap (λ l. all ++ l) (sym none) ∙ so_far
