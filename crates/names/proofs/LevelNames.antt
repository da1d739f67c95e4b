-- What each form of declaration adds to the package block.
use Rattle.std.proofs.Common.{◌≡◌, ℕ, Bool, true, false, if◌then◌else◌, List, [], ◌++◌, map, Option, sym, ap, ◌∙◌, append-nil}
use Rattle.std.specs.declared.alloc.Global.{Global}
use Rattle.std.specs.declared.boxed.Box.{Box}
use Rattle.std.specs.declared.vec.Vec.{Vec}
use Rattle.tree.specs.declared.declaration.Spec.{Spec, Value, «Type», Value', Type'}
use Rattle.tree.specs.declared.expression.Expr.{Expr}
use Rattle.tree.specs.declared.expression.Param.{Param}
use Rattle.tree.specs.declared.span.Identifier.{Identifier as KeptIdentifier}
use Rattle.tree.specs.declared.span.Span.{Span}
use Rattle.tree.specs.Syntax.{Specs, no_spec, Function, function_declaration}
use Rattle.tree.specs.View.{identifier_syntax, spec_and}
use Rattle.tree.proofs.Views.{spec_and-Value, spec_and-Type}
use Rattle.meaning.specs.OuterBlocks.{or_else, declares_at_package_level, names_at_package_level, specs_at_package_level, can_be_meant, declaration_at_package_level}
use Rattle.names.specs.Maps.{is_function_in}
use Rattle.names.proofs.Adding.{is_function_in-append}

specs_at-append : (s : Spec) (ss : Specs)
    → specs_at_package_level (spec_and s ss) ≡ specs_at_package_level (spec_and s no_spec) ++ specs_at_package_level ss
unfolding spec_and
specs_at-append (Value' ns t shape es span) ss = ap (λ l. l ++ specs_at_package_level ss) (sym (append-nil _))
specs_at-append (Type' n shape ps alias p t t_span span) ss = ap (λ l. l ++ specs_at_package_level ss) (sym (append-nil _))

pub specs_more : (s : Spec) (ss : Specs) (name : List ℕ)
    → is_function_in (specs_at_package_level (spec_and s ss)) name
    ≡ or_else (is_function_in (specs_at_package_level (spec_and s no_spec)) name)
    (is_function_in (specs_at_package_level ss) name)
specs_more s ss name = ap (λ l. is_function_in l name) (specs_at-append s ss) ∙ is_function_in-append _ _ name

module _ (s : Spec) where
  pub value_names : (ns : Vec KeptIdentifier Global) (t : Option (Box Expr Global)) (es : Vec Expr Global) (span : Span)
      (names : List KeptIdentifier) → s ≡ Value ns t es span → names ≡ ns.items → (name : List ℕ)
      → is_function_in (names_at_package_level (map identifier_syntax names)) name
      ≡ is_function_in (specs_at_package_level (spec_and s no_spec)) name
  value_names ns t es span names e f name =
      sym (ap (λ l. is_function_in (specs_at_package_level l) name)
      (ap (λ x. spec_and x no_spec) e ∙ spec_and-Value ns t es span no_spec)
      ∙ ap (λ l. is_function_in l name) (append-nil _)
      ∙ ap (λ l. is_function_in (names_at_package_level (map identifier_syntax l)) name) (sym f))

  pub type_names : (n : KeptIdentifier) (ps : Vec Param Global) (alias : Bool) (t : Box Expr Global) (span : Span) → s ≡ «Type» n ps alias t span
      → (name : List ℕ)
      → is_function_in (declares_at_package_level false (identifier_syntax n).text) name
      ≡ is_function_in (specs_at_package_level (spec_and s no_spec)) name
  type_names n ps alias t span e name =
      sym (ap (λ l. is_function_in (specs_at_package_level l) name)
      (ap (λ x. spec_and x no_spec) e ∙ spec_and-Type n ps alias t span no_spec)
      ∙ ap (λ l. is_function_in l name) (append-nil _))

pub function_names : (f : Function) → can_be_meant f ≡ true → (name : List ℕ)
    → is_function_in (declares_at_package_level true f.name.text) name
    ≡ is_function_in (declaration_at_package_level (function_declaration f)) name
function_names f e name =
    sym (ap (λ b. is_function_in (if b then declares_at_package_level true f.name.text else []) name) e)
