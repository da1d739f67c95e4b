-- Items of a list with an item that has both name and type.
use Rattle.std.proofs.Common.{◌≡◌, ℕ, ◌+◌, ◌<◌, Bool, true, false, List, [], ◌∷◌, ◌++◌, length, drop, get_or, drop-cons, add-one, reverse, Option, Some, None, option_map, refl, sym, ap, ◌∙◌}
use Rattle.std.proofs.lemmas.List.{nil_from_length, reverse-append, length-reverse}
use Rattle.std.proofs.Math.Dec.{eqb-suc-zero}
use Rattle.std.specs.Prelude.{◌==◌, not, option_and_then}
use Rattle.tree.specs.declared.expression.Expr.{Expr}
use Rattle.tree.specs.declared.expression.ExprKind.{ExprKind, Name, FuncLit'}
use Rattle.tree.specs.declared.expression.Literal.{Literal'}
use Rattle.tree.specs.declared.expression.Param.{Param, Named, Unnamed, NameAlone, Named', Unnamed'}
use Rattle.tree.specs.declared.span.Identifier.{Identifier as KeptIdentifier}
use Rattle.tree.specs.declared.span.Span.{Span}
use Rattle.tree.specs.Syntax.{Identifier, Expression, Parameters, no_parameter, named_and, unnamed_and, name_alone_and}
use Rattle.tree.specs.View.{expression_form, expression_syntax, identifier_syntax, parameter_and, parameters_syntax}
use Rattle.meaning.specs.WellFormed.{has_named_item}
use Rattle.tree_reader.specs.Reader.{form_identifier, as_identifier, is_no_item, name_alone, with_names}
use Rattle.tree_reader.specs.Reading.{only_where}
use Rattle.parser_base.proofs.Growing.{prepend}
use Rattle.parser_base.proofs.Nodes.{IsNoName}
use Rattle.parser_parts.proofs.ParameterLists.{all_parameters}

no_identifier : (span : Span) (k : ExprKind) → IsNoName k → form_identifier span (expression_form k) ≡ None
unfolding expression_form
no_identifier span (Name s) not = absurd (not s refl)
no_identifier span (FuncLit' p (Literal' ps_shape ps rs_shape rs brackets body)) not = refl
no_identifier span _ not = refl

-- a type without a name, which is one name or not
module _ (k : ExprKind) (span : Span) (t : Expression) (last : Bool) (more : Parameters) (ends : is_no_item more ≡ last) where
  pub name-last : (s : List ℕ) → k ≡ Name s → last ≡ true → None ≡ name_alone (form_identifier span (expression_form k)) t more
  unfolding expression_form
  name-last s is true_last = rw (is, ends, true_last) refl

  pub name-before : (s kept : List ℕ) (item : Parameters) → k ≡ Name s → last ≡ false → kept ≡ s → item ≡ name_alone_and (identifier_syntax record { text = kept; span = span }) more → Some item ≡ name_alone (form_identifier span (expression_form k)) t more
  unfolding expression_form
  name-before s kept item is no_last same made = rw (is, ends, no_last, made, same) refl

  pub no-name : (item : Parameters) → IsNoName k → item ≡ unnamed_and false t more → Some item ≡ name_alone (form_identifier span (expression_form k)) t more
  no-name item not made = rw (no_identifier span k not, made) refl

-- Names alone leave a list empty where it is empty.
some_same : (a b : Parameters) → ◌≡◌ {A = Option Parameters} (Some a) (Some b) → is_no_item b ≡ is_no_item a
some_same a b e = let same : a ≡ b = cc in ap is_no_item (sym same)

chained : (o : Option Parameters) (f : Parameters → Option Parameters) (more : Parameters) → ((m k : Parameters) → f m ≡ Some k → is_no_item k ≡ false) → option_and_then f o ≡ Some more → is_no_item more ≡ false
chained None f more h e = absurd cc
chained (Some m) f more h e = h m more e

only_some : (b : Bool) (n : Identifier) (m k : Parameters) → only_where b (Some (name_alone_and n m)) ≡ Some k → is_no_item k ≡ false
only_some true n m k e = some_same (name_alone_and n m) k e
only_some false n m k e = absurd cc

alone_some : (o : Option Identifier) (t : Expression) (m k : Parameters) → name_alone o t m ≡ Some k → is_no_item k ≡ false
alone_some None t m k e = some_same (unnamed_and false t m) k e
alone_some (Some n) t m k e = only_some (not (is_no_item m)) n m k e

keeps_items : (ps more : Parameters) → with_names ps ≡ Some more → is_no_item more ≡ is_no_item ps
keeps_items no_parameter more e = some_same no_parameter more e
keeps_items (named_and n ellipsis t ps) more e =
    chained (with_names ps) (λ m. Some (named_and n ellipsis t m)) more (λ m k h. some_same (named_and n ellipsis t m) k h) e
keeps_items (unnamed_and true t ps) more e =
    chained (with_names ps) (λ m. Some (unnamed_and true t m)) more (λ m k h. some_same (unnamed_and true t m) k h) e
keeps_items (unnamed_and false t ps) more e =
    chained (with_names ps) (λ m. name_alone (as_identifier t) t m) more (λ m k h. alone_some (as_identifier t) t m k h) e
keeps_items (name_alone_and n ps) more e = absurd cc

-- an item, before those that follow it
abbrev item_and : Option Param → Parameters → Option Parameters
item_and o more = option_map (λ (item : Param). parameter_and item more) o

nothing_follows : (o : Option Parameters) → option_and_then (λ (more : Parameters). item_and None more) o ≡ None
nothing_follows None = refl
nothing_follows (Some m) = refl

each_same : (o : Option Parameters) (f g : Parameters → Option Parameters) → ((m : Parameters) → o ≡ Some m → f m ≡ g m) → option_and_then f o ≡ option_and_then g o
each_same None f g h = refl
each_same (Some m) f g h = h m refl

module _ (param : Param) (after : Parameters) where
  pub named-stays : (p : Param) (n : KeptIdentifier) (ellipsis : Bool) (t : Expr) → param ≡ Named n ellipsis t → ((more : Parameters) → parameter_and p more ≡ named_and (identifier_syntax n) ellipsis (expression_syntax t) more) → option_and_then (λ (more : Parameters). item_and (Some p) more) (with_names after) ≡ with_names (parameter_and param after)
  unfolding parameter_and
  named-stays p n ellipsis t is made =
      rw is (each_same (with_names after) (λ more. item_and (Some p) more) (λ more. Some (named_and (identifier_syntax n) ellipsis (expression_syntax t) more)) (λ m h. ap (λ (ps : Parameters). Some ps) (made m)))

  pub several-stay : (p : Param) (ellipsis : Bool) (t : Expr) → param ≡ Unnamed ellipsis t → ellipsis ≡ true → ((more : Parameters) → parameter_and p more ≡ unnamed_and true (expression_syntax t) more) → option_and_then (λ (more : Parameters). item_and (Some p) more) (with_names after) ≡ with_names (parameter_and param after)
  unfolding parameter_and
  several-stay p ellipsis t is several made =
      rw (is, several) (each_same (with_names after) (λ more. item_and (Some p) more) (λ more. Some (unnamed_and true (expression_syntax t) more)) (λ m h. ap (λ (ps : Parameters). Some ps) (made m)))

  pub unnamed-settles : (o : Option Param) (ellipsis : Bool) (t : Expr) (last : Bool) → param ≡ Unnamed ellipsis t → ellipsis ≡ false → is_no_item after ≡ last → ((more : Parameters) → is_no_item more ≡ last → item_and o more ≡ name_alone (as_identifier (expression_syntax t)) (expression_syntax t) more) → option_and_then (λ (more : Parameters). item_and o more) (with_names after) ≡ with_names (parameter_and param after)
  unfolding parameter_and
  unnamed-settles o ellipsis t last is one ends settles =
      rw (is, one) (each_same (with_names after) (λ more. item_and o more) (λ more. name_alone (as_identifier (expression_syntax t)) (expression_syntax t) more) (λ m h. settles m (keeps_items after m h ∙ ends)))

  pub alone-fails : (n : KeptIdentifier) → param ≡ NameAlone n → option_and_then (λ (more : Parameters). item_and None more) (with_names after) ≡ with_names (parameter_and param after)
  unfolding parameter_and
  alone-fails n is = rw is (nothing_follows (with_names after))

-- all items, of which those before were settled
abbrev pub settled_before : List Param → Option Parameters → Option Parameters
settled_before items o = option_map (prepend parameter_and items) o

prepend_last : (items : List Param) (x : Param) (more : Parameters) → prepend parameter_and (items ++ x ∷ []) more ≡ prepend parameter_and items (parameter_and x more)
prepend_last [] x more = refl
prepend_last (p ∷ ps) x more = ap (parameter_and p) (prepend_last ps x more)

settled-more : (items : List Param) (x : Param) (o : Option Parameters) → settled_before (items ++ x ∷ []) o ≡ settled_before items (option_and_then (λ (more : Parameters). item_and (Some x) more) o)
settled-more items x None = refl
settled-more items x (Some m) = ap (λ (ps : Parameters). Some ps) (prepend_last items x m)

no_items : (ps : List Param) (n : ℕ) → n ≡ length ps → is_no_item (parameters_syntax ps) ≡ (n == 0)
unfolding parameter_and
no_items [] n e = rw e refl
no_items (Named' m ellipsis t span ∷ ps) n e = rw (e, eqb-suc-zero (length ps)) refl
no_items (Unnamed' ellipsis t span ∷ ps) n e = rw (e, eqb-suc-zero (length ps)) refl
no_items (NameAlone m ∷ ps) n e = rw (e, eqb-suc-zero (length ps)) refl

-- what is left stands in a list from the last item to the first
module _ (items left : List Param) (total : Option Parameters) (so_far : settled_before items (with_names (parameters_syntax (reverse left))) ≡ total) where
  pub settled-end : (n : ℕ) → n ≡ length left → n ≡ 0 → total ≡ Some (parameters_syntax items)
  settled-end n size empty =
      let none : left ≡ [] = nil_from_length left (sym size ∙ empty) in
      sym so_far ∙ (ap (λ (ps : List Param). settled_before items (with_names (parameters_syntax (reverse ps)))) none ∙ ap (λ (ps : Parameters). Some ps) (all_parameters items))

  -- one of them is taken
  module _ (front : List Param) (x : Param) (taken : left ≡ front ++ x ∷ []) (o : Option Param) (last : Bool) (n : ℕ) (size : n ≡ length front) (is_last : last ≡ (n == 0)) (named : (after : Parameters) → is_no_item after ≡ last → option_and_then (λ (more : Parameters). item_and o more) (with_names after) ≡ with_names (parameter_and x after)) where
    with_this : settled_before items (option_and_then (λ (more : Parameters). item_and o more) (with_names (parameters_syntax (reverse front)))) ≡ total
    with_this =
        ap (settled_before items) (named (parameters_syntax (reverse front)) (no_items (reverse front) n (size ∙ sym (length-reverse front)) ∙ sym is_last)) ∙ (ap (λ (ps : List Param). settled_before items (with_names (parameters_syntax ps))) (sym (reverse-append front (x ∷ []))) ∙ (ap (λ (ps : List Param). settled_before items (with_names (parameters_syntax (reverse ps)))) (sym taken) ∙ so_far))

    pub settled-fails : o ≡ None → total ≡ None
    settled-fails none =
        sym with_this ∙ (ap (λ (p : Option Param). settled_before items (option_and_then (λ (more : Parameters). item_and p more) (with_names (parameters_syntax (reverse front))))) none ∙ ap (settled_before items) (nothing_follows (with_names (parameters_syntax (reverse front)))))

    pub settled-goes-on : (item : Param) → o ≡ Some item → settled_before (items ++ item ∷ []) (with_names (parameters_syntax (reverse front))) ≡ total
    settled-goes-on item some =
        settled-more items item (with_names (parameters_syntax (reverse front))) ∙ (ap (λ (p : Option Param). settled_before items (option_and_then (λ (more : Parameters). item_and p more) (with_names (parameters_syntax (reverse front))))) (sym some) ∙ with_this)

-- in a round of looking for an item that has both name and type
item_names : (x : Param) (n : KeptIdentifier) (ellipsis : Bool) (t : Expr) (ps : Parameters) → x ≡ Named n ellipsis t → has_named_item (parameter_and x ps) ≡ true
unfolding parameter_and
item_names x n ellipsis t ps is = rw is refl

item_passes : (x : Param) (ps : Parameters) → ((n : KeptIdentifier) (ellipsis : Bool) (t : Expr) → x ≡ Named n ellipsis t → ⊥) → has_named_item (parameter_and x ps) ≡ has_named_item ps
unfolding parameter_and
item_passes (Named' n ellipsis t span) ps not =
    absurd (not n ellipsis record { kind = t; span = span } refl)
item_passes (Unnamed' ellipsis t span) ps not = refl
item_passes (NameAlone n) ps not = refl

module _ (items : List Param) (i : ℕ) (lt : i < length items) (x : Param) (is : x ≡ get_or items i x) where
  this_item : drop i items ≡ x ∷ drop (i + 1) items
  this_item = drop-cons items i x lt ∙ (rw add-one refl ∙ ap (λ (y : Param). y ∷ drop (i + 1) items) (sym is))

  pub item-found : (n : KeptIdentifier) (ellipsis : Bool) (t : Expr) (total : Bool) → x ≡ Named n ellipsis t → has_named_item (parameters_syntax (drop i items)) ≡ total → true ≡ total
  item-found n ellipsis t total names so_far =
      sym (item_names x n ellipsis t (parameters_syntax (drop (i + 1) items)) names) ∙ (ap (λ (ps : List Param). has_named_item (parameters_syntax ps)) (sym this_item) ∙ so_far)

  pub item-passed : (total : Bool) → ((n : KeptIdentifier) (ellipsis : Bool) (t : Expr) → x ≡ Named n ellipsis t → ⊥) → has_named_item (parameters_syntax (drop i items)) ≡ total → has_named_item (parameters_syntax (drop (i + 1) items)) ≡ total
  item-passed total not so_far =
      sym (item_passes x (parameters_syntax (drop (i + 1) items)) not) ∙ (ap (λ (ps : List Param). has_named_item (parameters_syntax ps)) (sym this_item) ∙ so_far)
