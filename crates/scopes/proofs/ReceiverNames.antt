-- What a receiver's type declares, and which of its names are uses.
use Rattle.std.proofs.Common.{◌≡◌, ℕ, true, true≢false, List, [], ◌∷◌, ◌++◌, ◌+◌, ◌<◌, drop, get_or, length, map, Option, None, Some, Result, OnOk, refl, sym, ap, ◌∙◌}
use Rattle.std.specs.Prelude.{◌==◌}
use Rattle.std.specs.List.{filter}
use Rattle.std.proofs.Math.Dec.{eqb-suc-zero}
use Rattle.std.proofs.lemmas.List.{append_assoc, append-nil, map-append}
use Rattle.std.proofs.lemmas.List.Elements.{filter-append}
use Rattle.std.proofs.lemmas.Result.{on_ok_weaker}
use Rattle.std.specs.declared.alloc.Global.{Global}
use Rattle.std.specs.declared.boxed.Box.{Box}
use Rattle.std.specs.declared.vec.Vec.{Vec}
use Rattle.tree.specs.declared.expression.Expr.{Expr}
use Rattle.tree.specs.declared.expression.ExprKind.{ExprKind, Name, Paren, Paren', Index, Index', Instance, Instance', Star, Star', FuncLit', roll-ExprKind, roll-out-ExprKind}
use Rattle.tree.specs.declared.expression.ExprKind.TheVariants.{rolls-Instance, outs-Instance'}
use Rattle.tree.specs.declared.expression.Literal.{Literal'}
use Rattle.tree.specs.declared.expression.Param.{Param, Named' as NamedParam', Unnamed', NameAlone}
use Rattle.tree.specs.declared.span.Span.{Span}
use Rattle.tree.specs.Syntax.{Identifier, Expression, expression_node, ExpressionForm, name_expression, Expressions, no_expression, expression_and, Parameters, no_parameter}
use Rattle.tree.specs.View.{expression_form, parameter_and}
use Rattle.scopes.specs.declared.naming.BareName.{BareName as KeptBare}
use Rattle.tree.proofs.Depths.{drop_item}
use Rattle.scopes.specs.declared.naming.Naming.{Naming as KeptNaming}
use Rattle.scopes.specs.Views.{bare_view, naming_view, namings_view, AddsBare, names_but}
use Rattle.scopes.proofs.Adding.{declared_more}
use Rattle.meaning.specs.Scopes.{Naming, uses_name, declares_name, bare_names, named_in_type, named_in_types, named_in_receiver, type_parameters_declared, is_none_of, receiver_names}

abbrev pub identifier_at : Span → List ℕ → Identifier
identifier_at span text = record { text = text; span = span }

-- What is added at the end of bare names.

pub bare_same : (before : List KeptBare) (names : List Identifier) → [] ≡ names → AddsBare before before names
bare_same before names none = sym (append-nil (map bare_view before)) ∙ ap (λ l. map bare_view before ++ l) none

pub bare_pushed : (before after : List KeptBare) (n : KeptBare) (names : List Identifier) → bare_view n ∷ [] ≡ names → after ≡ before ++ n ∷ [] → AddsBare before after names
bare_pushed before after n names same pushed =
    ap (map bare_view) pushed ∙ map-append bare_view before (n ∷ []) ∙ ap (λ l. map bare_view before ++ l) same

pub bare_alone : {T E : Type 0} (result : Result T E) (before after : List KeptBare) (names : List Identifier)
    → OnOk result (AddsBare before after names)
    → OnOk result (AddsBare before after (names ++ []))
bare_alone result before after names =
    on_ok_weaker result (λ added. added ∙ ap (λ l. map bare_view before ++ l) (sym (append-nil names)))

-- a loop keeps that what was added with what the rest adds is the whole
pub bare_next : (now next : List KeptBare) (all names rest whole : List Identifier)
    → map bare_view now ++ all ≡ whole
    → all ≡ names ++ rest
    → AddsBare now next names
    → map bare_view next ++ rest ≡ whole
bare_next now next all names rest whole kept parts added =
    ap (λ l. l ++ rest) added ∙ append_assoc (map bare_view now) names rest ∙ ap (λ l. map bare_view now ++ l) (sym parts) ∙ kept

-- Bare names among expressions.

bare_form : (form : ExpressionForm) (span : Span) (es : Expressions)
    → bare_names (expression_and (expression_node form span) es)
    ≡ bare_names (expression_and (expression_node form span) no_expression) ++ bare_names es
bare_form (name_expression text) span es = refl
bare_form _ span es = refl

pub bare_more : (e : Expression) (es : Expressions)
    → bare_names (expression_and e es) ≡ bare_names (expression_and e no_expression) ++ bare_names es
bare_more (expression_node form span) es = bare_form form span es

pub bare_other : (k : ExprKind) (span : Span) → ((text : List ℕ) → k ≡ Name text → ⊥)
    → [] ≡ bare_names (expression_and (expression_node (expression_form k) span) no_expression)
unfolding expression_form
bare_other (Name text) span not = absurd (not text refl)
bare_other (FuncLit' p (Literal' ps_shape ps rs_shape rs brackets body)) span not = refl
bare_other _ span not = refl

-- a type without brackets behind its name
pub named_other : (k : ExprKind) (span : Span)
    → ((e : Box Expr Global) → k ≡ Paren e → ⊥)
    → ((e : Box Expr Global) → k ≡ Star e → ⊥)
    → ((e i : Box Expr Global) → k ≡ Index e i → ⊥)
    → ((e : Box Expr Global) (es : Vec Expr Global) → k ≡ Instance e es → ⊥)
    → [] ≡ named_in_type (expression_node (expression_form k) span)
unfolding expression_form
named_other (Paren' p e e_span) span paren star index instance =
    absurd (paren record { ptr = p.ptr; alloc = p.alloc; value = record { kind = e; span = e_span } } refl)
named_other (Star' p e e_span) span paren star index instance =
    absurd (star record { ptr = p.ptr; alloc = p.alloc; value = record { kind = e; span = e_span } } refl)
named_other (Index' p e e_span q i i_span) span paren star index instance =
    absurd (index record { ptr = p.ptr; alloc = p.alloc; value = record { kind = e; span = e_span } } record { ptr = q.ptr; alloc = q.alloc; value = record { kind = i; span = i_span } } refl)
named_other (Instance' p e e_span shape es) span paren star index instance =
    absurd (instance _ _ (sym (roll-out-ExprKind (Instance' p e e_span shape es)) ∙ (ap roll-ExprKind (outs-Instance' p e e_span shape es) ∙ rolls-Instance _ _)))
named_other (FuncLit' p (Literal' ps_shape ps rs_shape rs brackets body)) span paren star index instance = refl
named_other _ span paren star index instance = refl

pub types_more : (p : Param) (ps : Parameters) → named_in_types (parameter_and p ps) ≡ named_in_types (parameter_and p no_parameter) ++ named_in_types ps
unfolding parameter_and
types_more (NamedParam' n ellipsis t span) ps =
    sym (append_assoc (named_in_type (expression_node (expression_form t) span)) [] (named_in_types ps))
types_more (Unnamed' ellipsis t span) ps =
    sym (append_assoc (named_in_type (expression_node (expression_form t) span)) [] (named_in_types ps))
types_more (NameAlone n) ps = refl

-- The names that are uses.

pub receiver_but : (r : Option Parameters) → names_but (named_in_receiver r) r ≡ receiver_names r
receiver_but None = refl
receiver_but (Some ps) = refl

none_left_out : (xs : List Naming) → xs ≡ filter (is_none_of []) xs
none_left_out [] = refl
none_left_out (uses_name name at ∷ xs) = ap (λ l. uses_name name at ∷ l) (none_left_out xs)
none_left_out (declares_name l ∷ xs) = ap (λ rest. declares_name l ∷ rest) (none_left_out xs)

pub all_used : (named : List KeptBare) (xs : List Naming) → true ≡ (length named == 0) → xs ≡ filter (is_none_of (map bare_view named)) xs
all_used [] xs none = none_left_out xs
all_used (n ∷ named) xs none = absurd (true≢false (none ∙ eqb-suc-zero (length named)))

-- Items of lists, by their places.

pub declared_item : (block : Span) (names : List KeptBare) (i : ℕ) (n : KeptBare) → i < length names → n ≡ get_or names i n
    → type_parameters_declared block (map bare_view (drop i names))
    ≡ type_parameters_declared block (bare_view n ∷ []) ++ type_parameters_declared block (map bare_view (drop (i + 1) names))
declared_item block names i n h e =
    ap (λ l. type_parameters_declared block (map bare_view l)) (drop_item names i n h e)
    ∙ declared_more block (bare_view n) (map bare_view (drop (i + 1) names))

pub others_item : (ns : List Identifier) (all : List KeptNaming) (i : ℕ) (x : KeptNaming) → i < length all → x ≡ get_or all i x
    → filter (is_none_of ns) (namings_view (drop i all))
    ≡ filter (is_none_of ns) (naming_view x ∷ []) ++ filter (is_none_of ns) (namings_view (drop (i + 1) all))
others_item ns all i x h e =
    ap (λ l. filter (is_none_of ns) (namings_view l)) (drop_item all i x h e)
    ∙ filter-append (is_none_of ns) (naming_view x ∷ []) (namings_view (drop (i + 1) all))
