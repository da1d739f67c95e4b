-- Steps of the walk that adds marks.
use Rattle.std.proofs.Common.{false, true, Bool, ◌⊎◌, inl, inr, ◌≢◌, ◌-◌, ◌≡◌, ℕ, ◌+◌, ◌<◌, ◌≤◌, List, [], ◌∷◌, ◌++◌, drop, length, map, Option, Some, None, Result, OnOk, refl, sym, ap, ◌∙◌, arith}
use Rattle.std.proofs.lemmas.Bool.Decides.{eqb_tells}
use Rattle.std.proofs.lemmas.List.{length-drop}
use Rattle.std.proofs.Math.Dec.{eqb}
use Rattle.std.specs.declared.alloc.Global.{Global}
use Rattle.std.specs.declared.boxed.Box.{Box}
use Rattle.tree.specs.declared.expression.Expr.{Expr}
use Rattle.tree.specs.declared.expression.ExprKind.{ExprKind, Unary, Unary', FuncLit', roll-ExprKind, roll-out-ExprKind}
use Rattle.tree.specs.declared.expression.ExprKind.TheVariants.{rolls-Unary, outs-Unary'}
use Rattle.tree.specs.declared.expression.Literal.{Literal'}
use Rattle.tree.specs.declared.operator.DeclKeyword.{DeclKeyword}
use Rattle.tree.specs.declared.operator.UnaryOperator.{UnaryOperator}
use Rattle.tree.specs.declared.span.Identifier.{Identifier as KeptIdentifier}
use Rattle.tree.specs.declared.span.Span.{Span}
use Rattle.tree.specs.Syntax.{Expression, expression_node, Expressions, expression_and, OptionalExpression, Statement, Statements, statement_and}
use Rattle.tree.specs.View.{identifier_syntax, expression_form, expression_syntax, expressions_syntax}
use Rattle.tree.proofs.Views.{expression_form-Unary}
use Rattle.marks.specs.declared.by_edition.Walk.{Walk}
use Rattle.marks.specs.WalkViews.{AddsBy, FindsNothing}
use Rattle.marks.proofs.AddingBy.{adds_same, same_adds, then_adds, adds_then, three_adds, four_adds, alone_adds}
use Rattle.mentions.proofs.Adding.{two_joined}
use Rattle.meaning.specs.Mentions.{Mark, Named, Spot, Role, Call, Row, Assigned, Standing, ordinary, part_of, nowhere, declares, assigns, defines, returns, argument, addressed, as_bare, as_named, left, whole, return_item, row_of, value_spot, left_names, is_one, is_none_left, arguments_place, argument_spot, argument_taker, argument_at, argument_or, given_to, field_written, field_called, receiver_given, rights_given, named_or, callee_or, callee_spot, expression_marks, expressions_marks, arguments_marks, items_marks, lefts_marks, ranged_marks, names_type_marks, statement_marks, statements_marks, exposed_or, behind_row, row_in, CallPlace, as_statement, only_value, deferred, under_go, name_role}

pub at_spot : {T E : Type 0} (result : Result T E) (a b : Walk) (s t : Spot) (e : Expression)
    → s ≡ t
    → OnOk result (AddsBy a b (expression_marks s e))
    → OnOk result (AddsBy a b (expression_marks t e))
at_spot result a b s t e same = same_adds result a b (expression_marks s e) (expression_marks t e) (ap (λ x. expression_marks x e) same)

pub all_at_spot : {T E : Type 0} (result : Result T E) (a b : Walk) (s t : Spot) (es : Expressions)
    → s ≡ t
    → OnOk result (AddsBy a b (expressions_marks s es))
    → OnOk result (AddsBy a b (expressions_marks t es))
all_at_spot result a b s t es same =
    same_adds result a b (expressions_marks s es) (expressions_marks t es) (ap (λ x. expressions_marks x es) same)

pub adds_at_spot : (a b : Walk) (s t : Spot) (es : Expressions)
    → s ≡ t
    → AddsBy a b (expressions_marks s es)
    → AddsBy a b (expressions_marks t es)
adds_at_spot a b s t es same = adds_same a b (expressions_marks s es) (expressions_marks t es) (ap (λ x. expressions_marks x es) same)

pub named_at_spot : {T E : Type 0} (result : Result T E) (a b : Walk) (n : Option Named) (role : Role) (s t : Spot) (e : Expression)
    → s ≡ t
    → OnOk result (AddsBy a b (named_or n s.site role (expression_marks s e)))
    → OnOk result (AddsBy a b (named_or n t.site role (expression_marks t e)))
named_at_spot result a b n role s t e same =
    same_adds result a b (named_or n s.site role (expression_marks s e)) (named_or n t.site role (expression_marks t e))
    (ap (λ x. named_or n x.site role (expression_marks x e)) same)

-- what is named, and where nothing is, other marks
pub named_adds : {T E : Type 0} (result : Result T E) (a b : Walk) (n m : Option Named) (site : ℕ) (role : Role) (xs ys : List Mark)
    → n ≡ m
    → xs ≡ ys
    → OnOk result (AddsBy a b (named_or n site role xs))
    → OnOk result (AddsBy a b (named_or m site role ys))
named_adds result a b n m site role xs ys same equal =
    same_adds result a b (named_or n site role xs) (named_or m site role ys) (λ i. named_or (same i) site role (equal i))

-- a call: the receiver of its method, its arguments, and its callee, which is mentioned or stands at the spot
pub call_adds : {T E : Type 0} (result : Result T E) (a b c d f : Walk) (spot kept : Spot) (place : CallPlace) (call made : Option Call) (e : Expression) (es : Expressions)
    → call ≡ made
    → kept ≡ callee_spot spot
    → place ≡ arguments_place spot.place e
    → AddsBy a b (receiver_given spot.place spot.site e)
    → AddsBy b c (arguments_marks place call spot.site 0 es)
    → AddsBy c d (callee_or call kept.site e (expression_marks kept e))
    → OnOk result (AddsBy d f (field_called spot.site e))
    → OnOk result (AddsBy a f (receiver_given spot.place spot.site e
    ++ (arguments_marks (arguments_place spot.place e) made spot.site 0 es
    ++ (callee_or made spot.site e (expression_marks (callee_spot spot) e) ++ field_called spot.site e))))
call_adds result a b c d f spot kept place call made e es same equal there first second third =
    four_adds result a b c d f (receiver_given spot.place spot.site e)
    (arguments_marks (arguments_place spot.place e) made spot.site 0 es)
    (callee_or made spot.site e (expression_marks (callee_spot spot) e)) (field_called spot.site e) first
    (adds_same b c (arguments_marks place call spot.site 0 es)
    (arguments_marks (arguments_place spot.place e) made spot.site 0 es)
    (λ i. arguments_marks (there i) (same i) spot.site 0 es) second)
    (adds_same c d (callee_or call kept.site e (expression_marks kept e))
    (callee_or made spot.site e (expression_marks (callee_spot spot) e))
    (λ i. callee_or (same i) (equal i).site e (expression_marks (equal i) e)) third)

-- A row as the code keeps it, whose lists it reads as slices.

pub assigned_row : (standing : Standing) (at : ℕ) (ls ns vs xs : List Expr)
    → ls ≡ ns
    → vs ≡ xs
    → row_of standing at (assigns (expressions_syntax ls)) (expressions_syntax vs)
    ≡ row_of standing at (assigns (expressions_syntax ns)) (expressions_syntax xs)
assigned_row standing at ls ns vs xs l v = λ i. row_of standing at (assigns (expressions_syntax (l i))) (expressions_syntax (v i))

pub defined_row : (standing : Standing) (at : ℕ) (ls ns : List KeptIdentifier) (vs xs : List Expr)
    → ls ≡ ns
    → vs ≡ xs
    → row_of standing at (defines (map identifier_syntax ls)) (expressions_syntax vs)
    ≡ row_of standing at (defines (map identifier_syntax ns)) (expressions_syntax xs)
defined_row standing at ls ns vs xs l v = λ i. row_of standing at (defines (map identifier_syntax (l i))) (expressions_syntax (v i))

abbrev pub declared_row : DeclKeyword → ℕ → OptionalExpression → List KeptIdentifier → List Expr → Row
declared_row keyword at t ns vs = row_of ordinary at (declares keyword (map identifier_syntax ns) t) (expressions_syntax vs)

pub declared_same : (keyword : DeclKeyword) (at : ℕ) (t : OptionalExpression) (ls ns : List KeptIdentifier) (vs xs : List Expr)
    → ls ≡ ns
    → vs ≡ xs
    → declared_row keyword at t ls vs ≡ declared_row keyword at t ns xs
declared_same keyword at t ls ns vs xs l v = λ i. declared_row keyword at t (l i) (v i)

-- values, what they give to others, and the left sides that they are assigned to
pub assignment_adds : {T E : Type 0} (result : Result T E) (a b c d : Walk) (at : ℕ) (spot : Spot) (kept row : Row) (ls ms ns vs ws xs : List Expr)
    → kept ≡ row
    → ws ≡ xs
    → ls ≡ ns
    → vs ≡ xs
    → ms ≡ ns
    → spot ≡ value_spot kept at
    → AddsBy a b (expressions_marks spot (expressions_syntax ws))
    → AddsBy b c (rights_given at (is_one (expressions_syntax vs)) (expressions_syntax ls) (expressions_syntax vs))
    → OnOk result (AddsBy c d (lefts_marks kept at 0 (expressions_syntax ms)))
    → OnOk result (AddsBy a d (expressions_marks (value_spot row at) (expressions_syntax xs)
    ++ (rights_given at (is_one (expressions_syntax xs)) (expressions_syntax ns) (expressions_syntax xs)
    ++ lefts_marks row at 0 (expressions_syntax ns))))
assignment_adds result a b c d at spot kept row ls ms ns vs ws xs r w l v m s first second third =
    three_adds result a b c d (expressions_marks (value_spot row at) (expressions_syntax xs))
    (rights_given at (is_one (expressions_syntax xs)) (expressions_syntax ns) (expressions_syntax xs))
    (lefts_marks row at 0 (expressions_syntax ns))
    (adds_same a b (expressions_marks spot (expressions_syntax ws)) (expressions_marks (value_spot row at) (expressions_syntax xs))
    (ap (λ t. expressions_marks t (expressions_syntax ws)) s
    ∙ (λ i. expressions_marks (value_spot (r i) at) (expressions_syntax (w i)))) first)
    (adds_same b c (rights_given at (is_one (expressions_syntax vs)) (expressions_syntax ls) (expressions_syntax vs))
    (rights_given at (is_one (expressions_syntax xs)) (expressions_syntax ns) (expressions_syntax xs))
    (λ i. rights_given at (is_one (expressions_syntax (v i))) (expressions_syntax (l i)) (expressions_syntax (v i))) second)
    (same_adds result c d (lefts_marks kept at 0 (expressions_syntax ms)) (lefts_marks row at 0 (expressions_syntax ns))
    (λ i. lefts_marks (r i) at 0 (expressions_syntax (m i))) third)

-- values, and the names that are defined by them
pub definition_adds : {T E : Type 0} (result : Result T E) (a b c : Walk) (at : ℕ) (spot : Spot) (kept row : Row) (ms ns : List KeptIdentifier) (ws xs : List Expr)
    → kept ≡ row
    → ws ≡ xs
    → ms ≡ ns
    → spot ≡ value_spot kept at
    → AddsBy a b (expressions_marks spot (expressions_syntax ws))
    → OnOk result (AddsBy b c (left_names kept at 0 (map identifier_syntax ms)))
    → OnOk result (AddsBy a c (expressions_marks (value_spot row at) (expressions_syntax xs) ++ left_names row at 0 (map identifier_syntax ns)))
definition_adds result a b c at spot kept row ms ns ws xs r w m s first second =
    same_adds result a c (expressions_marks spot (expressions_syntax ws) ++ left_names kept at 0 (map identifier_syntax ms))
    (expressions_marks (value_spot row at) (expressions_syntax xs) ++ left_names row at 0 (map identifier_syntax ns))
    (ap (λ t. expressions_marks t (expressions_syntax ws) ++ left_names kept at 0 (map identifier_syntax ms)) s
    ∙ (λ i. expressions_marks (value_spot (r i) at) (expressions_syntax (w i)) ++ left_names (r i) at 0 (map identifier_syntax (m i))))
    (then_adds result a b c (expressions_marks spot (expressions_syntax ws)) (left_names kept at 0 (map identifier_syntax ms)) first second)

-- the type, the values and the names of a spec
pub spec_adds : {T E : Type 0} (result : Result T E) (a b c d : Walk) (site : ℕ) (t : OptionalExpression) (spot : Spot) (kept row : Row) (ms ns : List KeptIdentifier) (ws xs : List Expr)
    → kept ≡ row
    → ws ≡ xs
    → ms ≡ ns
    → spot ≡ value_spot kept site
    → AddsBy a b (names_type_marks kept site t)
    → AddsBy b c (expressions_marks spot (expressions_syntax ws))
    → OnOk result (AddsBy c d (left_names kept site 0 (map identifier_syntax ms)))
    → OnOk result (AddsBy a d (names_type_marks row site t
    ++ (expressions_marks (value_spot row site) (expressions_syntax xs) ++ (left_names row site 0 (map identifier_syntax ns) ++ []))))
spec_adds result a b c d site t spot kept row ms ns ws xs r w m s first second third =
    three_adds result a b c d (names_type_marks row site t) (expressions_marks (value_spot row site) (expressions_syntax xs))
    (left_names row site 0 (map identifier_syntax ns) ++ [])
    (adds_same a b (names_type_marks kept site t) (names_type_marks row site t) (λ i. names_type_marks (r i) site t) first)
    (adds_same b c (expressions_marks spot (expressions_syntax ws)) (expressions_marks (value_spot row site) (expressions_syntax xs))
    (ap (λ p. expressions_marks p (expressions_syntax ws)) s ∙ (λ i. expressions_marks (value_spot (r i) site) (expressions_syntax (w i)))) second)
    (alone_adds result c d (left_names row site 0 (map identifier_syntax ns))
    (same_adds result c d (left_names kept site 0 (map identifier_syntax ms)) (left_names row site 0 (map identifier_syntax ns))
    (λ i. left_names (r i) site 0 (map identifier_syntax (m i))) third))

-- the items of a return, and the return itself
pub return_adds : (a b c : Walk) (at : ℕ) (ds es fs : List Expr)
    → ds ≡ fs
    → es ≡ fs
    → AddsBy a b (items_marks at 0 (expressions_syntax ds))
    → AddsBy b c (returns at (expressions_syntax es) ∷ [])
    → AddsBy a c (items_marks at 0 (expressions_syntax fs) ++ returns at (expressions_syntax fs) ∷ [])
return_adds a b c at ds es fs d e first second =
    adds_same a c (items_marks at 0 (expressions_syntax ds) ++ returns at (expressions_syntax es) ∷ [])
    (items_marks at 0 (expressions_syntax fs) ++ returns at (expressions_syntax fs) ∷ [])
    (λ i. items_marks at 0 (expressions_syntax (d i)) ++ returns at (expressions_syntax (e i)) ∷ [])
    (adds_then a b c (items_marks at 0 (expressions_syntax ds)) (returns at (expressions_syntax es) ∷ []) first second)

-- an argument with no operator
pub no_operator : (k : ExprKind) (span : Span) (call : Call) (site index : ℕ) (xs : List Mark)
    → ((op : UnaryOperator) (e : Box Expr Global) → k ≡ Unary op e → ⊥)
    → named_or (as_named (expression_node (expression_form k) span)) site (argument index false call) xs
    ≡ argument_or call site index (expression_node (expression_form k) span) xs
unfolding expression_form
no_operator (Unary' op p e e_span) span call site index xs other =
    absurd (other _ _ (sym (roll-out-ExprKind (Unary' op p e e_span)) ∙ (ap roll-ExprKind (outs-Unary' op p e e_span) ∙ rolls-Unary op _)))
no_operator (FuncLit' p (Literal' ps_shape ps rs_shape rs brackets body)) span call site index xs other = refl
no_operator _ span call site index xs other = refl

-- an argument with an operator
pub operator_argument : (k : ExprKind) (op : UnaryOperator) (e : Box Expr Global) (span : Span) (call : Call) (site index : ℕ) (n : Option Named) (xs : List Mark)
    → k ≡ Unary op e
    → n ≡ addressed op (expression_syntax e.value)
    → named_or n site (argument index true call) xs ≡ argument_or call site index (expression_node (expression_form k) span) xs
operator_argument k op e span call site index n xs is same =
    (λ i. named_or (same i) site (argument index true call) xs)
    ∙ sym (ap (λ f. argument_or call site index (expression_node f span) xs) (ap expression_form is ∙ expression_form-Unary op e))

-- what stands at a place as a whole is no condition's
pub place_finds : (place : CallPlace) → FindsNothing (name_role place)
place_finds nowhere site n = refl
place_finds as_statement site n = refl
place_finds (only_value row) site n = refl
place_finds (return_item k) site n = refl
place_finds deferred site n = refl
place_finds under_go site n = refl

-- The first of a list, and the rest.

pub argument_first : (place : CallPlace) (call : Option Call) (site k : ℕ) (is_last : Bool) (e : Expression) (es : Expressions)
    → is_last ≡ is_none_left es
    → arguments_marks place call site k (expression_and e es)
    ≡ (argument_at call site k is_last e (expression_marks (argument_spot place call site) e)
    ++ given_to site (argument_taker place call) e)
    ++ arguments_marks place call site (k + 1) es
unfolding arguments_marks
argument_first place call site k is_last e es last =
    (λ i. argument_at call site k (sym last i) e (expression_marks (argument_spot place call site) e)
    ++ (given_to site (argument_taker place call) e ++ arguments_marks place call site (k + 1) es))
    ∙ two_joined (argument_at call site k is_last e (expression_marks (argument_spot place call site) e))
    (given_to site (argument_taker place call) e) (arguments_marks place call site (k + 1) es)

abbrev pub assigned_at : ℕ → Row → Assigned
assigned_at k row = record { left_side = k; row = row }

pub item_first : (site k : ℕ) (e : Expression) (es : Expressions)
    → items_marks site k (expression_and e es) ≡ expression_marks (whole (return_item k) site) e ++ items_marks site (k + 1) es
unfolding items_marks
item_first site k e es = refl

pub left_first : (row : Row) (site k : ℕ) (e : Expression) (es : Expressions)
    → lefts_marks row site k (expression_and e es)
    ≡ (named_or (as_bare e) site (left k row) (exposed_or site e (expression_marks (part_of site) e))
    ++ field_written site (Some (assigned_at k row)) e)
    ++ lefts_marks row site (k + 1) es
unfolding lefts_marks
left_first row site k e es =
    two_joined (named_or (as_bare e) site (left k row) (exposed_or site e (expression_marks (part_of site) e)))
    (field_written site (Some (assigned_at k row)) e) (lefts_marks row site (k + 1) es)

pub ranged_first : (site : ℕ) (e : Expression) (es : Expressions)
    → ranged_marks site (expression_and e es)
    ≡ (exposed_or site e (expression_marks (part_of site) e) ++ field_written site None e) ++ ranged_marks site es
unfolding ranged_marks
ranged_first site e es =
    two_joined (exposed_or site e (expression_marks (part_of site) e)) (field_written site None e) (ranged_marks site es)

pub statement_first : (s : Statement) (ss : Statements)
    → statements_marks (statement_and s ss) ≡ (statement_marks ordinary s ++ behind_row (row_in s) ss) ++ statements_marks ss
unfolding statements_marks
statement_first s ss = two_joined (statement_marks ordinary s) (behind_row (row_in s) ss) (statements_marks ss)

-- an `if`: its first statement, its condition, its block between its braces, and what stands behind `else`
pub branch_adds : {T E : Type 0} (result : Result T E) (a b c d e f g h : Walk) (xs ys us ns zs ls ws : List Mark)
    → AddsBy a b xs
    → AddsBy b c ys
    → AddsBy c d us
    → AddsBy d e ns
    → AddsBy e f zs
    → AddsBy f g ls
    → OnOk result (AddsBy g h ws)
    → OnOk result (AddsBy a h (xs ++ (ys ++ (us ++ ((ns ++ (zs ++ ls)) ++ ws)))))
branch_adds result a b c d e f g h xs ys us ns zs ls ws first second third fourth fifth sixth last =
    four_adds result a b c d h xs ys us ((ns ++ (zs ++ ls)) ++ ws) first second third
    (then_adds result d g h (ns ++ (zs ++ ls)) ws
    (adds_then d e g ns (zs ++ ls) fourth (adds_then e f g zs ls fifth sixth)) last)

-- whether none is left behind an item
left_behind : (ys : List Expr) (m n : ℕ) → length ys ≡ n - m → m ≤ n → ((eqb m n ≡ true) × (m ≡ n)) ⊎ ((eqb m n ≡ false) × (m ≢ n)) → eqb m n ≡ is_none_left (expressions_syntax ys)
left_behind [] m n count h (inl both) = both.0
left_behind [] m n count h (inr both) = absurd (both.1 (omega (arith, count, h)))
left_behind (y ∷ ys) m n count h (inl both) = absurd (omega (arith, count, both.1))
left_behind (y ∷ ys) m n count h (inr both) = both.0

pub none_left : (xs : List Expr) (i : ℕ) → i < length xs → eqb (i + 1) (length xs) ≡ is_none_left (expressions_syntax (drop (i + 1) xs))
none_left xs i h =
    left_behind (drop (i + 1) xs) (i + 1) (length xs) (length-drop (i + 1) xs) (omega (arith, h)) (eqb_tells (i + 1) (length xs))
