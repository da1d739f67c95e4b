-- What conditions find out, in the first edition nothing; and the rows that they stand behind.
use Rattle.std.proofs.Common.{◌≡◌, ℕ, Bool, true, false, List, [], ◌∷◌, ◌++◌, Option, None, Some, Result, OnOk, refl, sym, ap, ◌∙◌}
use Rattle.std.specs.Prelude.{◌-◌}
use Rattle.std.proofs.lemmas.List.{append-nil}
use Rattle.std.proofs.lemmas.Result.{on_ok_weaker}
use Rattle.tree.specs.declared.edition.Edition.TheVariants.{First, Second}
use Rattle.tree.specs.declared.operator.DeclKeyword.{DeclKeyword}
use Rattle.std.specs.declared.alloc.Global.{Global}
use Rattle.std.specs.declared.boxed.Box.{Box}
use Rattle.std.specs.declared.vec.Vec.{Vec}
use Rattle.tree.specs.declared.declaration.Decl.{Decl}
use Rattle.tree.specs.declared.declaration.Spec.{Spec, Value', Type'}
use Rattle.tree.specs.declared.declaration.Spec.TheBlock.{backs-StmtKind}
use Rattle.tree.specs.declared.expression.Expr.{Expr}
use Rattle.tree.specs.declared.span.Identifier.{Identifier as KeptIdentifier}
use Rattle.tree.specs.declared.statement.Block.{Block}
use Rattle.tree.specs.declared.statement.Stmt.{Stmt}
use Rattle.tree.specs.declared.statement.StmtKind.{StmtKind, Decl as DeclStatement, Decl', Assign, Assign', Define, Define', If, If'}
use Rattle.tree.specs.declared.span.Span.{Span}
use Rattle.tree.specs.Syntax.{Expression, Statement, statement_node, if_statement, missing_statement, present_statement, Statements, no_statement, statement_and, Specs, no_spec}
use Rattle.tree.specs.View.{spec_and, statement_form}
use Rattle.mentions.specs.declared.kept.Marks.{Marks}
use Rattle.mentions.specs.MarkViews.{marks_view, Adds}
use Rattle.marks.specs.declared.by_edition.Walk.{Walk}
use Rattle.marks.specs.WalkViews.{AddsBy}
use Rattle.marks.proofs.AddingBy.{by_nothing, by_both, kept_there}
use Rattle.meaning.specs.Mentions.{Mark, Row, NilTest, is_of_fields, nil_marks, error_where, error_marks, guard_marks, behind_row, row_in, last_row, marks_by}

pub no_nil : (some_keep : Bool) (site : ℕ) (ts : List NilTest) → marks_by First some_keep (nil_marks site ts) ≡ []
no_nil some_keep site [] = refl
no_nil some_keep site (t ∷ ts) = no_nil some_keep site ts

no_error : (some_keep : Bool) (site : ℕ) (row : Row) (ts : List NilTest)
    → marks_by First some_keep (error_marks site row ts) ≡ []
no_error some_keep site row [] = refl
no_error some_keep site row (t ∷ ts) = no_error some_keep site row ts

pub no_guard : (some_keep : Bool) (row : Option Row) (c : Expression) (braces : Span)
    → marks_by First some_keep (guard_marks row c braces) ≡ []
no_guard some_keep None c braces = refl
no_guard some_keep (Some row) c braces =
    let start = error_marks braces.start row (error_where true c) in
    let end = error_marks (braces.end - 1) row (error_where false c) in
    by_both First some_keep start end
    ∙ (λ i. no_error some_keep braces.start row (error_where true c) i
    ++ no_error some_keep (braces.end - 1) row (error_where false c) i)

-- a guard stands straight behind the row
pub first_behind : (row : Option Row) (s : Statement) (ss : Statements)
    → behind_row row (statement_and s no_statement) ≡ behind_row row (statement_and s ss)
first_behind row (statement_node (if_statement missing_statement semicolon c ts braces other) span) ss = refl
first_behind row (statement_node (if_statement (present_statement t) semicolon c ts braces other) span) ss = refl
first_behind row _ ss = refl

pub none_behind : (some_keep : Bool) (row : Option Row) (ss : Statements)
    → marks_by First some_keep (behind_row row ss) ≡ []
none_behind some_keep row (statement_and (statement_node (if_statement missing_statement semicolon c ts braces other) span) ss) =
    no_guard some_keep row c braces
none_behind some_keep row (statement_and (statement_node (if_statement (present_statement t) semicolon c ts braces other) span) ss) =
    refl
none_behind some_keep row _ = refl

-- In the second edition these are kept, also where no field keeps what it holds.

abbrev pub HasNoFields : List Mark → Type 0
HasNoFields ms = (some_keep : Bool) → marks_by Second some_keep ms ≡ ms

both_none : (xs ys : List Mark) → HasNoFields xs → HasNoFields ys → HasNoFields (xs ++ ys)
both_none xs ys first second some_keep =
    by_both Second some_keep xs ys ∙ (λ i. first some_keep i ++ second some_keep i)

one_kept : (m : Mark) → is_of_fields m ≡ false → (ms : List Mark) → HasNoFields ms → HasNoFields (m ∷ ms)
one_kept m e ms kept false = kept_there (is_of_fields m) e m ms _ (kept false)
one_kept m e ms kept true = refl

pub nil_kept : (site : ℕ) (ts : List NilTest) → HasNoFields (nil_marks site ts)
nil_kept site [] = by_nothing Second
nil_kept site (t ∷ ts) = one_kept _ refl _ (nil_kept site ts)

errors_kept : (site : ℕ) (row : Row) (ts : List NilTest) → HasNoFields (error_marks site row ts)
errors_kept site row [] = by_nothing Second
errors_kept site row (t ∷ ts) = one_kept _ refl _ (errors_kept site row ts)

pub guards_kept : (row : Option Row) (c : Expression) (braces : Span) → HasNoFields (guard_marks row c braces)
guards_kept None c braces = by_nothing Second
guards_kept (Some row) c braces =
    both_none _ _ (errors_kept braces.start row (error_where true c))
    (errors_kept (braces.end - 1) row (error_where false c))

pub behind_kept : (row : Option Row) (ss : Statements) → HasNoFields (behind_row row ss)
behind_kept row (statement_and (statement_node (if_statement missing_statement semicolon c ts braces other) span) ss) =
    guards_kept row c braces
behind_kept row (statement_and (statement_node (if_statement (present_statement t) semicolon c ts braces other) span) ss) =
    by_nothing Second
behind_kept row _ = by_nothing Second

-- nothing is added where the edition keeps nothing
pub none_added : (walk : Walk) (names : List Mark)
    → walk.told.edition ≡ First
    → marks_by First walk.told.some_keep names ≡ []
    → AddsBy walk walk names
none_added walk names is none = record {
  keeps = refl;
  adds = sym (ap (λ l. marks_view walk.marks.list.items ++ l) (ap (λ e. marks_by e walk.told.some_keep names) is ∙ none)
      ∙ append-nil (marks_view walk.marks.list.items));
}

-- in the second edition all is added
adds_in_second : (walk : Walk) (after : Marks) (names : List Mark)
    → walk.told.edition ≡ Second
    → HasNoFields names
    → Adds walk.marks.list.items after.list.items names
    → AddsBy walk (record { told = walk.told; marks = after }) names
adds_in_second walk after names is kept added = record {
  keeps = refl;
  adds = added ∙ ap (λ l. marks_view walk.marks.list.items ++ l)
      (sym (ap (λ e. marks_by e walk.told.some_keep names) is ∙ kept walk.told.some_keep));
}

pub all_added : {T E : Type 0} (result : Result T E) (walk : Walk) (after : Marks) (names : List Mark)
    → walk.told.edition ≡ Second
    → HasNoFields names
    → OnOk result (Adds walk.marks.list.items after.list.items names)
    → OnOk result (AddsBy walk (record { told = walk.told; marks = after }) names)
all_added result walk after names is kept = on_ok_weaker result (adds_in_second walk after names is kept)

-- other statements

pub other_if : (row : Option Row) (k : StmtKind) (span : Span) (ss : Statements)
    → ((init : Option (Box Stmt Global)) (semicolon : Bool) (c : Box Expr Global) (b : Block) (other : Option (Box Stmt Global))
    → k ≡ If init semicolon c b other → ⊥)
    → [] ≡ behind_row row (statement_and (statement_node (statement_form k) span) ss)
unfolding statement_form
other_if row (If' init semicolon p c c_span body other) span ss not =
    absurd (not _ _ _ _ _ (sym (backs-StmtKind (If' init semicolon p c c_span body other))))
other_if row _ span ss not = refl

pub other_row : (k : StmtKind) (span : Span) → ((d : Decl) → k ≡ DeclStatement d → ⊥)
    → ((ls rs : Vec Expr Global) → k ≡ Assign ls rs → ⊥)
    → ((ns : Vec KeptIdentifier Global) (rs : Vec Expr Global) → k ≡ Define ns rs → ⊥)
    → None ≡ row_in (statement_node (statement_form k) span)
unfolding statement_form
other_row (Decl' keyword shape specs brackets bytes) span declaration assign define =
    absurd (declaration _ (sym (backs-StmtKind (Decl' keyword shape specs brackets bytes))))
other_row (Assign' ls_shape ls rs_shape rs) span declaration assign define =
    absurd (assign _ _ (sym (backs-StmtKind (Assign' ls_shape ls rs_shape rs))))
other_row (Define' ns shape rs) span declaration assign define =
    absurd (define _ _ (sym (backs-StmtKind (Define' ns shape rs))))
other_row _ span declaration assign define = refl

-- the row of the last spec, spec by spec
pub last_more : (keyword : DeclKeyword) (at : ℕ) (before : Option Row) (s : Spec) (ss : Specs)
    → last_row keyword at before (spec_and s ss) ≡ last_row keyword at (last_row keyword at None (spec_and s no_spec)) ss
unfolding spec_and
last_more keyword at before (Value' ns t shape es span) ss = refl
last_more keyword at before (Type' n shape ps alias p t t_span span) ss = refl

pub row_next : (keyword : DeclKeyword) (at : ℕ) (before after whole : Option Row) (s : Spec) (all rest : Specs)
    → all ≡ spec_and s rest
    → after ≡ last_row keyword at None (spec_and s no_spec)
    → last_row keyword at before all ≡ whole
    → last_row keyword at after rest ≡ whole
row_next keyword at before after whole s all rest parts is so_far =
    ap (λ r. last_row keyword at r rest) is
    ∙ (sym (last_more keyword at before s rest) ∙ (sym (ap (last_row keyword at before) parts) ∙ so_far))
