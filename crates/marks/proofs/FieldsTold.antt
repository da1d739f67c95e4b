-- Marks of fields: each form adds no others, and where fields aren't told of, none.
use Rattle.std.proofs.Common.{◌≡◌, ℕ, Bool, true, false, true≢false, List, [], ◌∷◌, ◌++◌, Option, None, Some, Result, OnOk, refl, sym, ap, ◌∙◌}
use Rattle.std.proofs.lemmas.List.{append-nil}
use Rattle.std.proofs.lemmas.Result.{on_ok_weaker}
use Rattle.std.specs.Prelude.{if◌then◌else◌, is_some, codes}
use Rattle.std.specs.Str.{bytes_eq}
use Rattle.tree.specs.declared.edition.Edition.{Edition}
use Rattle.tree.specs.declared.edition.Edition.TheVariants.{First, Second}
use Rattle.tree.specs.declared.span.Span.{Span}
use Rattle.tree.specs.Syntax.{Identifier, Expression, expression_node, call_expression, selector_expression, Expressions, no_expression, expression_and, statement_node, send_statement, define_statement, OptionalStatement, present_statement}
use Rattle.mentions.specs.declared.kept.Marks.{Marks}
use Rattle.mentions.specs.MarkViews.{marks_view, Adds}
use Rattle.marks.specs.declared.by_edition.Walk.{Walk}
use Rattle.marks.specs.WalkViews.{AddsBy, tells_by, tells_fields}
use Rattle.marks.proofs.AddingBy.{by_nothing, by_both}
use Rattle.meaning.specs.Mentions.{Mark, Named, FieldLeft, Assigned, FieldMark, of_fields, Taker, no_taker, called_function, appending, method, some_taker, CallPlace, nowhere, as_statement, only_value, return_item, deferred, under_go, Standing, ordinary, first_of_for, communication, bare_within, as_bare, written, field_left, field_written, field_called, given_to, literal_given_to, receiver_given, all_given_to, appended, right_given, rights_given, renews, sent, renewed, communication_given, guard_renewed, marks_by}

-- nothing of them is kept where fields aren't told of
pub record AreOfFields (ms : List Mark) : Type 0 where
  pub leave : (e : Edition) (some_keep : Bool) → false ≡ tells_by e some_keep → marks_by e some_keep ms ≡ []

no_marks : AreOfFields []
no_marks = record { leave = λ e some_keep told. by_nothing e some_keep }

one_left : (site : ℕ) (m : FieldMark) (e : Edition) (some_keep : Bool)
    → false ≡ tells_by e some_keep
    → marks_by e some_keep (of_fields site m ∷ []) ≡ []
one_left site m First some_keep told = refl
one_left site m Second false told = refl
one_left site m Second true told = absurd (true≢false (sym told))

pub one_mark : (site : ℕ) (m : FieldMark) → AreOfFields (of_fields site m ∷ [])
one_mark site m = record { leave = one_left site m }

both : (xs ys : List Mark) → AreOfFields xs → AreOfFields ys → AreOfFields (xs ++ ys)
both xs ys first second = record {
  leave = λ e some_keep told.
      by_both e some_keep xs ys ∙ (λ i. first.leave e some_keep told i ++ second.leave e some_keep told i);
}

-- Form by form

pub given : (site : ℕ) (taker : Taker) (e : Expression) → AreOfFields (given_to site taker e)
given site no_taker e = no_marks
given site (called_function n) e = one_mark site _
given site (appending n) e = one_mark site _
given site (method m) e = one_mark site _
given site some_taker e = one_mark site _

pub literal_given : (site : ℕ) (taker : Taker) (at : ℕ) → AreOfFields (literal_given_to site taker at)
literal_given site no_taker at = no_marks
literal_given site (called_function n) at = one_mark site _
literal_given site (appending n) at = one_mark site _
literal_given site (method m) at = one_mark site _
literal_given site some_taker at = one_mark site _

pub called : (site : ℕ) (e : Expression) → AreOfFields (field_called site e)
called site (expression_node (selector_expression e f) span) = one_mark site _
called site _ = no_marks

is_written : (site : ℕ) (by : Option Assigned) (l : Option FieldLeft) → AreOfFields (written site by l)
is_written site by None = no_marks
is_written site by (Some l) = one_mark site _

pub gets_value : (site : ℕ) (by : Option Assigned) (e : Expression) → AreOfFields (field_written site by e)
gets_value site by e = is_written site by (field_left e)

saved_receiver : (site : ℕ) (e : Expression) → AreOfFields (receiver_given under_go site e)
saved_receiver site (expression_node (selector_expression e m) span) = one_mark site _
saved_receiver site _ = no_marks

deferred_receiver : (site : ℕ) (e : Expression) → AreOfFields (receiver_given deferred site e)
deferred_receiver site (expression_node (selector_expression e m) span) = one_mark site _
deferred_receiver site _ = no_marks

pub receiver_is_given : (place : CallPlace) (site : ℕ) (e : Expression) → AreOfFields (receiver_given place site e)
receiver_is_given nowhere site e = no_marks
receiver_is_given as_statement site e = no_marks
receiver_is_given (only_value row) site e = no_marks
receiver_is_given (return_item k) site e = no_marks
receiver_is_given deferred site e = deferred_receiver site e
receiver_is_given under_go site e = saved_receiver site e

all_given : (site : ℕ) (taker : Taker) (es : Expressions) → AreOfFields (all_given_to site taker es)
all_given site taker no_expression = no_marks
all_given site taker (expression_and e es) = both _ _ (given site taker e) (all_given site taker es)

appended_marks : (site : ℕ) (n : Option Named) (es : Expressions) → AreOfFields (appended site n es)
appended_marks site None es = no_marks
appended_marks site (Some n) es = by (bytes_eq n.name (codes "append"))
  where
    by : (b : Bool) → AreOfFields (if b then all_given_to site (appending n) es else [])
    by true = all_given site (appending n) es
    by false = no_marks

right : (site : ℕ) (is_only : Bool) (e : Expression) → AreOfFields (right_given site is_only e)
right site true (expression_node (call_expression f es ellipsis) span) = no_marks
right site false (expression_node (call_expression f es ellipsis) span) = appended_marks site (as_bare f) es
right site is_only _ = one_mark site _

pair : (site : ℕ) (is_only : Bool) (l r : Expression) (b : Bool)
    → AreOfFields (if b then [] else right_given site is_only r)
pair site is_only l r true = no_marks
pair site is_only l r false = right site is_only r

pub rights : (site : ℕ) (is_only : Bool) (ls rs : Expressions) → AreOfFields (rights_given site is_only ls rs)
rights site is_only (expression_and l ls) (expression_and r rs) =
    both _ _ (pair site is_only l r (is_some (bare_within l))) (rights site is_only ls rs)
rights site is_only no_expression rs = no_marks
rights site is_only (expression_and l ls) no_expression = no_marks

pub is_sent : (standing : Standing) (at : ℕ) (e : Expression) → AreOfFields (sent standing at e)
is_sent ordinary at e = given at some_taker e
is_sent first_of_for at e = given at some_taker e
is_sent communication at e = no_marks

all_renewed : (site : ℕ) (ns : List Identifier) → AreOfFields (renewed site ns)
all_renewed site [] = no_marks
all_renewed site (n ∷ ns) = both (of_fields site (renews n.span.start) ∷ []) (renewed site ns) (one_mark site _) (all_renewed site ns)

pub clause_gives : (clause : ℕ) (c : OptionalStatement) → AreOfFields (communication_given clause c)
clause_gives clause (present_statement (statement_node (send_statement c v) span)) = given clause some_taker v
clause_gives clause (present_statement (statement_node (define_statement ns rs) span)) = all_renewed clause ns
clause_gives clause _ = no_marks

pub guard_gives : (n : Option Identifier) (clause : Span) → AreOfFields (guard_renewed n clause)
guard_gives None clause = no_marks
guard_gives (Some n) clause = one_mark clause.start _

-- By what a walk marks

pub none_told : (walk : Walk) (names : List Mark)
    → false ≡ tells_fields walk.told
    → AreOfFields names
    → AddsBy walk walk names
none_told walk names told fields = record {
  keeps = refl;
  adds = sym (ap (λ l. marks_view walk.marks.list.items ++ l) (fields.leave walk.told.edition walk.told.some_keep told)
      ∙ append-nil (marks_view walk.marks.list.items));
}

told_all : (e : Edition) (some_keep : Bool) → true ≡ tells_by e some_keep → (ms : List Mark) → marks_by e some_keep ms ≡ ms
told_all First some_keep told ms = absurd (true≢false told)
told_all Second false told ms = absurd (true≢false told)
told_all Second true told ms = refl

adds_told : (walk : Walk) (after : Marks) (names : List Mark)
    → true ≡ tells_fields walk.told
    → Adds walk.marks.list.items after.list.items names
    → AddsBy walk (record { told = walk.told; marks = after }) names
adds_told walk after names told added = record {
  keeps = refl;
  adds = added
      ∙ ap (λ l. marks_view walk.marks.list.items ++ l) (sym (told_all walk.told.edition walk.told.some_keep told names));
}

pub all_told : {T E : Type 0} (result : Result T E) (walk : Walk) (after : Marks) (names : List Mark)
    → true ≡ tells_fields walk.told
    → OnOk result (Adds walk.marks.list.items after.list.items names)
    → OnOk result (AddsBy walk (record { told = walk.told; marks = after }) names)
all_told result walk after names told = on_ok_weaker result (adds_told walk after names told)
