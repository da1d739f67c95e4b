-- What gives no marks: parts that are missing, lists without elements, and specs behind the last one.
use Rattle.std.proofs.Common.{◌≡◌, ℕ, List, [], ◌++◌, Option, refl, ap, ◌∙◌, append_assoc}
use Rattle.tree.specs.declared.operator.DeclKeyword.{DeclKeyword}
use Rattle.tree.specs.Syntax.{no_expression, OptionalExpression, missing_expression, present_expression, OptionalStatement, missing_statement, present_statement, Specs, no_spec, value_and, type_and}
use Rattle.meaning.specs.Mentions.{Standing, CallPlace, Call, Mark, Spot, expressions_marks, optional_marks, arguments_marks, items_marks, ranged_marks, optional_statement_marks, specs_marks, outer_specs_marks}
use Rattle.meaning.specs.Grammar.{IsLast}

pub missing_gives_none : (site : ℕ) (e : OptionalExpression) → e ≡ missing_expression → optional_marks site e ≡ []
unfolding optional_marks
missing_gives_none site missing_expression q = refl
missing_gives_none site (present_expression e) q = let bad : present_expression e ≡ missing_expression = q in cc

pub missing_statement_gives_none : (standing : Standing) (s : OptionalStatement) → s ≡ missing_statement
    → optional_statement_marks standing s ≡ []
unfolding optional_statement_marks
missing_statement_gives_none standing missing_statement q = refl
missing_statement_gives_none standing (present_statement s) q =
    let bad : present_statement s ≡ missing_statement = q in cc

pub no_expressions : (spot : Spot) → expressions_marks spot no_expression ≡ []
unfolding expressions_marks
no_expressions spot = refl

pub no_arguments : (place : CallPlace) (c : Option Call) (site k : ℕ) → arguments_marks place c site k no_expression ≡ []
unfolding arguments_marks
no_arguments place c site k = refl

pub no_items : (site k : ℕ) → items_marks site k no_expression ≡ []
unfolding items_marks
no_items site k = refl

pub no_ranged : (site : ℕ) → ranged_marks site no_expression ≡ []
unfolding ranged_marks
no_ranged site = refl

pub three_and_one : (a b c d : List Mark) → (a ++ (b ++ c)) ++ d ≡ a ++ (b ++ (c ++ d))
three_and_one a b c d = append_assoc a (b ++ c) d ∙ ap (λ (l : List Mark). a ++ l) (append_assoc b c d)

pub no_specs_left : (keyword : DeclKeyword) (at : ℕ) (specs : Specs) → IsLast specs → specs_marks keyword at specs ≡ []
unfolding specs_marks
no_specs_left keyword at no_spec h = refl
no_specs_left keyword at (value_and names t es span specs) h = absurd h
no_specs_left keyword at (type_and name ps is_alias t span specs) h = absurd h

pub no_outer_specs : (specs : Specs) → IsLast specs → outer_specs_marks specs ≡ []
no_outer_specs no_spec h = refl
no_outer_specs (value_and names t es span specs) h = absurd h
no_outer_specs (type_and name ps is_alias t span specs) h = absurd h
