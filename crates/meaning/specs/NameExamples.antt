-- Small functions to try the rules for names on: type parameters hide what stands around their functions, a receiver's
-- type declares some, and its own name stands outside. Each function stands in a comment above its tree.
-- (The Go specification, "Declarations and scope", "Method declarations".)
use Rattle.std.specs.Prelude.{ℕ, ◌+◌, ◌≡◌, false, List, [], ◌∷◌, None, Some, length, codes}
use Rattle.tree.specs.declared.operator.DeclKeyword.TheVariants.{«Type» as type_keyword}
use Rattle.tree.specs.declared.span.Span.{Span}
use Rattle.tree.specs.Syntax.{Identifier, Expression, expression_node, name_expression, index_expression, star_expression, signature_of, Parameters, no_parameter, named_and, statement_node, expression_statement, Statements, no_statement, statement_and, Function, function_declaration, SourceFile}
use Rattle.meaning.specs.Declarations.{Meaning, local_name, import_name, universe_name, declaration_of_use}

abbrev pub bytes_to : ℕ → ℕ → Span
bytes_to start end = record { start = start; end = end }

abbrev pub named : List ℕ → ℕ → Identifier
named text at = record { text = text; span = bytes_to at (at + length text) }

abbrev pub used : List ℕ → ℕ → Expression
used text at = expression_node (name_expression text) (bytes_to at (at + length text))

abbrev pub only_uses : List ℕ → ℕ → Statements
only_uses text at =
    statement_and (statement_node (expression_statement (used text at)) (bytes_to at (at + length text))) no_statement

-- `func f[context any](p context) { context }`, or without the brackets behind its name
abbrev pub function_with : Parameters → Function
function_with ps = record {
  receiver = None;
  name = named (codes "f") 5;
  type_parameters = ps;
  signature =
      signature_of (named_and (named (codes "p") 20) false (used (codes "context") 22) no_parameter) no_parameter
      false;
  body = Some record { statements = only_uses (codes "context") 33; braces = bytes_to 31 42 };
  span = bytes_to 0 42;
}

abbrev pub one_parameter : Parameters
one_parameter = named_and (named (codes "context") 7) false (used (codes "any") 15) no_parameter

-- `func (t *P[P]) f() { P }`
abbrev pub method_of : Function
method_of = record {
  receiver =
      Some (named_and (named (codes "t") 6) false
      (expression_node (star_expression
      (expression_node (index_expression (used (codes "P") 9) (used (codes "P") 11)) (bytes_to 9 13)))
      (bytes_to 8 13)) no_parameter);
  name = named (codes "f") 15;
  type_parameters = no_parameter;
  signature = signature_of no_parameter no_parameter false;
  body = Some record { statements = only_uses (codes "P") 21; braces = bytes_to 19 24 };
  span = bytes_to 0 24;
}

-- a file that imports `context` and has the function
abbrev pub file_of : Function → SourceFile
file_of f = record {
  package_name = named (codes "a") 100;
  imports =
      record {
        specs =
            record { name = None; path = codes "context"; path_span = bytes_to 110 119; span = bytes_to 110 119 } ∷ [];
        is_grouped = false;
        span = bytes_to 103 119;
      }
      ∷ [];
  declarations = function_declaration f ∷ [];
  span = bytes_to 0 119;
}

-- the use at that offset of the file means this
abbrev pub Means : Function → ℕ → Meaning → Type 0
Means f at meaning = declaration_of_use (file_of f ∷ []) (λ path. None) 0 at ≡ Some meaning

pub record TypeParametersHide : Type 0 where
  pub in_signature : Means (function_with one_parameter) 22 (local_name 7 type_keyword)
  pub in_body : Means (function_with one_parameter) 33 (local_name 7 type_keyword)
  pub without : Means (function_with no_parameter) 33 (import_name (codes "context"))
  pub of_receiver : Means method_of 21 (local_name 11 type_keyword)
  pub base_is_outside : Means method_of 9 universe_name
  pub is_no_use : declaration_of_use (file_of method_of ∷ []) (λ path. None) 0 11 ≡ None
