-- Operators between two operands.
use Rattle.std.proofs.Common.{◌≡◌, ℕ, suc, ◌+◌, ◌-◌, ◌<◌, ◌≤◌, Bool, true, false, Option, Some, None, refl, sym, ◌∙◌}
use Rattle.std.specs.Prelude.{nat_le, if◌then◌else◌, option_and_then}
use Rattle.tree.specs.declared.operator.BinaryOperator.{BinaryOperator}
use Rattle.tree.specs.Syntax.{Expression, binary_expression}
use Rattle.tree.specs.Depth.{expression_depth}
use Rattle.meaning.specs.Cursor.{Cursor, GoText}
use Rattle.meaning.specs.WellFormed.{operator_level}
use Rattle.tree_reader.specs.Reader.{Readers, of_next, binary_operator, read_operator, read_operators}
use Rattle.tree_reader.specs.Reading.{Read, behind, spanned}
use Rattle.parser_base.specs.declared.fault.Stop.{Stop}
use Rattle.parser_base.specs.Gives.{Stops}
use Rattle.parser_base.specs.Parts.{at_least, next_operator}
use Rattle.parser_base.proofs.Faults.{fails_too}
use Rattle.parser_expressions.proofs.GrownExpressions.{grown-runs-out, grown-ends, grown-too-deep, grown-fails, grown-goes-on}

-- what an operator and its right operand are read as
abbrev pub binary_read : Readers → Bool → Cursor → BinaryOperator → Expression → Cursor → Read Expression
binary_read r header from op e place =
    option_and_then (λ (right : Expression × Cursor). Some (spanned from (binary_expression op e right.0) right.1)) (r.read_expression header (suc (operator_level op)) (behind place))

kept_by : {A : Type 0} (b : Bool) (x : A) (op : BinaryOperator) → (if b then Some op else None) ≡ None → (if b then Some x else None) ≡ None
kept_by true x op h = absurd cc
kept_by false x op h = refl

module _ (text : GoText) (r : Readers) (below : ℕ) (header : Bool) (least : ℕ) (from : Cursor) where
  ends_of : (e : Expression) (place : Cursor) (o : Option BinaryOperator) → at_least least o ≡ None → read_operator text r below header least from e place o ≡ None
  ends_of e place None h = refl
  ends_of e place (Some op) h = kept_by (nat_le least (operator_level op)) (binary_read r header from op e place) op h

  goes_by : (e : Expression) (place : Cursor) (found op : BinaryOperator) (b : Bool) → (if b then Some found else None) ≡ Some op → (if b then Some (binary_read r header from found e place) else None) ≡ Some (binary_read r header from op e place)
  goes_by e place found op true h =
      let same : found ≡ op = cc in
      rw same refl
  goes_by e place found op false h = absurd cc

  goes_of : (e : Expression) (place : Cursor) (op : BinaryOperator) (o : Option BinaryOperator) → at_least least o ≡ Some op → read_operator text r below header least from e place o ≡ Some (binary_read r header from op e place)
  goes_of e place op None h = absurd cc
  goes_of e place op (Some found) h = goes_by e place found op (nat_le least (operator_level found)) h

  module _ (count i : ℕ) (e : Expression) (rest : Cursor) (total : Read Expression) (so_far : read_operators text r below header least from (count - i) e rest ≡ total) where
    pub operators-run-out : count ≤ i → total ≡ None
    unfolding read_operators
    operators-run-out le =
        grown-runs-out text r below (read_operators text r below header least from) count i e rest total so_far refl le

    module _ (lt : i < count) where
      abbrev step : Option (Read Expression)
      step = read_operator text r below header least from e rest (of_next binary_operator rest)

      pub operators-end : None ≡ next_operator least rest → total ≡ Some (e, rest)
      unfolding read_operators
      operators-end h =
          grown-ends text r below (read_operators text r below header least from) count i e rest total so_far lt step (λ n. refl) (ends_of e rest (of_next binary_operator rest) (sym h))

      module _ (op : BinaryOperator) (goes : Some op ≡ next_operator least rest) where
        grows : step ≡ Some (binary_read r header from op e rest)
        grows = goes_of e rest op (of_next binary_operator rest) (sym goes)

        pub operators-too-deep : (fits : Bool) → fits ≡ nat_le (expression_depth e) below → fits ≡ false → total ≡ None
        unfolding read_operators
        operators-too-deep fits fits-same deep =
            grown-too-deep text r below (read_operators text r below header least from) count i e rest total so_far lt step (λ n. refl) (binary_read r header from op e rest) grows (sym fits-same ∙ deep)

        module _ (fits : Bool) (fits-same : fits ≡ nat_le (expression_depth e) below) (shallow : fits ≡ true) where
          pub operators-fail : (stop : Stop) → Stops stop (binary_read r header from op e rest) → Stops stop total
          unfolding read_operators
          operators-fail stop h =
              fails_too stop (binary_read r header from op e rest) total h (λ none. grown-fails text r below (read_operators text r below header least from) count i e rest total so_far lt step (λ n. refl) (binary_read r header from op e rest) grows (sym fits-same ∙ shallow) none)

          pub operators-more : (x : Expression) (end : Cursor) → binary_read r header from op e rest ≡ Some (x, end) → read_operators text r below header least from (count - (i + 1)) x end ≡ total
          unfolding read_operators
          operators-more x end read =
              grown-goes-on text r below (read_operators text r below header least from) count i e rest total so_far lt step (λ n. refl) (binary_read r header from op e rest) grows (sym fits-same ∙ shallow) x end read
