-- The lines on which something is said, one after the other.
use Rattle.std.proofs.Common.{◌≡◌, ◌∙◌, ◌+◌, ◌-◌, ◌<◌, ◌≤◌, ℕ, suc, List, [], ◌∷◌, Option, None, Some, Contains, refl, sym, ap, arith}
use Rattle.std.specs.Option.{option_or}
use Rattle.std.specs.List.{range_with_len}
use Rattle.accepting.specs.ByLines.{Lines, first_reason, lines_between, reason_for}
use Rattle.report.specs.declared.codes.DiagnosticCode.{DiagnosticCode}

lines_next : (n last : ℕ) → n < last → lines_between n last ≡ n ∷ lines_between (n + 1) last
lines_next n last before =
    let more : last - n + 1 ≡ suc (last - (n + 1) + 1) = omega arith in
    ap (range_with_len n) more

lines_end : (n last : ℕ) → last ≤ n → lines_between n last ≡ n ∷ []
lines_end n last past =
    let one : last - n + 1 ≡ 1 = omega arith in
    ap (range_with_len n) one

reason_last : (o : Option (List ℕ)) → option_or o None ≡ o
reason_last None = refl
reason_last (Some x) = refl

module _ (lines : Lines) (file : ℕ) (code : DiagnosticCode) where
  -- a line gives a reason, and so it is the first
  pub line_gives : (n last : ℕ) (reason : List ℕ) → n < last → Some reason ≡ reason_for lines file n code
      → Some reason ≡ first_reason lines file code (lines_between n last)
  line_gives n last reason before is =
      ap (λ (o : Option (List ℕ)). option_or o (first_reason lines file code (lines_between (n + 1) last))) is
      ∙ sym (ap (first_reason lines file code) (lines_next n last before))

  -- it gives none
  pub line_gives_none : (n last : ℕ) → n < last → None ≡ reason_for lines file n code
      → first_reason lines file code (lines_between (n + 1) last)
      ≡ first_reason lines file code (lines_between n last)
  line_gives_none n last before is =
      ap (λ (o : Option (List ℕ)). option_or o (first_reason lines file code (lines_between (n + 1) last))) is
      ∙ sym (ap (first_reason lines file code) (lines_next n last before))

  -- it is the last one
  pub line_is_last : (n last : ℕ) → last ≤ n
      → reason_for lines file n code ≡ first_reason lines file code (lines_between n last)
  line_is_last n last past =
      sym (reason_last (reason_for lines file n code))
      ∙ sym (ap (first_reason lines file code) (lines_end n last past))

  -- a reason that is found is that of one of the lines
  pub given_in : (ns : List ℕ) (reason : List ℕ) → first_reason lines file code ns ≡ Some reason
      → (n : ℕ) × Contains ns n × (reason_for lines file n code ≡ Some reason)
  given_in [] reason e = absurd cc
  given_in (n ∷ ns) reason e = on (given_in ns reason) (reason_for lines file n code) refl e
    where
      on : (first_reason lines file code ns ≡ Some reason
          → (m : ℕ) × Contains ns m × (reason_for lines file m code ≡ Some reason))
          → (o : Option (List ℕ))
          → reason_for lines file n code ≡ o
          → option_or o (first_reason lines file code ns) ≡ Some reason
          → (m : ℕ) × Contains (n ∷ ns) m × (reason_for lines file m code ≡ Some reason)
      on behind (Some found) is same = (n, (0, omega arith, refl), is ∙ same)
      on behind None is same =
          let later = behind same in
          (later.0, (suc later.1.0, omega (arith, later.1.1), later.1.2), later.2)

-- where no line has a directive, none gives a reason
pub none_gives : (file : ℕ) (code : DiagnosticCode) (ns : List ℕ)
    → first_reason (λ file n. None) file code ns ≡ None
none_gives file code [] = refl
none_gives file code (n ∷ ns) = none_gives file code ns
