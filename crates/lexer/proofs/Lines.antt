-- A column is no further than the offset.
use Rattle.std.proofs.Common.{ℕ, ◌+◌, ◌≤◌, not, List, take, reverse, arith}
use Rattle.std.proofs.lemmas.List.{length-take, length-reverse}
use Rattle.std.proofs.lemmas.List.Sums.{prefix_len-le-length}
use Rattle.lexer.specs.Place.{is_newline, column_of}

pub column_of-le : (text : List ℕ) (i : ℕ) → column_of text i ≤ i + 1
column_of-le text i = omega (arith, prefix_len-le-length (λ b. not (is_newline b)) (reverse (take i text)), length-reverse (take i text), length-take i text)
