-- What the returns of a function bear out.
use Rattle.std.proofs.Common.{◌≡◌, ℕ, ◌∙◌, Bool, true, false, if◌then◌else◌, List, [], length, Some, refl, sym, ap}
use Rattle.std.specs.List.{filter}
use Rattle.tree.specs.Syntax.{Block, Expression}
use Rattle.meaning.specs.Mentions.{statements_marks}
use Rattle.meaning.specs.FunctionFacts.{Meanings, Item, Unless, cancel_results, error_results, own_returns, gives_unless, pairs, unless_by}
use Rattle.signatures.specs.Returned.{are_unnamed}

module _ (means : Meanings) (is : List Item) (b : Block) where
  abbrev pub possible : List Unless
  possible = pairs (cancel_results means 0 is) (error_results means 0 is)

  abbrev pub borne_out : List Unless → List Unless
  borne_out us = filter (gives_unless means (length is) (own_returns 0 (statements_marks b.statements))) us

  pub none_unnamed : are_unnamed is ≡ false → [] ≡ unless_by means is (Some b)
  none_unnamed e = sym (ap (λ t. if t then borne_out possible else []) e)

  pub none_possible : possible ≡ [] → [] ≡ unless_by means is (Some b)
  none_possible none = by (are_unnamed is)
    where
      by : (t : Bool) → [] ≡ (if t then borne_out possible else [])
      by true = sym (ap borne_out none)
      by false = refl

  pub all_borne : are_unnamed is ≡ true → borne_out possible ≡ unless_by means is (Some b)
  all_borne e = sym (ap (λ t. if t then borne_out possible else []) e)

  -- of what the program keeps
  pub kept_so : (count : ℕ) (rs : List (List Expression)) (us : List Unless) → are_unnamed is ≡ true
      → count ≡ length is
      → rs ≡ own_returns 0 (statements_marks b.statements)
      → us ≡ possible
      → filter (gives_unless means count rs) us ≡ unless_by means is (Some b)
  kept_so count rs us e many same are = (λ i. filter (gives_unless means (many i) (same i)) (are i)) ∙ all_borne e
