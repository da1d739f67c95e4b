-- Tokens spell one file at most: a reader that may go as deep as two files gives each that the tokens spell, and it
-- gives one. So a text has one tree at most, since its tokens are one list.
use Rattle.std.proofs.Common.{◌≡◌, max, List, subst, sym, ap, ◌∙◌, arith}
use Rattle.std.specs.Prelude.{Some}
use Rattle.std.proofs.lemmas.Option.{same_Some}
use Rattle.lexer.specs.declared.token.Token.{Token}
use Rattle.lexer.proofs.Whole.{one_token_list}
use Rattle.tree.specs.Depth.{file_depth}
use Rattle.meaning.specs.Cursor.{GoText, Cursor}
use Rattle.meaning.specs.Grammar.{SpellsFile}
use Rattle.meaning.specs.TreeOfText.{first_place}
use Rattle.tree_reader.specs.Reading.{Read}
use Rattle.tree_reader.specs.Claims.{OneTreeOfAnyDepth, OneTree}
use Rattle.tree_reader.proofs.CompleteFile.{read_file_within-complete}

-- what was read twice is the same tree
pub same_read : {A : Type 0} {read : Read A} (a b : A) (to last : Cursor) → read ≡ Some (a, to) → read ≡ Some (b, last) → a ≡ b
same_read {A} a b to last first second =
    let one : A × Cursor = (a, to) in
    let other : A × Cursor = (b, last) in
    ap (λ x. x.0) (same_Some one other (sym first ∙ second))

pub one_tree_of_any_depth : OneTreeOfAnyDepth
one_tree_of_any_depth text from to last f g s none t no_more =
    let deeper = max (file_depth f) (file_depth g) in
    same_read f g to last
    (read_file_within-complete text deeper from to f s none (omega arith))
    (read_file_within-complete text deeper from last g t no_more (omega arith))

pub one_tree : OneTree
one_tree edition bytes f g t u =
    let same = one_token_list bytes t.tokens u.tokens t.cut u.cut in
    let text : GoText = record { edition = edition; bytes = bytes } in
    let Spells : List Token → Type 0 = λ tokens. SpellsFile text f (first_place tokens) t.last in
    one_tree_of_any_depth text (first_place u.tokens) t.last u.last f g
    (subst Spells same t.spelled) t.none_left u.spelled u.none_left
