use Rattle.std.proofs.Common.{sym, ap, ◌∙◌, refl}
use Rattle.std.specs.Char.{is_ascii_lowercase}
use Rattle.lexer.proofs.KeywordTable.{letter_number, letter_rows, table_size, begin_within, end_within, found_in_table, none_by_letter}
use Rattle.lexer.proofs.keywords.word_kind.Goals as goal
use Rattle.lexer.proofs.keywords.word_kind.Goals.{After-keywords}

pub returns-then-not-is_ascii_lowercase : goal.returns-then-not-is_ascii_lowercase
returns-then-not-is_ascii_lowercase c =
    let other = ap is_ascii_lowercase (sym c.byte_at-first.ensures) ∙ (sym c.is_ascii_lowercase.ensures.value ∙ c.if-not-is_ascii_lowercase.true) in
    sym (none_by_letter c.args.word.now other)

pub split_at-requires : goal.split_at-requires
split_at-requires c =
    let lower = sym c.is_ascii_lowercase.ensures.value ∙ c.if-not-is_ascii_lowercase.false in
    let rows = letter_rows _ (letter_number c.byte_at-first.result lower).0 in
    begin_within _ _ _ rows.0 rows.1 (table_size c.keywords.result.now c.keywords.ensures)

pub overflow_sub-letter-2 : goal.overflow_sub-letter-2
overflow_sub-letter-2 c =
    let lower = sym c.is_ascii_lowercase.ensures.value ∙ c.if-not-is_ascii_lowercase.false in
    (letter_rows _ (letter_number c.byte_at-first.result lower).0).0

pub split_at-requires-2 : goal.split_at-requires-2
split_at-requires-2 c =
    let lower = sym c.is_ascii_lowercase.ensures.value ∙ c.if-not-is_ascii_lowercase.false in
    let rows = letter_rows _ (letter_number c.byte_at-first.result lower).0 in
    end_within _ _ c.keywords.result.now c.split_at.result.1.now rows.0 rows.1 (table_size c.keywords.result.now c.keywords.ensures) c.split_at.ensures.back

pub returns : goal.returns
returns c =
    let lower = sym c.is_ascii_lowercase.ensures.value ∙ c.if-not-is_ascii_lowercase.false in
    c.kind_in.ensures
    ∙ found_in_table c.args.word.now c.byte_at-first.result c.keywords.result.now c.split_at.result.1.now c.split_at-2.result.0.now _ _ c.byte_at-first.ensures lower refl refl c.keywords.ensures c.split_at.ensures.back c.split_at-2.ensures.front
