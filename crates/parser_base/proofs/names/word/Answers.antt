use Rattle.std.proofs.Common.{ap}
use Rattle.meaning.specs.Cursor.{Cursor}
use Rattle.parser_base.proofs.Words.{name-utf8}
use Rattle.parser_base.proofs.names.word.Goals as goal

pub text_between-requires : goal.text_between-requires
text_between-requires c =
    rw (c.start-start.ensures, ap (λ (p : Cursor). p.end) c.behind-end.ensures) (name-utf8 _ _ c.args.place.at c.args.place.end c.args.source.words c.args.source.edition c.requires)
