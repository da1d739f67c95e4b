use Rattle.parser_base.proofs.Faults.{is_stopped}
use Rattle.parser_base.specs.Places.{cursor, parts_of, go_text}
use Rattle.parser_parts.proofs.IndexedNames.{no_index, name_fails, index_splits}
use Rattle.parser_parts.proofs.instances.name_and_length.Goals as goal

pub returns-in-Index : goal.returns-in-Index
returns-in-Index c =
    index_splits (go_text c.args.source) (parts_of c.args.source) (cursor c.args.source c.args.from) c.requires.name
    _ _ _ _ _ c.in-Index.is c.requires.read _ _ c.in-Ok.ensures

pub returns-in_default : goal.returns-in_default
returns-in_default c =
    is_stopped c.no_length_or_types.result _ (no_index c.args.read.kind c.args.read.span c.in_default.not-Index)

pub returns-in-Err : goal.returns-in-Err
returns-in-Err c =
    name_fails (go_text c.args.source) (parts_of c.args.source) (cursor c.args.source c.args.from) c.requires.name _ _
    c.in-Err.ensures
