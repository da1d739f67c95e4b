use Rattle.meaning.specs.Mentions.{imports_all}
use Rattle.marks.proofs.FieldsTold.{all_told, none_told, one_mark}
use Rattle.marks.proofs.by_fields.imports_all.Goals as goal

pub returns-then-tells_fields : goal.returns-then-tells_fields
returns-then-tells_fields c = all_told _ _ c.imports_all.new.marks _ c.if-tells_fields.ensures c.imports_all.ensures

pub returns-else-tells_fields : goal.returns-else-tells_fields
returns-else-tells_fields c = none_told _ _ c.if-tells_fields.ensures (one_mark c.args.site imports_all)
