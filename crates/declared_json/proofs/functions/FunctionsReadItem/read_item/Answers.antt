use Rattle.std.proofs.Common.{refl}
use Rattle.json_reading.specs.Standing.{value_at}
use Rattle.json_reading.proofs.ItemsMade.{none_yet}
use Rattle.declared_json.proofs.FunctionsRead.{declared_read, none_declared}
use Rattle.declared_json.proofs.functions.FunctionsReadItem.read_item.Goals as goal

pub read_made-requires : goal.read_made-requires
read_made-requires c = (refl, refl, none_yet _ _ _ _ _ refl (refl, c.new.ensures.members))

pub returns-in-Some-clause-ok : goal.returns-in-Some-clause-ok
returns-in-Some-clause-ok c =
    declared_read c.new.result.version c.new.ensures.version (value_at c.args.depth c.args.reader.now)
    c.read_made.new.reader c.in_ok-results.field-0 c.in-Some.results c.in-Some.facts c.declared_with.result
    c.in_ok-results.ensures.ok c.in-Some.is c.declared_with.ensures

pub returns-in-None-clause-ok : goal.returns-in-None-clause-ok
returns-in-None-clause-ok c =
    none_declared c.new.result.version c.new.ensures.version (value_at c.args.depth c.args.reader.now)
    c.read_made.new.reader c.in_ok-results.field-0 c.in_ok-results.ensures.ok c.in-None.is
