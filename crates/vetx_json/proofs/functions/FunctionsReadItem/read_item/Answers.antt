use Rattle.std.proofs.Common.{refl}
use Rattle.json_reading.proofs.ItemsMade.{item_read, no_item_read, none_yet}
use Rattle.vetx_json.proofs.FunctionsRead.{function_read, no_function}
use Rattle.vetx_json.proofs.functions.FunctionsReadItem.read_item.Goals as goal

pub read_made-requires : goal.read_made-requires
read_made-requires c =
    (refl, refl, none_yet _ _ _ _ _ refl (refl, refl, none_yet _ _ _ _ _ refl (refl, c.new.ensures.members)))

pub returns-in-Some-clause-ok : goal.returns-in-Some-clause-ok
returns-in-Some-clause-ok c =
    let read = item_read _ _ _ _ c.in_ok-found.field-0 c.in_ok-found.ensures.ok _ c.in-Some.is in
    record {
      value = read.0;
      stands = read.1;
      judged =
          function_read c.new.result.version c.new.ensures.version read.0 c.in-Some.found.0 c.in-Some.found.1.0
          c.in-Some.found.1.1 read.2;
    }

pub returns-in-None-clause-ok : goal.returns-in-None-clause-ok
returns-in-None-clause-ok c =
    let none = no_item_read _ _ _ _ c.in_ok-found.field-0 c.in_ok-found.ensures.ok c.in-None.is in
    record {
      value = none.0;
      stands = none.1;
      judged = no_function c.new.result.version c.new.ensures.version none.0 none.2;
    }
