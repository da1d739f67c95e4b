use Rattle.std.proofs.Common.{[], map, subst, sym}
use Rattle.std.specs.List.{AllZip}
use Rattle.std.proofs.lemmas.List.{append-nil}
use Rattle.std.proofs.Math.ListN.{drop_of_length-le}
use Rattle.table_json.specs.Tables.{entry_of}
use Rattle.table_json.specs.WrittenTables.{IsWrittenAs}
use Rattle.table_json.proofs.written.functions_written.Goals as goal

pub returns : goal.returns
returns c =
    subst (λ ws. AllZip IsWrittenAs (map (λ f. entry_of f.now) c.args.functions.now) ws)
    (append-nil (map entry_of c.loop-function.written.items))
    (c.loop-function.invariant []
    (subst (λ fs. AllZip IsWrittenAs (map (λ f. entry_of f.now) fs) [])
    (sym (drop_of_length-le c.args.functions.now c.loop-function-test.false)) tt))
