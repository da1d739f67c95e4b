use Rattle.std.proofs.Common.{sym, subst}
use Rattle.serde_json.specs.Data.{object}
use Rattle.json_reading.specs.Standing.{Judges, Refutes}
use Rattle.table_json.specs.declared.table.Version.TheVariants.{Older, Newer}
use Rattle.table_json.specs.TableValues.{IsFunctionValue, IsOlderFunctionValue}
use Rattle.table_json.proofs.FunctionsRead.{function_made, newer_judged, older_judged}
use Rattle.table_json.proofs.functions.FunctionMembersMakeItem.make.Goals as goal

pub returns-in-Older : goal.returns-in-Older
returns-in-Older c = λ begun ms h.
    function_made begun.version c.args.self.version Older ms c.older_with.result c.in-Older.is h.0
    (subst (Judges IsOlderFunctionValue (Refutes IsOlderFunctionValue) (object ms)) (sym c.older_with.ensures)
    (older_judged ms _ _ _ _ _ _ h.1))

pub returns-in-Newer : goal.returns-in-Newer
returns-in-Newer c = λ begun ms h.
    function_made begun.version c.args.self.version Newer ms c.newer_with.result c.in-Newer.is h.0
    (subst (Judges IsFunctionValue (Refutes IsFunctionValue) (object ms)) (sym c.newer_with.ensures)
    (newer_judged ms _ _ _ _ _ _ h.1))
