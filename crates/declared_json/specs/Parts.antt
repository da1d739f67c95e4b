-- What serves the proofs: faults.
use Rattle.json_reading.specs.declared.stop.Stop.{Stop}
use Rattle.json_reading.specs.declared.stop.Stop.TheVariants as stop
use Rattle.table_json.specs.declared.fault.TableFault.{TableFault}
use Rattle.table_json.specs.declared.fault.TableFault.TheVariants as table
use Rattle.declared_json.specs.declared.fault.DeclaredFault.{DeclaredFault}
use Rattle.declared_json.specs.declared.fault.DeclaredFault.TheVariants.{NotJson, WrongVersion, WrongShape, OutOfMemory}

-- the same fault, of declared facts
abbrev pub fault_of : TableFault → DeclaredFault
fault_of table.NotJson = NotJson
fault_of table.WrongVersion = WrongVersion
fault_of table.WrongShape = WrongShape
fault_of table.OutOfMemory = OutOfMemory

abbrev pub fault_of_stop : Stop → DeclaredFault
fault_of_stop stop.NotJson = NotJson
fault_of_stop stop.OutOfMemory = OutOfMemory
