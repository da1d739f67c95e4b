use Rattle.std.proofs.Common.{drop}
use Rattle.unit_config.specs.UnitValues.{unit_of}
use Rattle.unit_reading.proofs.UnitImports.{ReadSo}
use Rattle.unit_reading.proofs.vetx_input.read_told.Given as goal

-- what was read so far completes what is read of the imports that are left
abbrev pub invariant-loop-import : goal.invariant-loop-import
invariant-loop-import g l =
    ReadSo l.by.edition l.by.digest.now (unit_of l.unit) l.import-items (drop l.import-index l.import-items)
    l.told.items
