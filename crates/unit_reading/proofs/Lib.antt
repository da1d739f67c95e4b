mod UnitFaults
mod UnitImports
