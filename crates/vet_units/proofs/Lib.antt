mod UnitFaults
mod FlagFaults
mod TakenImports
mod CallFaults
mod OtherFacts
mod RanUnits
mod ForUnits
