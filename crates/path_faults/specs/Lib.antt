-- For a reader of the contracts: what the program keeps of faults, and which it finds. The rules are those of
-- `meaning_packages/specs/PathFaults.antt`.
pub mod FaultViews
pub mod FoundFaults
pub mod LiveViews
