mod JsonPieces
mod FindingPieces
mod BindingCounts
mod FunctionPieces
mod NoteTurns
mod WayPieces
mod WayOrder
