pub mod BackwardNotes
pub mod NodesShown
