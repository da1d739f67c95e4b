-- What is to be trusted: what is written where the program ends, and with which faults it ends.
pub mod Faults
pub mod WrittenReport
