-- For a reader of the contracts: what the tables of packages have as plain values.
pub mod Tables
