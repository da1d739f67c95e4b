-- For a reader of the contracts: strings under keys, what is told of a unit, which bytes tell it, and why some don't.
pub mod KeyedTexts
pub mod UnitValues
pub mod UnitTexts
-- Laws of these, which are proved.
pub mod UnitLaws
-- What serves the proofs.
pub mod UnitRead
