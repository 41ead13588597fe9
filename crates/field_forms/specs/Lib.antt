-- what the contracts rest on
pub mod Forms
pub mod Numbers
pub mod Fields
pub mod Values
pub mod Records
pub mod Spellings
pub mod Readings
-- proofs that ghost lines cite
pub mod FormLaws
pub mod ListLaws
pub mod NumberLaws
pub mod FieldLaws
pub mod ValueLaws
pub mod RecordLaws
