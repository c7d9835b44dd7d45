pub mod BegunLaws
pub mod FieldTypes
pub mod ObjectLaws
pub mod OneFault
pub mod RowLaws
pub mod SomeFault
pub mod Unfold
pub mod WrittenLaws
