pub mod FieldsOnCorrectType
pub mod FieldsOnCorrectTypeLaws
pub mod TypenameLeafs
pub mod TypenameLeafsLaws
