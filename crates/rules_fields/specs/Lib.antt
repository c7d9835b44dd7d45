pub mod DisableIntrospection
pub mod DisableIntrospectionLaws
pub mod FieldsOnCorrectType
pub mod FieldsOnCorrectTypeLaws
pub mod ScalarLeafs
pub mod ScalarLeafsLaws
