pub mod KeptFields
