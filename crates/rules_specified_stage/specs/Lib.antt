pub mod ArgumentRules
