pub mod SchemaAnswers
