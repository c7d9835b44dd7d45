mod First
mod NamedLaws
