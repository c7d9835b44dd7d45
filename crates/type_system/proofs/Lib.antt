pub mod RootNames
