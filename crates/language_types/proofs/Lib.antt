pub mod TypesPrinted
