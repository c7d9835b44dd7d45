mod Found
mod Conforms
