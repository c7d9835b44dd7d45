mod Conforms
mod Found
