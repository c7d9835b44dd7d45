mod Ascending
mod Growth
