mod Adding
mod Found
mod Lists
mod Placing
mod Text
mod Ways
