mod Found
mod Told
