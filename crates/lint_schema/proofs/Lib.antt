mod Located
mod Telling
