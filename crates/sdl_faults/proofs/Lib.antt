mod Tells
mod Validity
