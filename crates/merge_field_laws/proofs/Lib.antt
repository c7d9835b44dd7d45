mod NoCycle
mod Inside
mod Merging
mod CleanMerging
