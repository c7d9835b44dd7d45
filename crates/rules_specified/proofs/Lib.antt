mod CollectingLaws
mod FoundLaws
mod LastFragments
mod Parts
mod Telling
