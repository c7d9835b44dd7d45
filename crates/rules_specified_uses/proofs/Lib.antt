pub mod WaitingUses
