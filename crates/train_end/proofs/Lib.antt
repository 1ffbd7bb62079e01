mod Blocks
mod Counts
mod Relays
