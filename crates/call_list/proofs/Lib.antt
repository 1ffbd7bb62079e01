mod Pairs
mod Decimals
mod Texts
mod Places
