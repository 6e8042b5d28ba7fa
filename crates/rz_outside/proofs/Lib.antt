mod Lookups
mod Names
mod Transfers
