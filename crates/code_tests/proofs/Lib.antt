pub mod TwoJumps
