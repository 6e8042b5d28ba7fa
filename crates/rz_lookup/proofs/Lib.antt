mod Bytes
mod LookedUp
mod LookupRun
mod LookupSized
mod LookupSteps
mod Placed
mod Searched
