mod Appended
mod Checked
mod Moved
mod Routed
mod Simulated
mod Sized
mod Steps
