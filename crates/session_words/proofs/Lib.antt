pub mod Cuts
mod Numbers
mod Octets
mod Held
