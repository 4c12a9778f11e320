mod Pendings
mod Sayings
