pub mod Depfile
