pub mod Bundles
