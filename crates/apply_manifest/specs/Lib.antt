pub mod Manifests
