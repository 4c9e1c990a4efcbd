pub mod ListSets
pub mod Certificates
pub mod Parts
pub mod CertificateFields
pub mod internal
