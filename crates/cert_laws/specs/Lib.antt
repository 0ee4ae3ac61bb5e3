pub mod OneCertificate
pub mod Named
pub mod Accepted
