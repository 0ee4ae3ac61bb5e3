pub mod CertificateStop
