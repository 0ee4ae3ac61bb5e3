pub mod CertificateLabelLemmas
pub mod CertifiedLemmas
pub mod RecordedLemmas
pub mod VerdictLemmas
pub mod CertifyLemmas
pub mod CertificateDetermined
