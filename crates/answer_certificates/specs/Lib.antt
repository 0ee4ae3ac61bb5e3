pub mod Certificates
pub mod Certify
pub mod Verify
pub mod Upgrade
pub mod private
