pub mod HeaderConstants
pub mod LoadConfigConstants
pub mod LoadConfig
pub mod TlsConstants
pub mod Tls
pub mod AddressMap
pub mod CallbackSteps
pub mod LoadConfigFront
