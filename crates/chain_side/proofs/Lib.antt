pub mod AlongOrder
pub mod Passed
pub mod Told
pub mod Parity
pub mod Outside
