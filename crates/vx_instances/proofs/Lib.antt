pub mod Places
pub mod Maps
pub mod Rows
pub mod Deploys
pub mod Handing
