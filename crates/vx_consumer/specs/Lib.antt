pub mod Flows
pub mod Mailboxes
