pub mod Accounts
pub mod Allocations
pub mod Hours
pub mod InUse
pub mod Legs
pub mod Lending
pub mod Machine
pub mod Trades
