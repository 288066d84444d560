pub mod Hooking
pub mod Growing
