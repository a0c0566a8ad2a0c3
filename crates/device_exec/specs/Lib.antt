pub mod Executed
pub mod Promises
pub mod Reading
pub mod Running
pub mod ScriptGrammar
pub mod Scripts
pub mod Standing
