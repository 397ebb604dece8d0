pub mod Codes
pub mod Events
pub mod Calls
pub mod Records
pub mod CsvCalls
pub mod RespEvents
pub mod RespCalls
pub mod KeptCalls
