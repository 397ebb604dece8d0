-- The definitions of the lines that a script prints.
pub use Rattle.winnow_script_print.specs.AnswerLines
pub use Rattle.winnow_script_print.specs.HeldNumbers
-- What the lines of a script mean, and which of them are faulty.
pub mod Readings
pub mod Literals
pub mod Fault
pub mod Newline
pub mod Lines
pub mod Words
pub mod Steps
pub mod Inputs
pub mod Loans
pub mod FaultyLines
-- What they print.
pub mod ReportLines
pub mod TakenLines
pub mod ScriptLines
pub mod FaultyScripts
-- How the program ends.
pub mod Failure
