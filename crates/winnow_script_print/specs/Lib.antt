pub mod AnswerLines
pub mod HeldNumbers
