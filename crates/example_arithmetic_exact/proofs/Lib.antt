mod NumberLemmas
mod ExpressionLemmas
mod AnswerLemmas
mod DigitLemmas
