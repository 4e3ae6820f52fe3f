pub mod FrontLemmas
pub mod WorkLemmas
pub mod StepLemmas
pub mod AnswerLemmas
pub mod NextLemmas
pub mod SumLemmas
