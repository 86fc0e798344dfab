pub mod AnswerLemmas
mod DocumentLemmas
mod FileLemmas
mod SessionLemmas
