pub mod SourceLaws
pub mod QueryLaws
pub mod FileLaws
pub mod VerdictLaws
pub mod ResultLaws
pub mod SummaryLaws
pub mod AnswerLaws
