pub mod CountLemmas
pub mod ReadingLemmas
pub mod AnswerLemmas
pub mod FeedLemmas
pub mod LineLemmas
