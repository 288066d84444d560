mod CaseLaws
mod LineLaws
mod ReadingLaws
