mod CommandLaws
mod EnabledLaws
mod Examples
mod NameLaws
mod NumberLaws
mod ReadingLaws
mod SpellingLaws
mod TextLaws
