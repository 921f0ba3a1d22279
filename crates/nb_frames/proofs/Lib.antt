mod AnswerLemmas
mod HeaderLemmas
mod LayoutLemmas
mod TagsLemmas
