pub mod FoldLemmas
pub mod SetLemmas
pub mod MemberLemmas
pub mod ObjectLemmas
