pub mod Common
pub mod HearingLemmas
pub mod EventLemmas
pub mod LiveLemmas
pub mod MemberLemmas
pub mod TakingLemmas
pub mod DeliveryLemmas
pub mod EventTakingLemmas
pub mod AgreementLemmas
pub mod ReplayLemmas
mod FieldLemmas
