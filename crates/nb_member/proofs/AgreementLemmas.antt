-- Two members that are given the same.
pub mod SameTable
pub mod SameDeliveries
