-- The laws of the definitions.
pub mod HostLaws
pub mod EntryLaws
pub mod GroupsPlanLaws
pub mod CertifiedLaws
