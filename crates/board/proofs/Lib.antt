-- The laws of the definitions.
pub mod ScanLaws
pub mod StandingLaws
pub mod BoardLaws
pub mod BesideLaws
pub mod NamedLaws
