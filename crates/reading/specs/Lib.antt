-- Request files read.
pub mod Reading
pub mod ReadingLaws
pub mod AskedLaws
pub mod FieldLaws
pub mod FilePacking
pub mod LinksLaws
pub mod DemandsLaws
pub mod FileLaws
pub mod BackLaws
pub mod EncodedLaws
pub mod RepackingLaws
pub mod inner
