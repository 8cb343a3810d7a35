-- Fields of files: what every field is tested for.
pub mod Field
pub mod FieldLaws
pub mod inner
