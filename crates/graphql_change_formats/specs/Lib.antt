pub mod ChangeJson
pub mod ShownChanges
