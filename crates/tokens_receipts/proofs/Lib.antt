pub mod FieldAdded
