pub mod SheetLaws
mod Examples
