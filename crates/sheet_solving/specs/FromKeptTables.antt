-- What the crates above name of kept_tables, handed on.
pub use Rattle.sheet_linear_model.specs.FromKeptTables.{AreRight, Parts, SheetForms, all_marked, decisions_of, expressions_of, marked_in}
