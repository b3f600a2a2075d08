-- What the crates above name of form_parts, handed on.
pub use Rattle.form_parts.specs.Steps.{unread}
