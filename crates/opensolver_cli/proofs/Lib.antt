pub mod StepLaws
pub mod RecordLaws
pub mod SaveLaws
pub mod RunLaws
pub mod MadeUpLaws
pub mod CompleteLaws
