pub mod RunnerLaws
pub mod WholeLaws
