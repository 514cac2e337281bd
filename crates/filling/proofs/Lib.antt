pub mod AheadLaws
pub mod GivingLaws
pub mod JumpLaws
pub mod PutLaws
pub mod StepLaws
