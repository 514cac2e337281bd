pub mod ClauseLaws
pub mod EndLaws
pub mod LandmarkLaws
pub mod PassLaws
