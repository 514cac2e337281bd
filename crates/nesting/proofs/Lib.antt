pub mod NestLaws
pub mod MoveLaws
pub mod OpenLaws
