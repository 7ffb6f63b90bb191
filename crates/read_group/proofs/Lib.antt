pub mod CnttLaws
pub mod CtabSeen
pub mod SeenLaws
