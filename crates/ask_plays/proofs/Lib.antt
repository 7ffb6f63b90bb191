pub mod Standing
pub mod PlayLaws
pub mod Picked
pub mod Playing
pub mod Masks
pub mod Filled
