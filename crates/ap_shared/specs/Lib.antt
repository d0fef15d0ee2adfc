pub mod Shared
pub mod LineDerivations
pub mod FirstNodes
pub mod LineNodes
pub mod SharedViews
pub mod Expanding
pub mod Entering
pub mod SharedPlaces
