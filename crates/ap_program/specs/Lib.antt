pub mod RawTyping
pub mod Typed
pub mod FreeLocals
pub mod CarryingOut
pub mod NameRestriction
