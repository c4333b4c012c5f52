-- What the tray promises, what two jobs hear of the same bytes, and what a lent tray does.
pub mod Promises
pub mod SideBySide
pub mod Lending
