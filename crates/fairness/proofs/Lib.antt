-- Why the tray keeps its promises.
pub mod Rings
pub mod Desk
pub mod Reader
pub mod Promises
pub mod SideBySide
pub mod Lending
