-- What the contracts cite beside the definition of the formats.
pub mod Parts
pub mod Returns
pub mod Words
