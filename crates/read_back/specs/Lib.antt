-- What a reader of the theorems must believe, over the written definition of reading and writing.
pub mod ReadBack
