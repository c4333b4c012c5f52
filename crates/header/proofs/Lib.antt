-- How the counts of a header follow one another.
pub mod OneByOne
