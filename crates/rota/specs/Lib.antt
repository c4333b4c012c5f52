-- A round of waiting jobs, over any reader.
pub mod Rota
