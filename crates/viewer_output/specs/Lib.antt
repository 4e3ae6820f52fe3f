pub mod Mark
pub mod View
