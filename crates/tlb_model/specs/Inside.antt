-- Private: what no clause of a public call names.
pub mod Places
pub mod KeptRights
pub mod Tags
pub mod ItemTags
pub mod TagLaws
