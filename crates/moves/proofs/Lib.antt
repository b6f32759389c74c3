pub mod ExceptLaws
pub mod Stranded
pub mod Moved
pub mod Taken
pub mod Telescope
pub mod TallyLaws
