-- The steps in which a fault lasts.
pub mod Window
