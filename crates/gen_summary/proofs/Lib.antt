pub mod FreePart
pub mod ReadBack
