pub mod ArcLabels
