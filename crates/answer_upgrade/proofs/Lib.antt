pub mod LineChanges
pub mod StoppedBytes
pub mod UpgradedLines
