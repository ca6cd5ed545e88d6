pub mod Places
pub mod FileTraces
pub mod OutTraces
pub mod Results
pub mod CutFiles
pub mod Sure
