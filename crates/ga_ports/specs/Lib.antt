-- What the outside is to the program: files to read and targets to write.
pub mod Places
pub mod Files
pub mod Outs
pub mod Trace
pub mod MemFiles
pub mod MemOuts
pub mod SureFiles
pub mod SureOuts
pub mod ShortFiles
pub mod Sure
