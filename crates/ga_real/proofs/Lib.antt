pub mod AnyImages
