pub mod Bytes
pub mod FirstLine
pub mod Printed
