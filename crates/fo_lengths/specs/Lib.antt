pub mod Padding
pub mod WholeNumber
pub mod ColorValue
pub mod DecimalNumber
pub mod NumberValue
pub mod UnitOfLength
pub mod LengthValue
pub mod Scan
