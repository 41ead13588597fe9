-- what the contracts rest on
pub mod Casts
pub mod Numbers
pub mod Printed
