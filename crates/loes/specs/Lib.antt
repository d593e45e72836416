-- What is promised. Read in this order; document 01's words are named at each definition.
pub mod Limits
pub mod Bytes
pub mod Keys
pub mod Edges
pub mod Entry
pub mod Encode
pub mod Refusals
-- (the code's refusals by these numbers)
pub mod Numbers
pub mod Read
-- (for the contracts of inner functions: edges in a buffer, and records counted)
pub mod Held
pub mod Prefixes
pub mod Model
pub mod Calls
pub mod Cursor
pub mod Walk
pub mod History
pub mod Demands
pub mod Examples
