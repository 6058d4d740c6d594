pub mod App
pub mod Table
