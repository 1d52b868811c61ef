pub mod FirstFault
pub mod Grammar
pub mod Inside
