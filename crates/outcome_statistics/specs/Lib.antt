pub mod Records
pub mod Met
pub mod Visits
pub mod Findings
pub mod Failing
pub mod Judgements
pub mod Inside
