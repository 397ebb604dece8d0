pub mod Chain
pub mod Skipping
pub mod Recording
pub mod Failing
pub mod ResumeAfter
pub mod RetryAfter
