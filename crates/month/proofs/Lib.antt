-- What answered questions tell; the statement within limits.
pub mod Outcomes
pub mod Accepted
pub mod Asked
pub mod Ends
pub mod Workable
pub mod StatementAsked
pub mod Many
