-- The laws behind the steps on one file: what a step is by the definition, what its parts leave in the blocks and copies,
-- and what it stores in its row.
pub mod Taking
pub mod Wrapping
pub mod Lending
pub mod OpenStep
pub mod LastAnswer
pub mod Leaving
pub mod AnswerStep
pub mod ForgetStep
pub mod GrantedRow
pub mod WaitingRow
pub mod FlushedRow
pub mod AnsweredRow
pub mod KnownRow
pub mod ForgottenRow
pub mod DroppedRow
