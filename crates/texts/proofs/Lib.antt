-- Laws of forms and jobs, and those that the functions' proofs cite.
pub mod FormLaws
pub mod JobParts
pub mod Groups
pub mod JobLaws
pub mod Staged
pub mod JobForm
pub mod Reading
pub mod Writing
pub mod Made
pub mod Figured
pub mod Laid
pub mod Reached
pub mod Writers
pub mod JobWriting
pub mod PlainKeys
pub mod Entries
pub mod Ledger
