-- What the contracts of admission cite: what a submission over a timetable gives.
pub mod Submitted
