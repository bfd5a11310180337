-- What the contracts of timetable cite: what a register keeps beside its rows, and what withdrawals and clock moves over a timetable give.
pub mod Derived
pub mod Marks
pub mod Timetables
