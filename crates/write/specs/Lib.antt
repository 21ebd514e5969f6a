-- The rules, in the order to read them: the calls, and their numbers; one step; the beginnings; a run; every call; and a machine in its world.
pub mod Call
pub mod Numbers
pub mod Steps
pub mod Begins
pub mod Scans
pub mod Runs
pub mod Machine
pub mod World
