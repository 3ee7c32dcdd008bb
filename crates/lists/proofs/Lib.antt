pub mod Places
pub mod Outcomes
pub mod Laying
pub mod Sofar
pub mod Onward
pub mod Meaning
