pub mod Sets
pub mod Arrival
pub mod Table
pub mod Chain
pub mod Layout
pub mod Laying
pub mod Clash
pub mod Gathered
