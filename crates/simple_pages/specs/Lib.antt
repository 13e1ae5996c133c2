pub mod Groups
pub mod Pages
pub mod Shown
pub mod Laying
