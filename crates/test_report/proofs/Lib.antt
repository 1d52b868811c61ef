pub mod Lists
mod Numbered
