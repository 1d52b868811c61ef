mod Judging
mod Trying
