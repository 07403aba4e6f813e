mod Counting
mod Putting
