mod Splices
mod Staged
