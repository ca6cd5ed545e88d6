mod TestLines
mod Merges
