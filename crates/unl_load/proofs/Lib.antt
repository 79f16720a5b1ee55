mod Counting
mod Made
mod Names
mod Users
