mod Closing
mod Environments
mod Keeping
