mod Firsts
mod Reaching
mod Choices
