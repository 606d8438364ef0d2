mod Order
mod Passes
mod Turns
