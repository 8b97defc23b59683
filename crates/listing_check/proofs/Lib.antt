mod Turns
mod Rises
mod Steps
mod Order
