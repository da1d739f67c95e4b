mod BodySizes
mod Heads
mod Opens
mod Statements
mod Values
