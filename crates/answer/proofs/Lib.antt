mod Each
mod Limits
mod Heads
mod Linked
mod Rules
