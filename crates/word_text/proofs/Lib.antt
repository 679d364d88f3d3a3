mod Copies
mod Digits
mod Opening
mod Marks
