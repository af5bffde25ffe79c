mod Integers
mod WrongBodies
