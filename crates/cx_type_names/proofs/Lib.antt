mod Closing
mod Examples
mod Listed
mod Passing
mod Rests
mod Sets
mod Spelling
