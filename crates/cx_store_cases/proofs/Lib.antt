mod Lists
mod Seats
mod Reaching
mod Held
mod Taking
mod Desks
mod Made
