mod Booking
mod Returning
