mod Places
mod Images
mod Marks
