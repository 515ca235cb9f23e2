mod Masked
mod Edged
mod Tried
