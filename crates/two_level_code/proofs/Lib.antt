mod Places
mod FastRom
mod Entering
mod Standing
