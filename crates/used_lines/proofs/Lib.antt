mod Parts
mod Telling
