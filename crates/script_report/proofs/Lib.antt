mod Numbered
mod Parts
