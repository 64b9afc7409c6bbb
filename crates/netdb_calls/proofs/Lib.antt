mod Opens
mod Others
mod Writing
