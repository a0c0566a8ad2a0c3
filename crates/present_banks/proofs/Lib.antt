mod AllNumbers
mod Agreeing
mod Peaks
