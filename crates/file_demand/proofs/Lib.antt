-- Lines read one after another; G lines, H lines and P lines; the hours of accepted calls; the whole file.
pub mod Followed
pub mod Metered
pub mod Worked
pub mod Profiled
pub mod Planted
pub mod Sums
