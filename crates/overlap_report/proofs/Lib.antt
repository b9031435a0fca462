mod Greens
mod Cabinets
mod Says
