mod Books
mod Orders
mod WholeText
mod Bringing
mod Telling
mod Within
mod Counted
