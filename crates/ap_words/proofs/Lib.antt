mod Lists
mod Names
mod Numbers
mod Plain
mod Rows
mod Steps
mod Taken
mod Walking
