mod Fails
mod Searches
mod Tables
mod Answers
mod Gains
