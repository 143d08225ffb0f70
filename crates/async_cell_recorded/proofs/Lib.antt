mod Counted
mod Histories
mod PlainHistories
mod Words
