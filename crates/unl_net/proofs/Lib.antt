mod Accounting
mod Conditions
mod LoggedText
mod Moving
mod Trying
