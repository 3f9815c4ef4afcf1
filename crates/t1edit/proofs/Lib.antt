mod FaultJsonLaws
mod InTurn
mod Lines
mod NumberedLaws
mod ReportsInTurn
mod ShownLaws
mod Sources
mod Texts
