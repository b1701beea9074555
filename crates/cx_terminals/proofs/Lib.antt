mod Examples
mod NameLaws
mod ShownLaws
