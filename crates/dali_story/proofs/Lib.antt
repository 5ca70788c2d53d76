mod ListLemmas
mod TellLemmas
mod Places
