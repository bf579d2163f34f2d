mod DraftLemmas
mod LineLemmas
mod NumberLemmas
mod PeerLemmas
mod PushLemmas
mod Rows
pub mod ServedLemmas
mod SoundLemmas
mod WordLemmas
mod WritableDrafts
mod WrittenConf
mod WrittenLines
mod WrittenNumbers
mod WrittenRows
mod WrittenWords
