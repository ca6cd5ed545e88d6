pub mod BlankLemmas
pub mod FileLemmas
pub mod FirstLine
pub mod LineLemmas
pub mod SettingLemmas
pub mod SomeConf
pub mod UnitLemmas
