pub mod DayKeys
mod Excluded
mod Moments
mod OneList
mod PanelSteps
mod RowForms
mod RowKeys
pub mod SomeList
