-- The definitions that the contracts of `report_text` cite.
pub mod ReportLines
