-- What is found in values: lists, and the members of objects.
pub mod ValuesRead
pub mod MembersRead
-- A value says findings exactly where it has the members that say them.
pub mod ReportsSay
-- A text has one answer.
pub mod OneReport
