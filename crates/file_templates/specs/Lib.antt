pub mod TemplateRecords
pub mod DomainTemplates
pub mod SessionTemplates
