pub mod LineLaws
pub mod TextLaws
pub mod CountLaws
pub mod SectionLaws
pub mod NestLaws
pub mod WholeLaws
pub mod FaultLaws
pub mod Examples
