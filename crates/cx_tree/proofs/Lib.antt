pub mod CommonTypeLaws
mod Examples
pub mod OutsideLaws
pub mod QuotientLaws
pub mod ValueLaws
