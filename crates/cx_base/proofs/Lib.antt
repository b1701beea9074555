mod Examples
pub mod FolderLaws
pub mod MemberLaws
pub mod PlaceLaws
pub mod SimpleLaws
pub mod SimplePathLaws
pub mod CauseLaws
pub mod AppendLaws
