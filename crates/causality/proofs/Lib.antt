mod ComparisonFacts
mod FollowFacts
mod GridFacts
mod LeftFacts
mod MakeFacts
mod MarkFacts
mod MemoryFacts
mod MergeFacts
pub mod Promises
mod ReceiptFacts
mod RoomFacts
mod SendFacts
