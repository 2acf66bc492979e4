-- What a CNI call begins, and how an answer of the allocator is replied.
pub mod Asking
pub mod GcAsking
pub mod GcReplying
pub mod Replying
