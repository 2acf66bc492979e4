-- What good calls ask is sound, and each answer has a reply.
pub mod SoundCalls
pub mod AllReplies
pub mod SoundProbe
pub mod GcReplies
