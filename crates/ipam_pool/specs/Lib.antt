-- Pool tables, reservations and the set of what they reserve, as contracts see them.
pub mod Sound
pub mod Changes
pub mod Slots
pub mod Printed
pub mod Shape
pub mod Spans
pub mod Union
pub mod Free
pub mod Sweep
pub mod ReservePrinted
