-- How serving ends, and what becomes of connections, of the alarm and of workers.
pub mod Served
pub mod Opening
pub mod Handing
pub mod Alarms
pub mod Crews
pub mod Connections
