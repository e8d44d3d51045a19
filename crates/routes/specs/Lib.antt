-- What the functions that follow the arcs back need and leave.
--   Following   the arcs, one after the other, from a vertex back to the source
--   Writing     the buffer as they are put into it, the last one first
--   RouteEntry  the judgement, and what the entry returns and leaves
pub mod Following
pub mod Writing
pub mod RouteEntry
