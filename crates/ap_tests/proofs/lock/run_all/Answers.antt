use denote.Param.Send.{sendable}
use Rattle.std.proofs.Crossing.{crosses, send as heap_send, sync as heap_sync}
use Rattle.ap_tools.proofs.SeatSent.{seat_send, shared_sync}
use Rattle.ap_tests.proofs.lock.run_all.Goals as goal

pub map_vec-requires-send-J : goal.map_vec-requires-send-J
map_vec-requires-send-J g c κs within = search (sendable, seat_send)

pub map_vec-requires-send-X : goal.map_vec-requires-send-X
map_vec-requires-send-X g c κs within = search (sendable, seat_send)

pub map_vec-requires-sync-F : goal.map_vec-requires-sync-F
map_vec-requires-sync-F g c κs within = let r = c.type_bounds.sync-R in search (sendable, crosses, shared_sync, heap_send, heap_sync) depth 20
