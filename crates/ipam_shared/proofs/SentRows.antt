-- Which records of a store may cross threads.
use denote.RattleType.{RattleType}
use mathlib.Core.List.{[], ◌∷◌}
use denote.Struct.Field.{row_field}
use denote.Struct.Tuple.{Tuple, tuple_type}
use denote.Param.Send.{IsSend, IsSync, view_send, view_sync, sendable}
use denote.Param.SendFields.{as_row_send, as_row_sync, declared_send, declared_sync, variants_send}
use Rattle.std.proofs.Crossing.{Vec-send, Vec-sync, Deque-send, Arc-send, send as heap_send}
use Rattle.std.proofs.MapsCrossing.{String-sync}
use Rattle.ipam_text.specs.contracts.text.Text as Text
use Rattle.ipam_text.specs.contracts.text.Text.TheInside as text_inside
use Rattle.ipam_text.specs.contracts.sequence.Seq as Seq
use Rattle.ipam_text.specs.contracts.sequence.Seq.TheInside as seq_inside
use Rattle.ipam_addr.specs.contracts.address.Addr as Addr
use Rattle.ipam_addr.specs.contracts.cidrs.Cidr as Cidr
use Rattle.ipam_pool.specs.contracts.pools.Pool as Pool
use Rattle.ipam_pool.specs.contracts.table.PoolTable as PoolTable
use Rattle.ipam_pool.specs.contracts.reservations.Reservation as Reservation
use Rattle.ipam_block.specs.contracts.allocation.Attributes as Attributes
use Rattle.ipam_block.specs.contracts.allocation.Kept as KeptAttributes
use Rattle.ipam_block.specs.contracts.allocation.SharedAttributes as SharedAttributes
use Rattle.ipam_block.specs.contracts.allocation.Allocation as Allocation
use Rattle.ipam_block.specs.contracts.block_record.Block as Block
use Rattle.ipam_block.specs.contracts.record.Affinity as Affinity
use Rattle.ipam_block.specs.contracts.handles.Handle as Handle
use Rattle.ipam_shared.proofs.SentSelectors.{text_send, node_selector_send}

pub addr_send : IsSend Addr.the_row
addr_send = search (declared_send, variants_send, sendable) depth 20 fits 100000

pub cidr_send : IsSend Cidr.the_row
cidr_send = search (declared_send, variants_send, sendable) depth 20 fits 100000

pub seq_send : (T : RattleType) → IsSend T → IsSend (Seq.the_row T)
seq_send T s = view_send (seq_inside.the_row T) _ _ _ _ (declared_send (seq_inside.the_type T) (Vec-send T s, tt))

pub pair_send : (A B : RattleType) → IsSend A → IsSend B → IsSend (Tuple (A ∷ B ∷ []))
pair_send A B a b = declared_send (tuple_type (A ∷ B ∷ [])) (as_row_send (row_field A) a, (as_row_send (row_field B) b, tt))

-- what a type holds may cross threads where each part may
pub ruleset parts = (text_send, addr_send, cidr_send, seq_send, pair_send, Vec-send, Deque-send, declared_send, variants_send, sendable)

pub pool_send : IsSend Pool.the_row
pool_send = search (node_selector_send, parts) depth 20 fits 100000

pub pools_send : IsSend PoolTable.the_row
pools_send = search (pool_send, parts) depth 20 fits 100000

pub reservation_send : IsSend Reservation.the_row
reservation_send = search (parts) depth 20 fits 100000

pub attributes_send : IsSend Attributes.the_row
attributes_send = search (parts) depth 20 fits 100000

-- ---- attributes are shared by copies of an allocation, so they may also be seen by several threads

text_sync : IsSync Text.the_row
text_sync = view_sync text_inside.the_row _ _ _ _ (declared_sync text_inside.the_type (String-sync, tt))

seq_sync : (T : RattleType) → IsSync T → IsSync (Seq.the_row T)
seq_sync T s = view_sync (seq_inside.the_row T) _ _ _ _ (declared_sync (seq_inside.the_type T) (Vec-sync T s, tt))

pair_sync : (A B : RattleType) → IsSync A → IsSync B → IsSync (Tuple (A ∷ B ∷ []))
pair_sync A B a b = declared_sync (tuple_type (A ∷ B ∷ [])) (as_row_sync (row_field A) a, (as_row_sync (row_field B) b, tt))

attributes_sync : IsSync Attributes.the_row
attributes_sync = search (text_sync, seq_sync, pair_sync, declared_sync, sendable) depth 20 fits 100000

kept_attributes_send : IsSend KeptAttributes.the_row
kept_attributes_send = search (attributes_send, attributes_sync, Arc-send, heap_send, parts) depth 20 fits 100000

shared_attributes_send : IsSend SharedAttributes.the_row
shared_attributes_send = search (kept_attributes_send, parts) depth 20 fits 100000

allocation_send : IsSend Allocation.the_row
allocation_send = search (shared_attributes_send, parts) depth 20 fits 100000

pub block_send : IsSend Block.the_row
block_send = search (allocation_send, parts) depth 20 fits 100000

pub affinity_send : IsSend Affinity.the_row
affinity_send = search (parts) depth 20 fits 100000

pub handle_send : IsSend Handle.the_row
handle_send = search (parts) depth 20 fits 100000
