-- DEL, the freeing of one address, and the collection of what no live handle owns.
use Rattle.std.specs.Prelude.{ℕ, zero, suc, ◌-◌, Bool, true, not, ◌&&◌, nat_lt, List, [], ◌∷◌, ◌++◌, Option, Some, None, map, bytes_eq, codes}
use Rattle.std.specs.List.{list_any, filter, flat_map}
use Rattle.ipam_addr.specs.Shape.{CidrValue}
use Rattle.ipam_block.specs.declared.allocation.Allocation.{Allocation}
use Rattle.ipam_records.specs.declared.key.Key.TheVariants as key
use Rattle.ipam_records.specs.declared.key.Kind.TheVariants as kind
use Rattle.ipam_records.specs.declared.call.Call.TheVariants.{Get, List as ListAll}
use Rattle.ipam_records.specs.declared.record.Record.TheVariants as record_of
use Rattle.ipam_records.specs.Label.{idle}
use Rattle.ipam_records.specs.Word.{Word, Asks, Waits}
use Rattle.ipam_model.specs.declared.answer.Collected.{Collected}
use Rattle.ipam_model.specs.declared.answer.Item.{Item}
use Rattle.ipam_model.specs.declared.outcome.DelAnswer.{DelAnswer}
use Rattle.ipam_model.specs.declared.outcome.DelAnswer.TheVariants as del
use Rattle.ipam_model.specs.declared.outcome.FreeAnswer.{FreeAnswer}
use Rattle.ipam_model.specs.declared.outcome.FreeAnswer.TheVariants as one
use Rattle.ipam_model.specs.declared.outcome.CollectAnswer.{CollectAnswer}
use Rattle.ipam_model.specs.declared.outcome.CollectAnswer.TheVariants as collect
use Rattle.ipam_model.specs.declared.request.CollectRequest.{CollectRequest}
use Rattle.ipam_model.specs.Counting.{FreedOfHandle, freeing_all, freeing_one, free}
use Rattle.ipam_model.specs.Owners.{Owner, owner_of, is_owner_in}
use Rattle.ipam_model.specs.Reads.{StoredRecord, handle_said, rows_said}
use Rattle.ipam_model.specs.Pairs.{has_value}
use Rattle.ipam_model.specs.declared.part.Left.{Left}
use Rattle.ipam_model.specs.Step.{all_left, Part, StopAnswers, goes, part_then, without_count, as_word}

-- the owner's address in the block, with its stamp
abbrev pub freeing_owner : Owner → CidrValue → FreedOfHandle
freeing_owner owner cidr = freeing_one owner.handle cidr (owner.address.number - cidr.base) owner.stamp

-- ---- DEL

abbrev pub del_stops : StopAnswers DelAnswer
del_stops = without_count del.Again del.Spent del.Spent

unfoldable pub del_blocks : (id : List ℕ) (moment : ℕ) → List CidrValue → Left → Part DelAnswer
del_blocks id moment [] left = goes left (del.Deleted moment)
del_blocks id moment (cidr ∷ rest) left =
    part_then (free (freeing_all id cidr) left) (λ now amount. del_blocks id moment rest now)

-- Frees what the handle holds in each of its blocks, by family, base and prefix.
abbrev pub del_word : List ℕ → Word DelAnswer
del_word id =
    Asks idle (Get (key.Handle id)) (λ moment said.
    as_word del_stops (del_blocks id moment (map (λ count. count.0) (handle_said id said).counts) all_left))

-- ---- freeing one

-- whether it was still held
abbrev pub freed_answer : (amount : ℕ) → FreeAnswer
freed_answer zero = one.Gone
freed_answer (suc more) = one.Freed

abbrev pub free_stops : StopAnswers FreeAnswer
free_stops = without_count one.Again one.Spent one.Spent

-- Frees the owner's address in the block.
abbrev pub free_word : Owner → CidrValue → Word FreeAnswer
free_word owner cidr =
    as_word free_stops (part_then (free (freeing_owner owner cidr) all_left) (λ left amount. goes left (freed_answer amount)))

-- ---- collection

-- an owner that may be collected, and its block
pub record Leak : Type 0 where
  pub owner : Owner
  pub block : CidrValue

abbrev pub is_live : List (List ℕ) → List ℕ → Bool
is_live live id = list_any (bytes_eq id) live

-- whether the allocation was made for the network on the node
abbrev pub is_in_scope : Option (List ℕ × List ℕ) → Allocation → Bool
is_in_scope None a = true
is_in_scope (Some scope) a =
    has_value (codes "network") (bytes_eq scope.0) a.attributes.secondary
    && has_value (codes "node") (bytes_eq scope.1) a.attributes.secondary

abbrev pub may_leak : CollectRequest → Allocation → Bool
may_leak request a = is_in_scope request.scope a && not (is_live request.live a.attributes.handle)

abbrev pub leak_of : CidrValue → Allocation → Leak
leak_of cidr a = record { owner = owner_of cidr a; block = cidr }

abbrev pub leaks_in_row : CollectRequest → StoredRecord → List Leak
leaks_in_row request (revision, record_of.Block b) = map (leak_of b.cidr) (filter (may_leak request) b.allocations)
leaks_in_row request _ = []

-- the owners in scope whose handles are not in the first list, by family and address
abbrev pub suspects : CollectRequest → List StoredRecord → List Leak
suspects request rows = flat_map (leaks_in_row request) rows

-- the suspects that own still, and whose handles are not in the second list either
abbrev pub leaks : List Leak → (live : List (List ℕ)) → List StoredRecord → List Leak
leaks kept live rows =
    filter (λ leak. is_owner_in rows leak.owner && not (is_live live leak.owner.handle)) kept

abbrev pub item_of : Leak → (amount : ℕ) → Item
item_of leak amount = record {
  address = leak.owner.address;
  handle = leak.owner.handle;
  stamp = leak.owner.stamp;
  freed = nat_lt 0 amount;
}

abbrev pub collect_stops : StopAnswers CollectAnswer
collect_stops = without_count collect.Again collect.Spent collect.Spent

abbrev pub with_item : Collected → Item → Collected
with_item done item = record { b1 = done.b1; b2 = done.b2; items = done.items ++ item ∷ [] }

unfoldable pub free_leaks : (done : Collected) → List Leak → Left → Part CollectAnswer
free_leaks done [] left = goes left (collect.Collected done)
free_leaks done (leak ∷ rest) left =
    part_then (free (freeing_owner leak.owner leak.block) left)
    (λ now amount. free_leaks (with_item done (item_of leak amount)) rest now)

-- Lists the blocks, waits for a second list of live handles, lists the blocks again, and frees what
-- leaks.
abbrev pub collect_word : CollectRequest → Word CollectAnswer
collect_word request =
    Asks idle (ListAll kind.Block) (λ b1 first.
    Waits (λ live.
    Asks idle (ListAll kind.Block) (λ b2 second.
    as_word collect_stops
    (free_leaks (record { b1 = b1; b2 = b2; items = [] })
    (leaks (suspects request (rows_said first)) live (rows_said second)) all_left))))
