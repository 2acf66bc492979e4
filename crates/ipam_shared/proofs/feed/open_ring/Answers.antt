use Rattle.std.proofs.Common.{◌≡◌, ℕ, List, [], map, ap, sym, subst, ◌∙◌}
use Rattle.std.specs.List.Sorted.{IsStrictlySortedBy}
use Rattle.ipam_records.specs.declared.call.Reply.{Reply}
use Rattle.ipam_records.specs.declared.call.Reply.TheVariants as reply
use Rattle.ipam_records.specs.declared.key.Kind.TheVariants as kind
use Rattle.ipam_records.specs.declared.listing.Listing.{Listing}
use Rattle.ipam_records.specs.declared.record.Record.{Record}
use Rattle.ipam_records.specs.Datastore.{Datastore, row_key, rows_of_kind}
use Rattle.ipam_records.specs.KeyOrder.{key_cmp}
use Rattle.ipam_records.specs.Listing.{rows_of}
use Rattle.ipam_records.specs.Said.{Said, Listed, said}
use Rattle.ipam_store.proofs.Pushes.{listed-ascend}
use Rattle.ipam_shared.proofs.feed.open_ring.Goals as goal

abbrev listed_in : Said → List (ℕ × Record)
listed_in (Listed rows) = rows
listed_in _ = []

-- the rows of the reply are those that it says
listed : (store : Datastore) (given : Reply) (listing : Listing) → said given ≡ Listed (rows_of_kind kind.Affinity store)
    → given ≡ reply.Listed listing → rows_of listing ≡ rows_of_kind kind.Affinity store
listed store given listing told is = ap listed_in (ap said (sym is) ∙ told)

pub open-requires : goal.open-requires
open-requires c =
    subst (λ rows. IsStrictlySortedBy key_cmp (map row_key rows)) (sym (listed c.args.store.now.store c.reply-reply.result c.in-Listed.listing c.reply-reply.ensures.reply c.in-Listed.is))
    (listed-ascend c.args.store.now.store c.reply-reply.ensures.sound)

pub returns : goal.returns
returns c =
    c.in_ok-ring.ensures.follows c.args.store.now.store c.reply-reply.ensures.sound
    (listed c.args.store.now.store c.reply-reply.result c.in-Listed.listing c.reply-reply.ensures.reply c.in-Listed.is) c.counter.ensures.value
