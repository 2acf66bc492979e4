-- Which rows may be opened.
use Rattle.std.specs.Prelude.{◌≡◌, ◌≢◌, ℕ, ◌<◌, ◌≤◌, ◌⊎◌, List, ◌∷◌, Option, Some, None, Result, Ok, Err, Contains, slice_get, codes, filter, map, Bool, false}
use Rattle.std.specs.declared.cmp.Ordering.TheVariants.{Greater}
use Rattle.std.specs.Ordering.{nat_cmp}
use Rattle.std.specs.Cmp.Lexicographic.{slice_cmp}
use Rattle.std.specs.List.{All, filter_map}
use Rattle.std.specs.List.Sorted.{IsPermutation, IsStrictlySortedBy}
use Rattle.ipam_addr.specs.Shape.{CidrValue}
use Rattle.ipam_pool.specs.declared.pools.Pool.{Pool}
use Rattle.ipam_block.specs.declared.state.State.{State}
use Rattle.ipam_block.specs.declared.state.State.TheVariants.{Confirmed}
use Rattle.ipam_records.specs.declared.call.Row.{Row as RowText}
use Rattle.ipam_records.specs.declared.fault.TextFault.{TextFault}
use Rattle.ipam_records.specs.declared.fault.TextFault.TheVariants as fault
use Rattle.ipam_records.specs.declared.key.Key.{Key}
use Rattle.ipam_records.specs.declared.key.Key.TheVariants as key
use Rattle.ipam_records.specs.declared.key.Kind.TheVariants as kind
use Rattle.ipam_records.specs.declared.record.Record.{Record}
use Rattle.ipam_records.specs.declared.record.Record.TheVariants as record_of
use Rattle.ipam_records.specs.Datastore.{Datastore, most_rows, most_blocks, last_revision, row_key}
use Rattle.ipam_records.specs.KeyOrder.{is_of_kind}
use Rattle.ipam_records.specs.KeyText.{key_bytes, key_read}
use Rattle.ipam_records.specs.RecordReading.{record_reading}
use Rattle.ipam_records.specs.Sound.{IsDatastore}
use Rattle.ipam_model.specs.AffinityLaw.{HasAffinity, HasNode}
use Rattle.ipam_model.specs.Consistent.{IsConsistent, IsSlotOfSome, cidr_named, pools_in}
use Rattle.ipam_model.specs.declared.entry.Called.{Called}
use Rattle.ipam_model.specs.declared.entry.Entry.{Entry}
use Rattle.ipam_model.specs.declared.entry.Entry.TheVariants as entry
use Rattle.ipam_model.specs.declared.entry.Fate.TheVariants.{After}
use Rattle.ipam_model.specs.FateLaw.{IsSameCall}
use Rattle.ipam_model.specs.History.{Base, Lawful, store_at}
use Rattle.ipam_records.specs.Body.{body_of}
use Rattle.ipam_model.specs.CountLaw.{handle_count, held_count}
use Rattle.ipam_model.specs.Reads.{StoredRecord}

-- rows as texts, by ascending key, and the counter
pub record Texts : Type 0 where
  pub rows : List RowText
  pub counter : ℕ

abbrev pub reading_of : RowText → Result Record TextFault
reading_of row = record_reading row.key row.body

abbrev pub row_read : (revision : ℕ) → Result Record TextFault → Option StoredRecord
row_read revision (Ok found) = Some (revision, found)
row_read revision (Err broken) = None

-- the rows that can be read
abbrev pub readable : List RowText → List StoredRecord
readable rows = filter_map (λ row. row_read row.revision (reading_of row)) rows

abbrev pub read_store : Texts → Datastore
read_store texts = record { rows = readable texts.rows; counter = texts.counter }

-- the pools, none where their row is missing
abbrev pub pools_read : Texts → List Pool
pools_read texts = pools_in (readable texts.rows)

-- the CIDR that the text of a key names, where it is a block's or an affinity's
abbrev pub cidr_of_key : Option Key → Option CidrValue
cidr_of_key (Some found) = cidr_named found
cidr_of_key None = None

abbrev pub is_block_text : RowText → Bool
is_block_text row = of_key (key_read row.key)
  where
    of_key : Option Key → Bool
    of_key (Some found) = is_of_kind kind.Block found
    of_key None = false

-- a block that is not sound, or that was written as often as the datastore
abbrev pub IsBrokenBlock : (revision : ℕ) → Result Record TextFault → Type 0
IsBrokenBlock revision (Ok (record_of.Block b)) = revision ≤ b.sequence
IsBrokenBlock revision (Err broken) = broken ≡ fault.Unsound
IsBrokenBlock revision _ = ⊥

-- What breaks the rows: the number of the rule, and the text of the key that the fault names.
pub data Breaks (texts : Texts) : (number : ℕ) (about : List ℕ) → Type 0 where
  -- 1: the key or the body is no text of the format
  NoText : (row : RowText) → Contains texts.rows row → reading_of row ≡ Err fault.Form → Breaks texts 1 row.key
  -- 2: the record has another key
  AnotherKey : (row : RowText) → Contains texts.rows row → reading_of row ≡ Err fault.Key → Breaks texts 2 row.key
  -- 3: the pools are no table
  NoTable : (row : RowText) → Contains texts.rows row → reading_of row ≡ Err fault.Table → Breaks texts 3 row.key
  -- 4: the CIDR of a block or an affinity is no slot of a pool
  NoSlot : (row : RowText) (cidr : CidrValue) → Contains texts.rows row → cidr_of_key (key_read row.key) ≡ Some cidr
      → reading_of row ≢ Err fault.Form → reading_of row ≢ Err fault.Key
      → ¬ (IsSlotOfSome (pools_read texts) cidr) → Breaks texts 4 row.key
  -- 5: a block is not sound, or its sequence number is not below its revision
  NoBlock : (row : RowText) → Contains texts.rows row → IsBrokenBlock row.revision (reading_of row) → Breaks texts 5 row.key
  -- 6: a handle's count of a block is below its addresses there
  CountTooLow : (id : List ℕ) (cidr : CidrValue) → handle_count (read_store texts) id cidr < held_count (read_store texts) id cidr
      → Breaks texts 6 (key_bytes (key.Handle id))
  -- 7: a block's node has no affinity for it
  NoAffinityFor : (cidr : CidrValue) (node : List ℕ) → HasNode (read_store texts) cidr node
      → ((state : State) → ¬ (HasAffinity (read_store texts) node cidr state)) → Breaks texts 7 (key_bytes (key.Block cidr))
  -- 8: a confirmed affinity's block is missing or has not the node
  NoNodeFor : (cidr : CidrValue) (node : List ℕ) → HasAffinity (read_store texts) node cidr Confirmed
      → ¬ (HasNode (read_store texts) cidr node) → Breaks texts 8 (key_bytes (key.Affinity node cidr))
  -- 9: there are too many rows, or too many blocks
  TooManyRows : (row : RowText) → slice_get texts.rows most_rows ≡ Some row → Breaks texts 9 row.key
  TooManyBlocks : (row : RowText) → slice_get (filter is_block_text texts.rows) most_blocks ≡ Some row → Breaks texts 9 row.key
  -- 10: a revision is 0, above the counter or above the last one, or the counter is above the last one
  NoRevision : (row : RowText) → Contains texts.rows row → row.revision ≡ 0 → Breaks texts 10 row.key
  AboveCounter : (row : RowText) → Contains texts.rows row → texts.counter < row.revision → Breaks texts 10 row.key
  AboveLast : (row : RowText) → Contains texts.rows row → last_revision < row.revision → Breaks texts 10 row.key
  CounterAboveLast : last_revision < texts.counter → Breaks texts 10 (codes "counter")

-- the rule of the least number, and of those the key that comes first by its bytes
pub record IsRefusedBy (texts : Texts) (number : ℕ) (about : List ℕ) : Type 0 where
  pub breaks : Breaks texts number about
  pub first : (n : ℕ) (k : List ℕ) → Breaks texts n k
      → (number < n) ⊎ ((number ≡ n) × (slice_cmp nat_cmp about k ≢ Greater))

-- nothing breaks the rows
abbrev pub MayBeOpened : Texts → Type 0
MayBeOpened texts = (number : ℕ) (about : List ℕ) → ¬ (Breaks texts number about)

-- the datastore has exactly the rows that were read
pub record OpensAs (texts : Texts) (store : Datastore) : Type 0 where
  pub may_be_opened : MayBeOpened texts
  pub sound : IsDatastore store
  pub counter : store.counter ≡ texts.counter
  pub all_read : (row : RowText) (found : Record) → Contains texts.rows row → reading_of row ≡ Ok found → Contains store.rows (row.revision, found)
  pub nothing_else : (revision : ℕ) (found : Record) → Contains store.rows (revision, found)
      → (row : RowText) × Contains texts.rows row × (row.revision ≡ revision) × (reading_of row ≡ Ok found)

-- the texts of the datastore's rows, in the datastore's order
abbrev pub text_of : StoredRecord → RowText
text_of row = record { key = key_bytes (row_key row); body = body_of row.1; revision = row.0 }

abbrev pub texts_of : Datastore → List RowText
texts_of store = map text_of store.rows

-- ---- how rows are handed over

-- by ascending key, by the bytes of the texts, and each key once: so rows are handed over
abbrev pub AreByKey : List RowText → Type 0
AreByKey rows = IsStrictlySortedBy (slice_cmp nat_cmp) (map (λ (row : RowText). row.key) rows)

-- no revision is above the counter, and this is not above the last one: from the greatest revision
-- on, since a counter that was kept by the rows alone is that
pub record IsCounterOf (texts : Texts) : Type 0 where
  pub above : All (λ (row : RowText). row.revision ≤ texts.counter) texts.rows
  pub below_last : texts.counter ≤ last_revision

-- the rows of the datastore as they are handed over, with a counter
pub record IsTextOf (texts : Texts) (store : Datastore) : Type 0 where
  pub by_key : AreByKey texts.rows
  pub same_rows : IsPermutation (texts_of store) texts.rows
  pub counter : IsCounterOf texts

-- ---- the laws

-- what was opened is consistent
abbrev pub OpenedLaw : Type 0
OpenedLaw = (texts : Texts) (store : Datastore) → OpensAs texts store → IsConsistent store

-- Either nothing breaks the rows, or one fault is the first.
abbrev pub FirstFaultLaw : Type 0
FirstFaultLaw = (texts : Texts) → MayBeOpened texts ⊎ ((number : ℕ) × (about : List ℕ) × IsRefusedBy texts number about)

-- each of the rows that nothing breaks can be read
abbrev pub AllReadLaw : Type 0
AllReadLaw =
    (texts : Texts) → MayBeOpened texts → (row : RowText) → Contains texts.rows row
    → (found : Record) × (reading_of row ≡ Ok found)

-- rows that may be opened open as a datastore
abbrev pub OpensLaw : Type 0
OpensLaw = (texts : Texts) → AreByKey texts.rows → MayBeOpened texts → (store : Datastore) × OpensAs texts store

-- rows open as one datastore at most
abbrev pub OneOpenedLaw : Type 0
OneOpenedLaw = (texts : Texts) (one other : Datastore) → OpensAs texts one → OpensAs texts other → one ≡ other

-- what is opened of a datastore's own rows has the same records at the same revisions
abbrev pub SameRecordsLaw : Type 0
SameRecordsLaw =
    (texts : Texts) (store opened : Datastore) → IsDatastore store → IsTextOf texts store → OpensAs texts opened
    → opened.rows ≡ store.rows

-- however the rows are handed over, they open as the same, with the counter that is given
abbrev pub OpensAsItself : Datastore → Type 0
OpensAsItself store =
    (texts : Texts) → IsTextOf texts store → OpensAs texts (record { rows = store.rows; counter = texts.counter })

-- So at every moment what is there may be opened again.
abbrev pub OpenedAgainLaw : Type 0
OpenedAgainLaw =
    (base : Base) (history : List Entry) → IsConsistent base.store → Lawful base history → OpensAsItself (store_at base history)

-- So is it with a write in doubt, whose call failed: whether it was done or not, what is there may be
-- opened.
abbrev pub InDoubtLaw : Type 0
InDoubtLaw =
    (base : Base) (history : List Entry) (c : Called) → IsConsistent base.store → Lawful base (entry.Called c ∷ history)
    → OpensAsItself (store_at base history)
    × ((other : Called) × IsSameCall c other After × OpensAsItself (store_at base (entry.Called other ∷ history)))
