-- Each of the rows that nothing breaks can be read.
use Rattle.std.proofs.Common.{◌≡◌, ◌≢◌, ℕ, Bool, true, false, cond, List, [], Option, Some, None, Result, Ok, Err, refl, sym, subst, bytes_eq}
use Rattle.std.specs.Option.{ok_or}
use Rattle.ipam_addr.specs.Shape.{CidrValue}
use Rattle.ipam_block.specs.Shape.{BlockValue}
use Rattle.ipam_block_text.specs.declared.fault.BodyFault as block_fault
use Rattle.ipam_block_text.specs.declared.fault.BodyFault.TheVariants as in_block
use Rattle.ipam_block_text.specs.Body.{block_body}
use Rattle.ipam_block_text.specs.Reading.{block_form, block_of_parts_in, block_reading, checked, reading_from}
use Rattle.ipam_pool.specs.declared.pools.Pool.{Pool}
use Rattle.ipam_record_text.specs.declared.fault.BodyFault.{BodyFault}
use Rattle.ipam_record_text.specs.declared.fault.BodyFault.TheVariants as in_body
use Rattle.ipam_json.specs.Held.{held}
use Rattle.ipam_record_text.specs.Config.{config_in, config_body, config_reading}
use Rattle.ipam_record_text.specs.Pools.{are_added, pool_list_in, pools_body, pools_reading, table_of}
use Rattle.ipam_record_text.specs.Reservations.{reservations_in, reservations_body, reservations_reading}
use Rattle.ipam_record_text.specs.Affinity.{affinity_in, affinity_body, affinity_reading}
use Rattle.ipam_record_text.specs.Handle.{handle_in, handle_body, handle_reading}
use Rattle.ipam_records.specs.declared.fault.TextFault.{TextFault}
use Rattle.ipam_records.specs.declared.fault.TextFault.TheVariants as fault
use Rattle.ipam_records.specs.declared.key.Key.{Key}
use Rattle.ipam_records.specs.declared.key.Key.TheVariants as key_of_kind
use Rattle.ipam_records.specs.declared.record.Record.{Record}
use Rattle.ipam_records.specs.declared.record.Record.TheVariants as record_of
use Rattle.ipam_records.specs.Key.{key_of}
use Rattle.ipam_records.specs.KeyText.{key_bytes, key_read}
use Rattle.ipam_records.specs.RecordReading.{if_key, keyed, keyed_block, reading_at, reading_of_kind, record_reading, unsound_fault}
use Rattle.ipam_model.specs.Opened.{AllReadLaw, AnotherKey, IsBrokenBlock, NoBlock, NoTable, NoText, reading_of}

-- ---- no reading wants memory
ok_or-form : {A : Type 0} → (o : Option A) → ok_or o in_body.Form ≢ Err in_body.Memory
ok_or-form None e = cc e
ok_or-form (Some x) e = cc e

pools-no_memory : (body : List ℕ) → pools_reading body ≢ Err in_body.Memory
unfolding pools_reading table_of
pools-no_memory body = from (held pool_list_in pools_body body)
  where
    added : (pools : List Pool) (b : Bool) → cond b (Ok pools) (Err in_body.Table) ≢ Err in_body.Memory
    added pools true e = cc e
    added pools false e = cc e

    from : (o : Option (List Pool)) → table_of o ≢ Err in_body.Memory
    from None e = cc e
    from (Some pools) e = added pools (are_added [] pools) e

if_key-no_memory : (key : List ℕ) (found : Record) → if_key key found ≢ Err fault.Memory
if_key-no_memory key found = by (bytes_eq (key_bytes (key_of found)) key)
  where
    by : (b : Bool) → cond b (Ok found) (Err fault.Key) ≢ Err fault.Memory
    by true e = cc e
    by false e = cc e

keyed-no_memory : {A : Type 0} → (make : A → Record) (key : List ℕ) (r : Result A BodyFault) → r ≢ Err in_body.Memory → keyed make key r ≢ Err fault.Memory
keyed-no_memory make key (Ok value) h e = if_key-no_memory key (make value) e
keyed-no_memory make key (Err in_body.Form) h e = cc e
keyed-no_memory make key (Err in_body.Table) h e = cc e
keyed-no_memory make key (Err in_body.Memory) h e = h refl

unsound-no_memory : (key : List ℕ) (cidr : CidrValue) → unsound_fault key cidr ≢ fault.Memory
unsound-no_memory key cidr = by (bytes_eq (key_bytes (key_of_kind.Block cidr)) key)
  where
    by : (b : Bool) → cond b fault.Unsound fault.Key ≢ fault.Memory
    by true e = cc e
    by false e = cc e

block-no_memory : (body : List ℕ) → block_reading body ≢ Err in_block.Memory
unfolding block_reading
block-no_memory body = elim (block_form body) as (λ o. reading_from body o ≢ Err in_block.Memory) [
  | None ↦ λ e. cc e
  | Some f ↦ by f.0.cidr (block_of_parts_in f.0 f.1)
]
  where
    has : (b : BlockValue) (cidr : CidrValue) (same : Bool) → cond same (Ok b) (Err (in_block.Unsound cidr)) ≢ Err in_block.Memory
    has b cidr true e = cc e
    has b cidr false e = cc e

    by : (cidr : CidrValue) (o : Option BlockValue) → checked body cidr o ≢ Err in_block.Memory
    by cidr None e = cc e
    by cidr (Some b) e = has b cidr (bytes_eq (block_body b) body) e

keyed_block-no_memory : (key : List ℕ) (r : Result BlockValue block_fault.BodyFault) → r ≢ Err in_block.Memory → keyed_block key r ≢ Err fault.Memory
keyed_block-no_memory key (Ok value) h e = if_key-no_memory key (record_of.Block value) e
keyed_block-no_memory key (Err in_block.Form) h e = cc e
keyed_block-no_memory key (Err (in_block.Unsound cidr)) h e = unsound-no_memory key cidr (cc e)
keyed_block-no_memory key (Err in_block.Memory) h e = h refl

kind-no_memory : (k : Key) (key body : List ℕ) → reading_of_kind k key body ≢ Err fault.Memory
unfolding config_reading reservations_reading affinity_reading handle_reading
kind-no_memory key_of_kind.Config key body = keyed-no_memory record_of.Config key (config_reading body) (ok_or-form (held config_in config_body body))
kind-no_memory key_of_kind.Pools key body = keyed-no_memory record_of.Pools key (pools_reading body) (pools-no_memory body)
kind-no_memory key_of_kind.Reservations key body = keyed-no_memory record_of.Reservations key (reservations_reading body) (ok_or-form (held reservations_in reservations_body body))
kind-no_memory (key_of_kind.Block cidr) key body = keyed_block-no_memory key (block_reading body) (block-no_memory body)
kind-no_memory (key_of_kind.Affinity node cidr) key body = keyed-no_memory record_of.Affinity key (affinity_reading body) (ok_or-form (held affinity_in affinity_body body))
kind-no_memory (key_of_kind.Handle id) key body = keyed-no_memory record_of.Handle key (handle_reading body) (ok_or-form (held handle_in handle_body body))

pub record-no_memory : (key body : List ℕ) → record_reading key body ≢ Err fault.Memory
unfolding record_reading
record-no_memory key body = from (key_read key)
  where
    from : (o : Option Key) → reading_at o key body ≢ Err fault.Memory
    from None e = cc e
    from (Some k) e = kind-no_memory k key body e

-- ---- the law

pub all_read : AllReadLaw
all_read texts may row among = from (reading_of row) refl
  where
    from : (r : Result Record TextFault) → reading_of row ≡ r → (found : Record) × (reading_of row ≡ Ok found)
    from (Ok found) e = (found, e)
    from (Err fault.Form) e = absurd (may 1 row.key (NoText row among e))
    from (Err fault.Key) e = absurd (may 2 row.key (AnotherKey row among e))
    from (Err fault.Table) e = absurd (may 3 row.key (NoTable row among e))
    from (Err fault.Unsound) e = absurd (may 5 row.key (NoBlock row among (subst (λ (r : Result Record TextFault). IsBrokenBlock row.revision r) (sym e) refl)))
    from (Err fault.Memory) e = absurd (record-no_memory row.key row.body e)
