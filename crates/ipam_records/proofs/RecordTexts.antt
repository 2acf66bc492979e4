-- Records and their texts.
use Rattle.std.proofs.Common.{◌≡◌, ◌≢◌, ℕ, Bool, true, false, List, Option, Some, None, option_map, Result, Ok, Err, IfOk, IfErr, bytes_eq, cond, inl, inr, refl, sym, ap, ◌∙◌, subst, arith}
use Rattle.std.specs.Option.{ok_or}
use Rattle.std.proofs.lemmas.Bool.{cases_Bool}
use Rattle.std.proofs.lemmas.Slice.Eq.{bytes_eq-Decides}
use Rattle.ipam_addr.specs.Shape.{CidrValue}
use Rattle.ipam_addr.specs.Width.{IsCidr}
use Rattle.ipam_block.specs.Shape as block
use Rattle.ipam_block_text.specs.declared.fault.BodyFault as block_fault
use Rattle.ipam_block_text.specs.declared.fault.BodyFault.TheVariants as in_block
use Rattle.ipam_block_text.specs.Reading.{block_reading, cidr_said}
use Rattle.ipam_block_text.proofs.Exact.{sound_block_read, unsound_said}
use Rattle.ipam_block_text.proofs.Sound.{block_reading-ok}
use Rattle.ipam_record_text.specs.declared.fault.BodyFault.{BodyFault}
use Rattle.ipam_record_text.specs.declared.fault.BodyFault.TheVariants as in_body
use Rattle.ipam_record_text.specs.Config.{config_reading}
use Rattle.ipam_record_text.specs.Pools.{pools_reading, HasRefusedPool}
use Rattle.ipam_record_text.specs.Reservations.{reservations_reading}
use Rattle.ipam_record_text.specs.Affinity.{affinity_reading}
use Rattle.ipam_record_text.specs.Handle.{handle_reading}
use Rattle.ipam_record_text.proofs.Configs.{config_read, config_reads_back}
use Rattle.ipam_record_text.proofs.PoolTables.{pools_read, pools_reads_back, table_unread}
use Rattle.ipam_record_text.proofs.ReservationLists.{reservations_read, reservations_reads_back}
use Rattle.ipam_record_text.proofs.Affinities.{affinity_read, affinity_reads_back}
use Rattle.ipam_record_text.proofs.Handles.{handle_read, handle_reads_back}
use Rattle.ipam_records.specs.declared.fault.TextFault.{TextFault}
use Rattle.ipam_records.specs.declared.fault.TextFault.TheVariants as fault
use Rattle.ipam_records.specs.declared.key.Key.{Key}
use Rattle.ipam_records.specs.declared.key.Key.TheVariants as key_of_kind
use Rattle.ipam_records.specs.declared.key_ref.KeyRef.{KeyRef}
use Rattle.ipam_records.specs.declared.record.Record.{Record}
use Rattle.ipam_records.specs.declared.record.Record.TheVariants.{Config, Pools, Reservations, Block, Affinity, Handle}
use Rattle.ipam_records.specs.Key.{key_of}
use Rattle.ipam_records.specs.KeyOrder.{key_rank}
use Rattle.ipam_records.specs.KeyRef.{owned_key}
use Rattle.ipam_records.specs.KeyText.{key_bytes, key_read, IsKey}
use Rattle.ipam_records.specs.Body.{body_of}
use Rattle.ipam_records.specs.RecordReading.{fault_of_body, unsound_fault, fault_of_block, if_key, keyed, keyed_block, reading_of_kind, reading_at, record_reading, SaysAnotherKey, SaysBlock}
use Rattle.ipam_records.specs.Sound.{IsRecord}
use Rattle.ipam_records.proofs.KeyTextLemmas.{key_read-key_bytes, key_bytes_injective, IsTextOf-key_read}

text_is : (xs ys : List ℕ) → bytes_eq xs ys ≡ true → xs ≡ ys
text_is xs ys e = (bytes_eq-Decides xs ys).0 e

differs : (xs ys : List ℕ) → bytes_eq xs ys ≡ false → xs ≢ ys
differs xs ys e same = let equal = (bytes_eq-Decides xs ys).1 same in absurd cc

-- ---- a sound record is read from its texts

-- the key of a sound record is sound
pub IsKey-key_of : (r : Record) → IsRecord r → IsKey (key_of r)
IsKey-key_of (Config config) h = tt
IsKey-key_of (Pools pools) h = tt
IsKey-key_of (Reservations reservations) h = tt
IsKey-key_of (Block b) h = h.block.range
IsKey-key_of (Affinity affinity) h = (h.node, h.range.range)
IsKey-key_of (Handle handle) h = h.id

-- a sound record's body is read as the record, by each key of its kind
pub reading_of_body : (named : Key) (r : Record) (key : List ℕ) → IsRecord r → key_rank (key_of r) ≡ key_rank named → reading_of_kind named key (body_of r) ≡ if_key key r
reading_of_body key_of_kind.Config (Config config) key h e = ap (keyed Config key) (config_reads_back config h)
reading_of_body key_of_kind.Config _ key h e = absurd (omega arith)
reading_of_body key_of_kind.Pools (Pools pools) key h e = ap (keyed Pools key) (pools_reads_back pools h)
reading_of_body key_of_kind.Pools _ key h e = absurd (omega arith)
reading_of_body key_of_kind.Reservations (Reservations list) key h e = ap (keyed Reservations key) (reservations_reads_back list h)
reading_of_body key_of_kind.Reservations _ key h e = absurd (omega arith)
reading_of_body (key_of_kind.Block cidr) (Block b) key h e = ap (keyed_block key) (sound_block_read b h)
reading_of_body (key_of_kind.Block cidr) _ key h e = absurd (omega arith)
reading_of_body (key_of_kind.Affinity node cidr) (Affinity affinity) key h e = ap (keyed Affinity key) (affinity_reads_back affinity h)
reading_of_body (key_of_kind.Affinity node cidr) _ key h e = absurd (omega arith)
reading_of_body (key_of_kind.Handle id) (Handle handle) key h e = ap (keyed Handle key) (handle_reads_back handle h)
reading_of_body (key_of_kind.Handle id) _ key h e = absurd (omega arith)

if_key_own : (r : Record) → if_key (key_bytes (key_of r)) r ≡ Ok r
if_key_own r = ap (λ t. cond t (Ok r) (Err fault.Key)) ((bytes_eq-Decides (key_bytes (key_of r)) (key_bytes (key_of r))).1 refl)

pub record_reads_back : (r : Record) → IsRecord r → record_reading (key_bytes (key_of r)) (body_of r) ≡ Ok r
unfolding record_reading
record_reads_back r h =
    let key = key_bytes (key_of r) in
    ap (λ o. reading_at o key (body_of r)) (key_read-key_bytes (key_of r) (IsKey-key_of r h))
    ∙ reading_of_body (key_of r) r key h refl ∙ if_key_own r

-- no two sound records have the same texts
pub one_record : (r s : Record) → IsRecord r → IsRecord s → key_bytes (key_of r) ≡ key_bytes (key_of s) → body_of r ≡ body_of s → r ≡ s
one_record r s h k keys bodies =
    same r s (sym (record_reads_back r h) ∙ ap (λ key. record_reading key (body_of r)) keys ∙ ap (record_reading (key_bytes (key_of s))) bodies ∙ record_reads_back s k)
  where
    same : (x y : Record) → ◌≡◌ {A = Result Record TextFault} (Ok x) (Ok y) → x ≡ y
    same x y e = cc

-- ---- what is read is sound, and has the texts

pub record HasTexts (key body : List ℕ) (r : Record) : Type 0 where
  pub sound : IsRecord r
  pub own : key_bytes (key_of r) ≡ key
  pub said : body ≡ body_of r

if_key-ok : (key : List ℕ) (found r : Record) → if_key key found ≡ Ok r → (found ≡ r) × (key_bytes (key_of found) ≡ key)
if_key-ok key found r e = go (bytes_eq (key_bytes (key_of found)) key) refl e
  where
    same : (x y : Record) → ◌≡◌ {A = Result Record TextFault} (Ok x) (Ok y) → x ≡ y
    same x y k = cc

    go : (t : Bool) → bytes_eq (key_bytes (key_of found)) key ≡ t → cond t (Ok found) (Err fault.Key) ≡ Ok r → (found ≡ r) × (key_bytes (key_of found) ≡ key)
    go true is k = (same found r k, text_is _ _ is)
    go false is k = absurd cc

has_texts : (key body : List ℕ) (found r : Record) → IsRecord found → body ≡ body_of found → if_key key found ≡ Ok r → HasTexts key body r
has_texts key body found r sound is e =
    let kept = if_key-ok key found r e in
    subst (HasTexts key body) kept.0 (record { sound = sound; own = kept.1; said = is })

keyed-ok : {A : Type 0} (make : A → Record) (key body : List ℕ) (o : Result A BodyFault) (r : Record) → ((v : A) → o ≡ Ok v → IsRecord (make v) × (body ≡ body_of (make v))) → keyed make key o ≡ Ok r → HasTexts key body r
keyed-ok make key body (Ok v) r sound e = let is = sound v refl in has_texts key body (make v) r is.0 is.1 e
keyed-ok make key body (Err f) r sound e = absurd cc

block-ok : (key body : List ℕ) (o : Result block.BlockValue block_fault.BodyFault) (r : Record) → ((v : block.BlockValue) → o ≡ Ok v → IsRecord (Block v) × (body ≡ body_of (Block v))) → keyed_block key o ≡ Ok r → HasTexts key body r
block-ok key body (Ok v) r sound e = let is = sound v refl in has_texts key body (Block v) r is.0 is.1 e
block-ok key body (Err f) r sound e = absurd cc

config_found : (body : List ℕ) (v : _) → config_reading body ≡ Ok v → IsRecord (Config v) × (body ≡ body_of (Config v))
config_found body v e = let is = config_read body v e in (is.1, is.0)

pools_found : (body : List ℕ) (v : _) → pools_reading body ≡ Ok v → IsRecord (Pools v) × (body ≡ body_of (Pools v))
pools_found body v e = let is = pools_read body v e in (is.1, is.0)

reservations_found : (body : List ℕ) (v : _) → reservations_reading body ≡ Ok v → IsRecord (Reservations v) × (body ≡ body_of (Reservations v))
reservations_found body v e = let is = reservations_read body v e in (is.1, is.0)

block_found : (body : List ℕ) (v : _) → block_reading body ≡ Ok v → IsRecord (Block v) × (body ≡ body_of (Block v))
block_found body v e = let is = block_reading-ok body v e in (is.1, is.0)

affinity_found : (body : List ℕ) (v : _) → affinity_reading body ≡ Ok v → IsRecord (Affinity v) × (body ≡ body_of (Affinity v))
affinity_found body v e = let is = affinity_read body v e in (is.1, is.0)

handle_found : (body : List ℕ) (v : _) → handle_reading body ≡ Ok v → IsRecord (Handle v) × (body ≡ body_of (Handle v))
handle_found body v e = let is = handle_read body v e in (is.1, is.0)

kind_read : (named : Key) (key body : List ℕ) (r : Record) → reading_of_kind named key body ≡ Ok r → HasTexts key body r
kind_read key_of_kind.Config key body r e = keyed-ok Config key body (config_reading body) r (config_found body) e
kind_read key_of_kind.Pools key body r e = keyed-ok Pools key body (pools_reading body) r (pools_found body) e
kind_read key_of_kind.Reservations key body r e = keyed-ok Reservations key body (reservations_reading body) r (reservations_found body) e
kind_read (key_of_kind.Block cidr) key body r e = block-ok key body (block_reading body) r (block_found body) e
kind_read (key_of_kind.Affinity node cidr) key body r e = keyed-ok Affinity key body (affinity_reading body) r (affinity_found body) e
kind_read (key_of_kind.Handle id) key body r e = keyed-ok Handle key body (handle_reading body) r (handle_found body) e

pub record_read : (key body : List ℕ) (r : Record) → record_reading key body ≡ Ok r → HasTexts key body r
unfolding record_reading
record_read key body r e = go (key_read key) e
  where
    go : (o : Option Key) → reading_at o key body ≡ Ok r → HasTexts key body r
    go None k = absurd cc
    go (Some named) k = kind_read named key body r k

-- ---- what the faults mean

-- no sound record with these texts is refused
pub refused_exact : (key body : List ℕ) (e : TextFault) → record_reading key body ≡ Err e → (r : Record) → IsRecord r → key_bytes (key_of r) ≡ key → body ≢ body_of r
refused_exact key body e refused r h own same =
    let read = ap (λ k. record_reading k (body_of r)) (sym own) ∙ record_reads_back r h in
    let other = ap (record_reading key) (sym same) ∙ refused in
    absurd cc

if_key_formed : (key : List ℕ) (r : Record) → if_key key r ≢ Err fault.Form
if_key_formed key r e = go (bytes_eq (key_bytes (key_of r)) key) e
  where
    go : (t : Bool) → cond t (Ok r) (Err fault.Key) ≢ Err fault.Form
    go true k = absurd cc
    go false k = absurd cc

pub form_exact : (key body : List ℕ) → record_reading key body ≡ Err fault.Form → (named : Key) → key_read key ≡ Some named → (r : Record) → IsRecord r → key_rank (key_of r) ≡ key_rank named → body ≢ body_of r
unfolding record_reading
form_exact key body refused named read r h kind same =
    if_key_formed key r (sym (reading_of_body named r key h kind) ∙ ap (reading_of_kind named key) (sym same) ∙ sym (ap (λ o. reading_at o key body) read) ∙ refused)

-- a fault that a sound record leads to is that of its key
if_key_fault : (key body : List ℕ) (r : Record) (e : TextFault) → IsRecord r → body ≡ body_of r → if_key key r ≡ Err e → (e ≡ fault.Key) × SaysAnotherKey key body
if_key_fault key body r e h is refused = go (bytes_eq (key_bytes (key_of r)) key) refl refused
  where
    same : (x y : TextFault) → ◌≡◌ {A = Result Record TextFault} (Err x) (Err y) → x ≡ y
    same x y k = cc

    go : (t : Bool) → bytes_eq (key_bytes (key_of r)) key ≡ t → cond t (Ok r) (Err fault.Key) ≡ Err e → (e ≡ fault.Key) × SaysAnotherKey key body
    go true test k = absurd cc
    go false test k = (sym (same fault.Key e k), record { own = key_of r; said = inl (r, h, is, refl); other = differs _ _ test })

-- what a fault tells
abbrev pub FaultMeans : (key body : List ℕ) → TextFault → Type 0
FaultMeans key body fault.Form = Unit {0}
FaultMeans key body fault.Key = SaysAnotherKey key body
FaultMeans key body fault.Table = HasRefusedPool body
FaultMeans key body fault.Unsound = SaysBlock key body
FaultMeans key body fault.Memory = Unit {0}

told_key : (key body : List ℕ) (r : Record) (e : TextFault) → IsRecord r → body ≡ body_of r → if_key key r ≡ Err e → FaultMeans key body e
told_key key body r e h is refused =
    let found = if_key_fault key body r e h is refused in
    subst (FaultMeans key body) (sym found.0) found.1

fault_same : (x y : TextFault) → ◌≡◌ {A = Result Record TextFault} (Err x) (Err y) → x ≡ y
fault_same x y k = cc

keyed_told : {A : Type 0} (make : A → Record) (key body : List ℕ) (o : Result A BodyFault) (e : TextFault) → ((v : A) → o ≡ Ok v → IsRecord (make v) × (body ≡ body_of (make v))) → (o ≡ Err in_body.Table → HasRefusedPool body) → keyed make key o ≡ Err e → FaultMeans key body e
keyed_told make key body (Ok v) e sound table k = let is = sound v refl in told_key key body (make v) e is.0 is.1 k
keyed_told make key body (Err in_body.Form) e sound table k = subst (FaultMeans key body) (fault_same fault.Form e k) tt
keyed_told make key body (Err in_body.Table) e sound table k = subst (FaultMeans key body) (fault_same fault.Table e k) (table refl)
keyed_told make key body (Err in_body.Memory) e sound table k = subst (FaultMeans key body) (fault_same fault.Memory e k) tt

unsound_told : (key body : List ℕ) (cidr : CidrValue) → cidr_said body ≡ Some cidr → FaultMeans key body (unsound_fault key cidr)
unsound_told key body cidr said = go (bytes_eq (key_bytes (key_of_kind.Block cidr)) key) refl
  where
    go : (t : Bool) → bytes_eq (key_bytes (key_of_kind.Block cidr)) key ≡ t → FaultMeans key body (cond t fault.Unsound fault.Key)
    go true test = record { cidr = cidr; said = said; own = text_is _ _ test }
    go false test = record { own = key_of_kind.Block cidr; said = inr (cidr, said, refl); other = differs _ _ test }

block_told : (key body : List ℕ) (o : Result block.BlockValue block_fault.BodyFault) (e : TextFault) → block_reading body ≡ o → keyed_block key o ≡ Err e → FaultMeans key body e
block_told key body (Ok v) e is k = let found = block_found body v is in told_key key body (Block v) e found.0 found.1 k
block_told key body (Err in_block.Form) e is k = subst (FaultMeans key body) (fault_same fault.Form e k) tt
block_told key body (Err (in_block.Unsound cidr)) e is k = subst (FaultMeans key body) (fault_same (unsound_fault key cidr) e k) (unsound_told key body cidr (unsound_said body cidr is))
block_told key body (Err in_block.Memory) e is k = subst (FaultMeans key body) (fault_same fault.Memory e k) tt

no_table : {A : Type 0} (o : Option A) → ok_or o in_body.Form ≢ Err in_body.Table
no_table None e = cc
no_table (Some v) e = cc

config_table : (body : List ℕ) → config_reading body ≡ Err in_body.Table → HasRefusedPool body
unfolding config_reading
config_table body e = absurd (no_table _ e)

reservations_table : (body : List ℕ) → reservations_reading body ≡ Err in_body.Table → HasRefusedPool body
unfolding reservations_reading
reservations_table body e = absurd (no_table _ e)

affinity_table : (body : List ℕ) → affinity_reading body ≡ Err in_body.Table → HasRefusedPool body
unfolding affinity_reading
affinity_table body e = absurd (no_table _ e)

handle_table : (body : List ℕ) → handle_reading body ≡ Err in_body.Table → HasRefusedPool body
unfolding handle_reading
handle_table body e = absurd (no_table _ e)

kind_told : (named : Key) (key body : List ℕ) (e : TextFault) → reading_of_kind named key body ≡ Err e → FaultMeans key body e
kind_told key_of_kind.Config key body e k = keyed_told Config key body (config_reading body) e (config_found body) (config_table body) k
kind_told key_of_kind.Pools key body e k = keyed_told Pools key body (pools_reading body) e (pools_found body) (table_unread body) k
kind_told key_of_kind.Reservations key body e k = keyed_told Reservations key body (reservations_reading body) e (reservations_found body) (reservations_table body) k
kind_told (key_of_kind.Block cidr) key body e k = block_told key body (block_reading body) e refl k
kind_told (key_of_kind.Affinity node cidr) key body e k = keyed_told Affinity key body (affinity_reading body) e (affinity_found body) (affinity_table body) k
kind_told (key_of_kind.Handle id) key body e k = keyed_told Handle key body (handle_reading body) e (handle_found body) (handle_table body) k

pub fault_told : (key body : List ℕ) (e : TextFault) → record_reading key body ≡ Err e → FaultMeans key body e
unfolding record_reading
fault_told key body e refused = go (key_read key) refused
  where
    go : (o : Option Key) → reading_at o key body ≡ Err e → FaultMeans key body e
    go None k = subst (FaultMeans key body) (fault_same fault.Form e k) tt
    go (Some named) k = kind_told named key body e k

-- ---- what the readers of bodies tell

module _ {A : Type 0} (make : A → Record) (key : List ℕ) (read told : Result A BodyFault) (same : told ≢ Err in_body.Memory → read ≡ told) where
  pub keyed-kept : (v : A) (r : Result Record TextFault) → told ≡ Ok v → r ≡ if_key key (make v) → r ≢ Err fault.Memory → keyed make key read ≡ r
  keyed-kept v r is found other = ap (keyed make key) (same (λ k. cc) ∙ is) ∙ sym found

  pub keyed-fault : (f : BodyFault) (e : TextFault) → told ≡ Err f → e ≡ fault_of_body f → ◌≢◌ {A = Result Record TextFault} (Err e) (Err fault.Memory) → keyed make key read ≡ Err e
  keyed-fault f e is names other =
      let some : told ≢ Err in_body.Memory = λ k.
      let memory : f ≡ in_body.Memory = cc in
      other (ap Err (names ∙ ap fault_of_body memory)) in
      ap (keyed make key) (same some ∙ is) ∙ ap Err (sym names)

module _ (key : List ℕ) (read told : Result block.BlockValue block_fault.BodyFault) (same : told ≢ Err in_block.Memory → read ≡ told) where
  pub block-kept : (b : block.BlockValue) (r : Result Record TextFault) → told ≡ Ok b → r ≡ if_key key (Block b) → r ≢ Err fault.Memory → keyed_block key read ≡ r
  block-kept b r is found other = ap (keyed_block key) (same (λ k. cc) ∙ is) ∙ sym found

  pub block-fault : (f : block_fault.BodyFault) (e : TextFault) → told ≡ Err f → e ≡ fault_of_block key f → ◌≢◌ {A = Result Record TextFault} (Err e) (Err fault.Memory) → keyed_block key read ≡ Err e
  block-fault f e is names other =
      let some : told ≢ Err in_block.Memory = λ k.
      let memory : f ≡ in_block.Memory = cc in
      other (ap Err (names ∙ ap (fault_of_block key) memory)) in
      ap (keyed_block key) (same some ∙ is) ∙ ap Err (sym names)

pub record-ok : (x r : Result Record TextFault) → (r ≢ Err fault.Memory → x ≡ r) → IfOk r (λ found. x ≡ Ok found)
record-ok x (Ok found) e = e (λ k. cc)
record-ok x (Err f) e = tt

pub record-err : (x r : Result Record TextFault) → (r ≢ Err fault.Memory → x ≡ r) → IfErr r (λ e. e ≢ fault.Memory → x ≡ Err e)
record-err x (Ok found) e = tt
record-err x (Err f) e = λ other. e (λ k. other (fault_same f fault.Memory k))

-- ---- keys that are compared, and their texts

-- the texts of two sound keys are one where the keys are
pub texts_of_one_key : (own named : Key) → named ≡ own → bytes_eq (key_bytes own) (key_bytes named) ≡ true
texts_of_one_key own named same = (bytes_eq-Decides (key_bytes own) (key_bytes named)).1 (ap key_bytes (sym same))

pub texts_of_two_keys : (own named : Key) → IsKey own → IsKey named → named ≢ own → bytes_eq (key_bytes own) (key_bytes named) ≡ false
texts_of_two_keys own named h k other = elim (cases_Bool (bytes_eq (key_bytes own) (key_bytes named))) [
  | inl one ↦ absurd (other (sym (key_bytes_injective own named h k (text_is _ _ one))))
  | inr two ↦ two
]

pub kept_by_key : (named : Key) (r : Record) → named ≡ key_of r → if_key (key_bytes named) r ≡ Ok r
kept_by_key named r same = ap (λ t. cond t (Ok r) (Err fault.Key)) (texts_of_one_key (key_of r) named same)

pub refused_by_key : (named : Key) (r : Record) → IsKey named → IsRecord r → named ≢ key_of r → if_key (key_bytes named) r ≡ Err fault.Key
refused_by_key named r h is other = ap (λ t. cond t (Ok r) (Err fault.Key)) (texts_of_two_keys (key_of r) named (IsKey-key_of r is) h other)

pub unsound_by_key : (named : Key) (cidr : CidrValue) → named ≡ key_of_kind.Block cidr → unsound_fault (key_bytes named) cidr ≡ fault.Unsound
unsound_by_key named cidr same = ap (λ t. cond t fault.Unsound fault.Key) (texts_of_one_key (key_of_kind.Block cidr) named same)

pub another_by_key : (named : Key) (cidr : CidrValue) → IsKey named → IsCidr cidr → named ≢ key_of_kind.Block cidr → unsound_fault (key_bytes named) cidr ≡ fault.Key
another_by_key named cidr h is other = ap (λ t. cond t fault.Unsound fault.Key) (texts_of_two_keys (key_of_kind.Block cidr) named is h other)

-- what is read with a key that was read is what is read with its text
pub reading_named : (key body : List ℕ) (named : Key) → key_read key ≡ Some named → record_reading key body ≡ reading_of_kind named (key_bytes named) body
unfolding record_reading
reading_named key body named read =
    ap (λ o. reading_at o key body) read ∙ ap (λ k. reading_of_kind named k body) (sym (IsTextOf-key_read key named read).spelled)

pub named_read : {E : Type 0} (r : Result (Option KeyRef) E) (named : KeyRef) (text key : List ℕ) → r ≡ Ok (Some named) → IfOk r (λ found. option_map owned_key found ≡ key_read text) → text ≡ key → key_read key ≡ Some (owned_key named)
named_read r named text key is read same =
    let found = subst (λ r. IfOk r (λ found. option_map owned_key found ≡ key_read text)) is read in
    ap key_read (sym same) ∙ sym found
