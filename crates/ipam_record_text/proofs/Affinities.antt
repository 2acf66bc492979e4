-- An affinity's body is read back.
use Rattle.std.proofs.Common.{◌≡◌, ℕ, List, codes, Option, Some, None, option_map, Ok, Result, Err, IfOk, ◌≢◌, refl, sym, ap, arith}
use Rattle.std.specs.Option.{ok_or}
use Rattle.serde_json.specs.Data.{Data}
use Rattle.serde_json.specs.Read.{read}
use Rattle.ipam_addr.specs.Shape.{CidrValue}
use Rattle.ipam_block.specs.declared.record.Affinity.{Affinity}
use Rattle.ipam_block.specs.declared.state.State.{State}
use Rattle.ipam_block.specs.declared.state.State.TheVariants.{Pending, Confirmed, PendingDeletion}
use Rattle.ipam_block.specs.State.{state_of, state_text}
use Rattle.ipam_json.specs.Canonical.{IsCanonical}
use Rattle.ipam_json.proofs.ReadsBack.{read-compact_text}
use Rattle.ipam_record_text.specs.declared.fault.BodyFault.{BodyFault}
use Rattle.ipam_record_text.specs.declared.fault.BodyFault.TheVariants.{Form, Table, Memory}
use Rattle.ipam_record_text.specs.Blocks.{block_cidr_at, name_at}
use Rattle.ipam_json.specs.Held.{held}
use Rattle.ipam_json.specs.Members.{◌>>=◌}
use Rattle.ipam_record_text.specs.Affinity.{affinity_data, affinity_body, affinity_in, affinity_reading, state_at, IsAffinityRecord}
use Rattle.ipam_record_text.proofs.Held.{reading-held, unheld-text, reading-told}
use Rattle.ipam_json.proofs.Held.{held-was, held-text}
use Rattle.ipam_record_text.proofs.Parts.{block_at-is, block_of-text, name_at-is, name_of-name}

-- the parts of an affinity that was found
parts : (cidr : Option CidrValue) (name : Option (List ℕ)) (state : Option State) (a : Affinity) → (cidr >>= λ c. name >>= λ n. state >>= λ s. Some (record { node = n; cidr = c; state = s })) ≡ Some a → (cidr ≡ Some a.cidr) × (name ≡ Some a.node)
parts (Some c) (Some n) (Some s) a e = (ap (option_map (λ (k : Affinity). k.cidr)) e, ap (option_map (λ (k : Affinity). k.node)) e)
parts (Some c) (Some n) None a e = cc
parts (Some c) None state a e = cc
parts None name state a e = cc

affinity_in-sound : (d : Data) (a : Affinity) → affinity_in d ≡ Some a → IsAffinityRecord a
unfolding affinity_in
affinity_in-sound d a e =
    let (cidr, node) = parts (block_cidr_at (codes "cidr") d) (name_at (codes "node") d) (state_at (codes "state") d) a e in
    record { node = name_at-is (codes "node") d a.node node; range = block_at-is (codes "cidr") d a.cidr cidr }

pub affinity_held : (body : List ℕ) (a : Affinity) → held affinity_in affinity_body body ≡ Some a → IsAffinityRecord a × (body ≡ affinity_body a)
affinity_held body a e =
    let was = held-was affinity_in affinity_body body a e in
    (affinity_in-sound was.json a was.was_found, sym was.is_text)

pub affinity_read : (body : List ℕ) (a : Affinity) → affinity_reading body ≡ Ok a → (body ≡ affinity_body a) × IsAffinityRecord a
unfolding affinity_reading
affinity_read body a e = let is = affinity_held body a (reading-held _ a e) in (is.1, is.0)

affinity_data-IsCanonical : (a : Affinity) → IsCanonical (affinity_data a)
unfolding affinity_data
affinity_data-IsCanonical a = record {
  regular = (refl, tt, (refl, tt, (tt, tt, tt)));
  shallow = omega arith;
}

state_of-state_text : (s : State) → state_of (state_text s) ≡ Some s
state_of-state_text Pending = refl
state_of-state_text Confirmed = refl
state_of-state_text PendingDeletion = refl

affinity_in-affinity_data : (a : Affinity) → IsAffinityRecord a → affinity_in (affinity_data a) ≡ Some a
unfolding affinity_in affinity_data
affinity_in-affinity_data a h = rw (block_of-text a.cidr h.range, name_of-name a.node h.node, state_of-state_text a.state) refl

read-affinity_body : (a : Affinity) → read (affinity_body a) ≡ Some (affinity_data a)
unfolding affinity_body
read-affinity_body a = read-compact_text (affinity_data a) (affinity_data-IsCanonical a)

affinity_body_held : (a : Affinity) → IsAffinityRecord a → held affinity_in affinity_body (affinity_body a) ≡ Some a
affinity_body_held a h =
    held-text affinity_in affinity_body a (affinity_data a) (read-affinity_body a) (affinity_in-affinity_data a h)

pub affinity_reads_back : (a : Affinity) → IsAffinityRecord a → affinity_reading (affinity_body a) ≡ Ok a
unfolding affinity_reading
affinity_reads_back a h = ap (λ o. ok_or o Form) (affinity_body_held a h)

-- a body in which none is held is no sound one's
pub affinity_unheld : (body : List ℕ) → held affinity_in affinity_body body ≡ None → (a : Affinity) → IsAffinityRecord a → body ≢ affinity_body a
affinity_unheld body none a sound = unheld-text affinity_in affinity_body body none a (affinity_body_held a sound)

-- what `affinity_of` tells of a body is what is read of it
pub affinity_reading-told : (body : List ℕ) (r : Result Affinity BodyFault) → IfOk r (λ a. IsAffinityRecord a × (body ≡ affinity_body a)) → (r ≡ Err Form → (a : Affinity) → IsAffinityRecord a → body ≢ affinity_body a) → r ≢ Err Table → r ≢ Err Memory → affinity_reading body ≡ r
unfolding affinity_reading
affinity_reading-told body r = reading-told affinity_in affinity_body IsAffinityRecord affinity_held affinity_body_held body r
