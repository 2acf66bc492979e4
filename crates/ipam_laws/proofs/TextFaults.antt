-- What the reading of a text says of a fault, and of a block that is broken.
use Rattle.std.proofs.Common.{◌≡◌, ℕ, Bool, true, false, Result, Ok, Err, refl, sym, ap, ◌∙◌}
use Rattle.std.specs.Prelude.{nat_le}
use Rattle.std.proofs.lemmas.Bool.{leb-true, le-leb}
use Rattle.ipam_records.specs.declared.fault.TextFault.{TextFault}
use Rattle.ipam_records.specs.declared.fault.TextFault.TheVariants as fault
use Rattle.ipam_records.specs.declared.record.Record.{Record}
use Rattle.ipam_records.specs.declared.record.Record.TheVariants as record_of
use Rattle.ipam_model.specs.Opened.{IsBrokenBlock}

-- ---- faults of texts

unfoldable pub is_same_fault : TextFault → TextFault → Bool
is_same_fault fault.Form fault.Form = true
is_same_fault fault.Key fault.Key = true
is_same_fault fault.Table fault.Table = true
is_same_fault fault.Unsound fault.Unsound = true
is_same_fault fault.Memory fault.Memory = true
is_same_fault one other = false

unfoldable pub reads_fault : TextFault → Result Record TextFault → Bool
reads_fault which (Ok found) = false
reads_fault which (Err broken) = is_same_fault which broken

fault-itself : (t : TextFault) → is_same_fault t t ≡ true
unfolding is_same_fault
fault-itself fault.Form = refl
fault-itself fault.Key = refl
fault-itself fault.Table = refl
fault-itself fault.Unsound = refl
fault-itself fault.Memory = refl

fault-same : (one other : TextFault) → is_same_fault one other ≡ true → one ≡ other
unfolding is_same_fault
fault-same fault.Form fault.Form e = refl
fault-same fault.Key fault.Key e = refl
fault-same fault.Table fault.Table e = refl
fault-same fault.Unsound fault.Unsound e = refl
fault-same fault.Memory fault.Memory e = refl
fault-same one other e = absurd (cc e)

pub fault-told : (which : TextFault) (r : Result Record TextFault) → reads_fault which r ≡ true → r ≡ Err which
unfolding reads_fault
fault-told which (Ok found) e = absurd (cc e)
fault-told which (Err broken) e = ap Err (sym (fault-same which broken e))

pub told-fault : (which : TextFault) (r : Result Record TextFault) → r ≡ Err which → reads_fault which r ≡ true
unfolding reads_fault
told-fault which r e = ap (reads_fault which) e ∙ fault-itself which

-- ---- broken blocks

unfoldable pub is_broken : ℕ → Result Record TextFault → Bool
is_broken revision (Ok (record_of.Block b)) = nat_le revision b.sequence
is_broken revision (Ok found) = false
is_broken revision (Err broken) = is_same_fault fault.Unsound broken

pub broken-is : (revision : ℕ) (r : Result Record TextFault) → is_broken revision r ≡ true → IsBrokenBlock revision r
unfolding is_broken
broken-is revision (Ok (record_of.Block b)) e = leb-true revision b.sequence e
broken-is revision (Ok (record_of.Config config)) e = absurd (cc e)
broken-is revision (Ok (record_of.Pools pools)) e = absurd (cc e)
broken-is revision (Ok (record_of.Reservations reservations)) e = absurd (cc e)
broken-is revision (Ok (record_of.Affinity a)) e = absurd (cc e)
broken-is revision (Ok (record_of.Handle handle)) e = absurd (cc e)
broken-is revision (Err broken) e = sym (fault-same fault.Unsound broken e)

pub is-broken : (revision : ℕ) (r : Result Record TextFault) → IsBrokenBlock revision r → is_broken revision r ≡ true
unfolding is_broken is_same_fault
is-broken revision (Ok (record_of.Block b)) h = le-leb revision b.sequence h
is-broken revision (Ok (record_of.Config config)) h = absurd h
is-broken revision (Ok (record_of.Pools pools)) h = absurd h
is-broken revision (Ok (record_of.Reservations reservations)) h = absurd h
is-broken revision (Ok (record_of.Affinity a)) h = absurd h
is-broken revision (Ok (record_of.Handle handle)) h = absurd h
is-broken revision (Err broken) h = ap (λ (t : TextFault). is_same_fault fault.Unsound t) h
