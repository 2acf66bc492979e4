-- A CIDR that is too large for a block has no affinity.
use Rattle.std.proofs.Common.{◌≡◌, ℕ, ◌<◌, ◌≤◌, ◌-◌, ◌^◌, ◌⊎◌, inl, inr, List, Some, None, refl, ap, subst, sym, ◌∙◌, lit<}
use Rattle.std.proofs.Math.Nat.{pow-le-pow_right, sub-le-sub_left, le-pred_of_lt, not-le_of_lt, lt_of_lt_of_le}
use Rattle.std.proofs.lemmas.Bool.{cases_lt}
use Rattle.ipam_addr.specs.Shape.{CidrValue}
use Rattle.ipam_addr.specs.declared.address.Family.{Family}
use Rattle.ipam_addr.specs.declared.address.Family.TheVariants.{V4, V6}
use Rattle.ipam_addr.specs.Slots.{AllowsSize}
use Rattle.ipam_addr.specs.Width.{IsCidr, width, size_of, cidr_size}
use Rattle.ipam_block.specs.declared.limits.TheConstants.{ADDRESSES_MAX}
use Rattle.ipam_records.specs.declared.call.Call.TheVariants.{Get}
use Rattle.ipam_records.specs.declared.key.Key.{Key}
use Rattle.ipam_records.specs.declared.key.Key.TheVariants as key
use Rattle.ipam_records.specs.declared.record.Record.{Record}
use Rattle.ipam_records.specs.declared.record.Record.TheVariants as record_of
use Rattle.ipam_records.specs.Key.{key_of}
use Rattle.ipam_records.specs.Said.{Said, Found, Missing, Listed, Can, Exists, Conflict, Full, Spent}
use Rattle.ipam_records.specs.Hearing.{CanBeSaid, MayHear}
use Rattle.ipam_records.specs.Sound.{IsRecord}
use Rattle.ipam_records.specs.Word.{Word, Ends, next_call, after_reply}
use Rattle.ipam_records.proofs.HearingLemmas.{CanBeSaid-found}
use Rattle.ipam_model.specs.declared.outcome.ReleaseAnswer.TheVariants.{NoAffinity}
use Rattle.ipam_model.specs.declared.outcome.ReleaseAnswer.{ReleaseAnswer}
use Rattle.ipam_model.specs.Affinities.{release, release_found, release_once, release_stops}
use Rattle.ipam_model.specs.Step.{all_left, as_word}
use Rattle.ipam_parts.specs.declared.release.Stage.TheVariants.{Reads}
use Rattle.ipam_parts.specs.declared.release.Reading.TheVariants as reading
use Rattle.ipam_parts.specs.Release.{release_at, release_again}
use Rattle.ipam_parts.proofs.TryLaws.{retried_once}
use Rattle.ipam_model.specs.Reads.{affinity_said}

-- the first try
begins : (node : List ℕ) (cidr : CidrValue)
    → release_at (record { node = node; block = cidr }) all_left (Reads reading.Affinity) ≡ release node cidr
begins node cidr =
    ap (as_word release_stops) (sym (retried_once (release_once (record { node = node; block = cidr })) all_left))

-- the first call reads the affinity
pub absent_asks : (node : List ℕ) (cidr : CidrValue) → next_call (release node cidr) ≡ Some (Get (key.Affinity node cidr))
absent_asks node cidr = ap next_call (sym (begins node cidr))

abbrev cidr_in : Key → CidrValue → CidrValue
cidr_in (key.Affinity node cidr) other = cidr
cidr_in _ other = other

none_found : (node : List ℕ) (cidr : CidrValue) (found : Record) → ADDRESSES_MAX < cidr_size cidr → IsRecord found
    → key_of found ≡ key.Affinity node cidr → (revision : ℕ) → affinity_said (Found revision found) ≡ None
none_found node cidr (record_of.Affinity a) large sound is revision =
    let same : a.cidr ≡ cidr = ap (λ k. cidr_in k cidr) is in
    let small : cidr_size cidr ≤ ADDRESSES_MAX = subst (λ (c : CidrValue). cidr_size c ≤ ADDRESSES_MAX) same sound.range.small in
    absurd (not-le_of_lt large small)
none_found node cidr (record_of.Config c) large sound is revision = refl
none_found node cidr (record_of.Pools c) large sound is revision = refl
none_found node cidr (record_of.Reservations c) large sound is revision = refl
none_found node cidr (record_of.Block c) large sound is revision = refl
none_found node cidr (record_of.Handle c) large sound is revision = refl

nothing_said : (node : List ℕ) (cidr : CidrValue) (said : Said) → ADDRESSES_MAX < cidr_size cidr
    → CanBeSaid (Get (key.Affinity node cidr)) said → affinity_said said ≡ None
nothing_said node cidr (Found revision found) large can =
    let told = CanBeSaid-found (key.Affinity node cidr) revision found can in
    none_found node cidr found large told.0.is_record told.1 revision
nothing_said node cidr Missing large can = refl
nothing_said node cidr (Listed rows) large can = refl
nothing_said node cidr (Can revision) large can = refl
nothing_said node cidr (Exists revision) large can = refl
nothing_said node cidr (Conflict revision) large can = refl
nothing_said node cidr Full large can = refl
nothing_said node cidr Spent large can = refl

at_none : (node : List ℕ) (cidr : CidrValue) (moment : ℕ) (said : Said) → affinity_said said ≡ None
    → after_reply (release_at (record { node = node; block = cidr }) all_left (Reads reading.Affinity)) moment said ≡ Ends (NoAffinity moment)
at_none node cidr moment said none = ap (λ found. as_word release_stops (release_found (record { node = node; block = cidr })
    (release_again (record { node = node; block = cidr }) all_left) all_left moment found)) none

-- the read decides
pub absent_hears : (node : List ℕ) (cidr : CidrValue) (moment : ℕ) (said : Said) → ADDRESSES_MAX < cidr_size cidr
    → MayHear (release node cidr) said → Ends (NoAffinity moment) ≡ after_reply (release node cidr) moment said
absent_hears node cidr moment said large may =
    let whole = begins node cidr in
    let can : MayHear (release_at (record { node = node; block = cidr }) all_left (Reads reading.Affinity)) said =
    subst (λ (w : Word ReleaseAnswer). MayHear w said) (sym whole) may in
    sym (at_none node cidr moment said (nothing_said node cidr said large can.0))
    ∙ ap (λ (w : Word ReleaseAnswer). after_reply w moment said) whole

sized : (family : Family) (prefix : ℕ) → AllowsSize family prefix → size_of family prefix ≤ 2 ^ 12
sized V4 prefix allowed = pow-le-pow_right (lit< tt) {i = 32 - prefix} {j = 12} (sub-le-sub_left allowed.0 32)
sized V6 prefix allowed = pow-le-pow_right (lit< tt) {i = 128 - prefix} {j = 12} (sub-le-sub_left allowed.0 128)

oversized : (family : Family) (prefix : ℕ) → prefix ≤ width family → (AllowsSize family prefix → ⊥) → 2 ^ 13 ≤ size_of family prefix
oversized V4 prefix fits not = pow-le-pow_right (lit< tt) {i = 13} {j = 32 - prefix} (below (cases_lt prefix 20))
  where
    below : (prefix < 20) ⊎ (20 ≤ prefix) → 13 ≤ 32 - prefix
    below (inl less) = sub-le-sub_left (le-pred_of_lt less) 32
    below (inr more) = absurd (not (more, fits))
oversized V6 prefix fits not = pow-le-pow_right (lit< tt) {i = 13} {j = 128 - prefix} (below (cases_lt prefix 116))
  where
    below : (prefix < 116) ⊎ (116 ≤ prefix) → 13 ≤ 128 - prefix
    below (inl less) = sub-le-sub_left (le-pred_of_lt less) 128
    below (inr more) = absurd (not (more, fits))

-- the CIDR of a block, by its prefix
pub block_sized : (cidr : CidrValue) → AllowsSize cidr.family cidr.prefix → cidr_size cidr ≤ ADDRESSES_MAX
block_sized cidr allowed = sized cidr.family cidr.prefix allowed

pub too_large : (cidr : CidrValue) → IsCidr cidr → (AllowsSize cidr.family cidr.prefix → ⊥) → ADDRESSES_MAX < cidr_size cidr
too_large cidr sound not = lt_of_lt_of_le (lit< tt) (oversized cidr.family cidr.prefix sound.prefix_fits not)
