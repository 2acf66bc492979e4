-- How a call with its standard input went.
use Rattle.std.proofs.Common.{◌≡◌, ℕ, List, Option, None, inl, inr, refl, sym, subst}
use Rattle.ipam_records.specs.declared.call.Row.{Row as RowText}
use Rattle.cni_types.specs.Reading.{Pair}
use Rattle.cni_types.specs.declared.version.Version.{Version}
use Rattle.cni_types.specs.declared.version.Version.TheVariants.{V1_0_0}
use Rattle.ipam_command.specs.declared.cni_end.CniEnd.{CniEnd}
use Rattle.ipam_command.specs.declared.cni_end.CniEnd.TheVariants.{Told, Failed}
use Rattle.ipam_command.specs.declared.cni_end.CniFault.TheVariants.{Read, Undecodable, Keeper, Memory}
use Rattle.ipam_command.specs.Calls.{CallEnds, InputEnds, IsInVersion, IsInput, IsMadeWithInput, IsUnread, CniCallWent}
use Rattle.ipam_keeper.specs.Outside.{Outside, outside_of, without_sink}

-- there was no memory to read the configuration
pub unread_went : (same : Type 0) (env : List Pair) (old new : Outside) → new.read_faults ≡ old.read_faults → new.keeper_faults ≡ old.keeper_faults → new.rows ≡ old.rows → same → CniCallWent same env (Failed V1_0_0 Memory) old new
unread_went same env old new input faults rows keeper = inl (record { in_version = refl; input_faults = input; keeper_faults = faults; rows = rows; keeper = keeper })

-- it was made with what was read
made : (same : Type 0) (env : List Pair) (end : CniEnd) (old new : Outside) (stdin : List ℕ) → IsInput stdin old.left new.left → new.read_faults ≡ old.read_faults
    → IsInVersion end stdin → CallEnds env stdin end old.rows new.rows old.keeper_faults new.keeper_faults → CniCallWent same env end old new
made same env (Told status text) old new stdin read faults version ends = record { stdin = stdin; input = read; input_faults = faults; in_version = version; ends = ends }
made same env (Failed version Read) old new stdin read faults said ends = absurd ends
made same env (Failed version Undecodable) old new stdin read faults said ends = record { stdin = stdin; input = read; input_faults = faults; in_version = said; ends = ends }
made same env (Failed version Keeper) old new stdin read faults said ends = record { stdin = stdin; input = read; input_faults = faults; in_version = said; ends = ends }
made same env (Failed version Memory) old new stdin read faults said ends = inr (record { stdin = stdin; input = read; input_faults = faults; in_version = said; ends = ends })

pub made_went : (same : Type 0) (env : List Pair) (end : CniEnd) (old new : Outside) (stdin : List ℕ) → IsInput stdin old.left new.left → new.read_faults ≡ old.read_faults
    → InputEnds same env stdin end old.rows new.rows old.keeper_faults new.keeper_faults → CniCallWent same env end old new
made_went same env end old new stdin read faults (inl none) =
    subst (λ (x : CniEnd). CniCallWent same env x old new) (sym none.is_end) (unread_went same env old new faults none.keeper_faults none.rows none.keeper)
made_went same env end old new stdin read faults (inr (version, ends)) = made same env end old new stdin read faults version ends

-- ---- it does not matter which sink there is

made-any : (env : List Pair) (end : CniEnd) (old new : Outside) → IsMadeWithInput env end (without_sink old) (without_sink new) → IsMadeWithInput env end old new
made-any env end old new m = record { stdin = m.stdin; input = m.input; input_faults = m.input_faults; in_version = m.in_version; ends = m.ends }

unread-any : (same : Type 0) (version : Version) (old new : Outside) → IsUnread same version (without_sink old) (without_sink new) → IsUnread same version old new
unread-any same version old new m = record { in_version = m.in_version; input_faults = m.input_faults; keeper_faults = m.keeper_faults; rows = m.rows; keeper = m.keeper }

sink-any : (same : Type 0) (env : List Pair) (end : CniEnd) (old new : Outside) → CniCallWent same env end (without_sink old) (without_sink new) → CniCallWent same env end old new
sink-any same env (Told status text) old new went = made-any env (Told status text) old new went
sink-any same env (Failed version Read) old new went =
    record { in_version = went.in_version; input_faults = went.input_faults; keeper_faults = went.keeper_faults; rows = went.rows; keeper = went.keeper }
sink-any same env (Failed version Undecodable) old new went = made-any env (Failed version Undecodable) old new went
sink-any same env (Failed version Keeper) old new went = made-any env (Failed version Keeper) old new went
sink-any same env (Failed version Memory) old new (inl went) = inl (unread-any same version old new went)
sink-any same env (Failed version Memory) old new (inr went) = inr (made-any env (Failed version Memory) old new went)

pub any_sink : (same : Type 0) (env : List Pair) (end : CniEnd) (left left' : Option (List ℕ)) (reads reads' : ℕ) (written written' : Option (List ℕ)) (writes writes' : ℕ) (rows rows' : Option (List RowText)) (keeps keeps' : ℕ)
    → CniCallWent same env end (outside_of left reads None 0 rows keeps) (outside_of left' reads' None 0 rows' keeps')
    → CniCallWent same env end (outside_of left reads written writes rows keeps) (outside_of left' reads' written' writes' rows' keeps')
any_sink same env end left left' reads reads' written written' writes writes' rows rows' keeps keeps' went =
    sink-any same env end (outside_of left reads written writes rows keeps) (outside_of left' reads' written' writes' rows' keeps') went
