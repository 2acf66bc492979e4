-- How many races a request has lost, and how many claims it has confirmed.
use Rattle.std.specs.Prelude.{ℕ, ◌+◌, Bool, true, false, not, ◌&&◌, ◌==◌, List, [], ◌∷◌, Option, Some, None, if◌then◌else◌}
use Rattle.ipam_records.specs.declared.key.Key.{Key}
use Rattle.ipam_records.specs.declared.key.Key.TheVariants as key
use Rattle.ipam_records.specs.declared.record.Record.{Record}
use Rattle.ipam_records.specs.declared.record.Record.TheVariants as record_of
use Rattle.ipam_model.specs.declared.entry.CallName.{CallName}
use Rattle.ipam_model.specs.declared.entry.CallName.TheVariants as name
use Rattle.ipam_model.specs.declared.entry.Called.{Called}
use Rattle.ipam_model.specs.declared.entry.Entry.{Entry}
use Rattle.ipam_model.specs.declared.entry.Entry.TheVariants as entry
use Rattle.ipam_model.specs.declared.entry.Told.{Told}
use Rattle.ipam_model.specs.declared.entry.Told.TheVariants as told
use Rattle.ipam_model.specs.declared.request.Request.{Request}
use Rattle.ipam_model.specs.declared.request.Request.TheVariants.{Add, AddThis, Release}
use Rattle.ipam_model.specs.Choice.{is_confirmed_state}

-- ---- the slot's own calls, the latest first

abbrev pub calls_of : ℕ → List Entry → List Called
calls_of slot [] = []
calls_of slot (entry.Called c ∷ history) =
    if c.slot == slot then c ∷ calls_of slot history else calls_of slot history
calls_of slot (entry.Began other request ∷ history) = calls_of slot history
calls_of slot (entry.Fed other at live ∷ history) = calls_of slot history
calls_of slot (entry.Stopped other ∷ history) = calls_of slot history

-- ---- lost races

abbrev pub is_write : CallName → Bool
is_write (name.Get asked) = false
is_write (name.List kind) = false
is_write (name.Create asked) = true
is_write (name.Update asked revision) = true
is_write (name.Delete asked revision) = true

-- a write was refused since the record is there, is missing or has another revision
abbrev pub is_race_lost : Told → Bool
is_race_lost told.Missing = true
is_race_lost (told.Exists revision) = true
is_race_lost (told.Conflict revision) = true
is_race_lost _ = false

abbrev pub is_affinity : Key → Bool
is_affinity (key.Affinity node cidr) = true
is_affinity _ = false

abbrev pub is_block_key : Key → Bool
is_block_key (key.Block cidr) = true
is_block_key _ = false

abbrev pub reads_block : CallName → Bool
reads_block (name.Get asked) = is_block_key asked
reads_block _ = false

abbrev pub reads_affinity : CallName → Bool
reads_affinity (name.Get asked) = is_affinity asked
reads_affinity _ = false

-- the revision of the latest write that was done
abbrev pub done_or : Told → Option ℕ → Option ℕ
done_or (told.Done revision) earlier = Some revision
done_or _ earlier = earlier

abbrev pub latest_done : List Called → Option ℕ
latest_done [] = None
latest_done (c ∷ calls) = done_or c.reply (latest_done calls)

abbrev pub is_mark_found : Option ℕ → Told → Bool
is_mark_found (Some mark) (told.Found revision) = revision == mark
is_mark_found _ _ = false

abbrev pub follows_block_read : List Called → Bool
follows_block_read [] = false
follows_block_read (c ∷ calls) = reads_block c.call

-- a release reads the affinity again after the block, and finds it no more at its mark
abbrev pub is_mark_lost : Called → List Called → Bool
is_mark_lost c earlier =
    reads_affinity c.call && follows_block_read earlier && not (is_mark_found (latest_done earlier) c.reply)

abbrev pub is_release : Request → Bool
is_release (Release node cidr) = true
is_release _ = false

abbrev pub is_lost : Request → Called → List Called → Bool
is_lost request c earlier =
    if is_write c.call then is_race_lost c.reply else is_release request && is_mark_lost c earlier

unfoldable pub lost_races : Request → List Called → ℕ
lost_races request [] = 0
lost_races request (c ∷ earlier) =
    (if is_lost request c earlier then 1 else 0) + lost_races request earlier

-- ---- claims

abbrev pub is_confirmation_of : Option Record → Bool
is_confirmation_of (Some (record_of.Affinity a)) = is_confirmed_state a.state
is_confirmation_of _ = false

-- whether the request is an ADD, with an address or without
abbrev pub is_add : Request → Bool
is_add (Add request) = true
is_add (AddThis request address) = true
is_add _ = false

-- a record that was written stands in its entry
unfoldable pub confirmed_claims : List Called → ℕ
confirmed_claims [] = 0
confirmed_claims (c ∷ earlier) =
    (if is_confirmation_of c.written then 1 else 0) + confirmed_claims earlier

-- how many claims an ADD confirmed; other requests have none
abbrev pub claims_of : Request → List Called → ℕ
claims_of request calls = if is_add request then confirmed_claims calls else 0
