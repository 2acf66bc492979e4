-- A manual pool gives addresses to those that name it or ask for one of its own.
use Rattle.std.specs.Prelude.{◌≡◌, ℕ, List, [], ◌∷◌, ◌++◌, Err, Some, None, codes}
use Rattle.ipam_addr.specs.declared.address.Family.TheVariants.{V4}
use Rattle.ipam_block.specs.declared.state.State.TheVariants.{Confirmed}
use Rattle.ipam_pool.specs.declared.pools.Mode.TheVariants.{Manual}
use Rattle.ipam_pool.specs.declared.pools.Pool.{Pool}
use Rattle.ipam_record_text.specs.declared.fault.BodyFault.TheVariants.{Form}
use Rattle.ipam_record_text.specs.Pools.{pools_reading}
use Rattle.ipam_records.specs.declared.key.Key.TheVariants as key
use Rattle.ipam_records.specs.declared.key.Kind.TheVariants as kind
use Rattle.ipam_records.specs.declared.record.Record.TheVariants as record_of
use Rattle.ipam_model.specs.declared.answer.Answer.{Answer}
use Rattle.ipam_model.specs.declared.answer.Answer.TheVariants as answer
use Rattle.ipam_model.specs.declared.entry.CallName.TheVariants as name
use Rattle.ipam_model.specs.declared.entry.Entry.TheVariants as entry
use Rattle.ipam_model.specs.declared.entry.Told.TheVariants as told
use Rattle.ipam_model.specs.declared.request.Admin.TheVariants as change
use Rattle.ipam_model.specs.declared.request.Request.{Request}
use Rattle.ipam_model.specs.declared.request.Request.TheVariants.{Admin}
use Rattle.ipam_model.specs.Course.{Begin}
use Rattle.ipam_model.specs.History.{Base}
use Rattle.ipam_plain.specs.Setting.{v4, v4_range, slot0, pool, ready_base, base_of, block_record, affinity_of, queue4, add, add_this, turns, did, did_read, updated, scan_from, given_this, goes, three_reads, second_given}
use Rattle.ipam_plain.specs.Probes.{ProbedOver}

abbrev pub manual : Pool
manual = record (pool (codes "p") (v4_range 0 29) 30) { mode = Manual }

-- the node a has a ready block of the manual pool
abbrev pub manual_base : Base
manual_base = base_of
    ((1, record_of.Pools (manual ∷ []))
    ∷ (3, block_record slot0 (Some (codes "a")) [] queue4 0)
    ∷ (2, affinity_of (codes "a") slot0 Confirmed)
    ∷ []) 3

abbrev pub Probed : (pools : List (List ℕ)) → Answer → Type 0
Probed pools answer = ProbedOver manual_base (codes "a") pools answer

abbrev pub ProbeOfNone : Type 0
ProbeOfNone = Probed [] (answer.Exhausted (scan_from V4 1))

abbrev pub ProbeOfTheName : Type 0
ProbeOfTheName = Probed (codes "p" ∷ []) (answer.Ready (scan_from V4 1 ∷ []))

abbrev pub OneAddressGiven : Type 0
OneAddressGiven = goes manual_base
    (Begin 0 (add_this (codes "n.c1") (codes "a") (v4 1)) ∷ turns 0 6)
    (entry.Began 0 (add_this (codes "n.c1") (codes "a") (v4 1))
    ∷ three_reads 0 told.Missing slot0 (told.Found 3) None
    ++ second_given 0 (codes "n.c1") 4 (given_this (v4 1) 1 6))

abbrev pub making_manual : Request
making_manual = Admin (change.Pool manual)

-- a change makes the pool manual, and then it gives nothing to those that ask for any
abbrev pub MadeManual : Type 0
MadeManual = goes ready_base
    (Begin 0 making_manual ∷ turns 0 2 ++ Begin 0 (add (codes "n.c1") (codes "a")) ∷ turns 0 5)
    (entry.Began 0 making_manual
    ∷ did_read 0 (name.Get key.Pools) (told.Found 1)
    ∷ updated 0 key.Pools 1 4 (record_of.Pools (manual ∷ [])) (Some (answer.Done 4))
    ∷ entry.Began 0 (add (codes "n.c1") (codes "a"))
    ∷ did_read 0 (name.Get key.Config) told.Missing
    ∷ did_read 0 (name.Get key.Pools) (told.Found 4)
    ∷ did_read 0 (name.Get key.Reservations) told.Missing
    ∷ did_read 0 (name.List kind.Affinity) (told.Listed 1)
    ∷ did 0 (name.List kind.Block) (told.Listed 1) None (Some (answer.Exhausted (scan_from V4 4)))
    ∷ [])

-- the automatic mode is not written, and a text that has it is refused
abbrev pub saying_automatic : List ℕ
saying_automatic =
    codes "{\"pools\":[{\"assignmentMode\":\"Automatic\",\"blockSize\":30,\"cidr\":\"10.0.0.0/29\",\"disabled\":false,\"name\":\"p\"}]}"

abbrev pub AutomaticSaid : Type 0
AutomaticSaid = pools_reading saying_automatic ≡ Err Form
