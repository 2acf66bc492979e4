-- The rows of a listing that was heard.
use Rattle.std.proofs.Common.{◌≡◌, Bool, true, false, cond, List, [], ◌∷◌, map, refl, sym, ap, subst}
use Rattle.std.specs.Prelude.{filter}
use Rattle.std.specs.List.Sorted.{IsStrictlySortedBy}
use Rattle.std.proofs.lemmas.List.Elements.{All-filter, All-contains}
use Rattle.std.proofs.lemmas.List.Kept.{IsStrictlySortedBy-filter}
use Rattle.ipam_records.specs.declared.key.Key.{Key}
use Rattle.ipam_records.specs.declared.key.Kind.TheVariants as kind
use Rattle.ipam_records.specs.declared.call.Call.TheVariants.{List as ListAll}
use Rattle.ipam_records.specs.declared.record.Record.TheVariants as record_of
use Rattle.ipam_records.specs.KeyOrder.{key_cmp, is_of_kind}
use Rattle.ipam_records.specs.Datastore.{Datastore, rows_of_kind, row_key}
use Rattle.ipam_records.specs.Hearing.{CanBeSaid, MayHear}
use Rattle.ipam_records.specs.Said.{Said}
use Rattle.ipam_records.specs.Sound.{IsRow, IsDatastore}
use Rattle.ipam_model.specs.declared.request.CollectRequest.{CollectRequest}
use Rattle.ipam_model.specs.Reads.{StoredRecord, rows_said}
use Rattle.ipam_collect.specs.declared.collect.FoundTwice.{FoundTwice}
use Rattle.ipam_collect.specs.declared.collect.Stage.{Stage}
use Rattle.ipam_collect.specs.declared.collect.Stage.TheVariants.{ListsAgain}
use Rattle.ipam_collect.specs.Collect.{collect_at}
use Rattle.ipam_collect.specs.Leaks.{AreSoundRows}

keys_kept : (passes : Key → Bool) (rows : List StoredRecord) → map row_key (filter (λ row. passes (row_key row)) rows) ≡ filter passes (map row_key rows)
keys_kept passes [] = refl
keys_kept passes (row ∷ rows) =
    elim (passes (row_key row)) as (λ v. map row_key (cond v (row ∷ filter (λ r. passes (row_key r)) rows) (filter (λ r. passes (row_key r)) rows)) ≡ cond v (row_key row ∷ filter passes (map row_key rows)) (filter passes (map row_key rows))) [
      | true ↦ ap (λ keys. row_key row ∷ keys) (keys_kept passes rows)
      | false ↦ keys_kept passes rows
    ]

listed_sound : (store : Datastore) → IsDatastore store → AreSoundRows (rows_of_kind kind.Block store)
listed_sound store sound = record {
  blocks = λ revision b among.
      (All-contains (IsRow store.counter) (rows_of_kind kind.Block store) (revision, record_of.Block b)
      (All-filter (λ row. is_of_kind kind.Block (row_key row)) (IsRow store.counter) store.rows sound.rows) among).is_record.block;
  ascending =
      subst (IsStrictlySortedBy key_cmp) (sym (keys_kept (is_of_kind kind.Block) store.rows))
      (IsStrictlySortedBy-filter key_cmp (is_of_kind kind.Block) (map row_key store.rows) sound.ascending);
}

said_sound : (s : Said) → CanBeSaid (ListAll kind.Block) s → AreSoundRows (rows_said s)
said_sound s can = subst (λ (t : Said). AreSoundRows (rows_said t)) can.is_reply (listed_sound can.store can.sound)

-- where the blocks are listed again, what is said are sound rows
pub heard_sound : (request : CollectRequest) (stage : Stage) (found : FoundTwice) (s : Said) → stage ≡ ListsAgain found → MayHear (collect_at request stage) s → AreSoundRows (rows_said s)
heard_sound request stage found s is heard =
    said_sound s (subst (λ (t : Stage). MayHear (collect_at request t) s) is heard).0
