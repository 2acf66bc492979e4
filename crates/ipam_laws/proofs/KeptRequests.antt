-- What holds of each request with its word, and with what is left of it, holds in each slot of a history.
use Rattle.std.proofs.Common.{◌≡◌, ℕ, List, [], ◌∷◌, Option, Some, None, subst}
use Rattle.ipam_records.specs.Datastore.{Datastore}
use Rattle.ipam_records.specs.Word.{Word, after_feed}
use Rattle.ipam_model.specs.declared.answer.Answer.{Answer}
use Rattle.ipam_model.specs.declared.entry.Entry.{Entry}
use Rattle.ipam_model.specs.declared.entry.Entry.TheVariants as entry
use Rattle.ipam_model.specs.declared.request.Request.{Request}
use Rattle.ipam_model.specs.Cluster.{RunningRequest, after, word_after_reply, fresh_run, run_after_feed, goes_on}
use Rattle.ipam_model.specs.History.{Base, cluster_at}
use Rattle.ipam_model.specs.Requests.{word_of}
use Rattle.ipam_laws.proofs.KeptWords.{slot-is}

pub record IsKeptOf (P : Request → Word Answer → Type 0) : Type 0 where
  pub begins : (request : Request) → P request (word_of request)
  pub hears : (request : Request) (store : Datastore) (moment : ℕ) (word : Word Answer) → P request word → P request (word_after_reply store moment word)
  pub is_fed : (request : Request) (live : List (List ℕ)) (word : Word Answer) → P request word → P request (after_feed word live)

module _ (P : Request → Word Answer → Type 0) (kept : IsKeptOf P) where
  abbrev OfSlot : Option RunningRequest → Type 0
  OfSlot None = Unit {0}
  OfSlot (Some running) = P running.request running.word

  fed-slot : (live : List (List ℕ)) (o : Option RunningRequest) → OfSlot o → OfSlot (run_after_feed live o)
  fed-slot live None h = tt
  fed-slot live (Some running) h = kept.is_fed running.request live running.word h

  goes-slot : (store : Datastore) (moment : ℕ) (answer : Option Answer) (o : Option RunningRequest) → OfSlot o → OfSlot (goes_on store moment answer o)
  goes-slot store moment (Some answer) o h = tt
  goes-slot store moment None None h = tt
  goes-slot store moment None (Some running) h = kept.hears running.request store moment running.word h

  slots-kept : (base : Base) (history : List Entry) (slot : ℕ) → OfSlot ((cluster_at base history).slots slot)
  unfolding cluster_at after
  slots-kept base [] slot = tt
  slots-kept base (entry.Began other request ∷ history) slot =
      slot-is OfSlot other slot (fresh_run request) (cluster_at base history).slots
      (λ own. kept.begins request) (λ differ. slots-kept base history slot)
  slots-kept base (entry.Fed other at live ∷ history) slot =
      slot-is OfSlot other slot (run_after_feed live ((cluster_at base history).slots other)) (cluster_at base history).slots
      (λ own. fed-slot live ((cluster_at base history).slots other) (slots-kept base history other))
      (λ differ. slots-kept base history slot)
  slots-kept base (entry.Stopped other ∷ history) slot =
      slot-is OfSlot other slot None (cluster_at base history).slots
      (λ own. tt) (λ differ. slots-kept base history slot)
  slots-kept base (entry.Called c ∷ history) slot =
      let store = (cluster_at base history).store in
      let moment = (cluster_at base history).entries in
      slot-is OfSlot c.slot slot (goes_on store moment c.answer ((cluster_at base history).slots c.slot)) (cluster_at base history).slots
      (λ own. goes-slot store moment c.answer ((cluster_at base history).slots c.slot) (slots-kept base history c.slot))
      (λ differ. slots-kept base history slot)

  -- what runs in a slot keeps it
  pub running-kept : (base : Base) (history : List Entry) (slot : ℕ) (running : RunningRequest) → (cluster_at base history).slots slot ≡ Some running → P running.request running.word
  running-kept base history slot running e = subst (λ (o : Option RunningRequest). OfSlot o) e (slots-kept base history slot)
