-- What a pass is told of the routes.
use Rattle.std.proofs.Common.{◌≡◌, ◌↔◌, ℕ, ◌<◌, [], Option, Some, None, Result, Ok, Err, IsNone, IfSome, IfOk, sym, subst}
use Rattle.std.specs.Global.{Vec}
use Rattle.std.proofs.lemmas.Option.{IfSome_then}
use Rattle.ipam_store.specs.declared.route.Route.{Route}
use Rattle.ipam_store.specs.declared.change.Change.{Change}
use Rattle.ipam_store.specs.declared.feed_fault.SinceFault.{SinceFault}
use Rattle.ipam_store.specs.declared.feed_fault.SinceFault.TheVariants.{Compacted, Ahead}
use Rattle.ipam_shared.specs.Feed.{AreChanges, AreRoutes, IsAhead, IsCompacted}
use Rattle.ipam_shared.specs.Kept.{Tells}
use Rattle.ipam_shared.specs.declared.faults.SharedFault.{SharedFault}
use Rattle.ipam_shared.specs.declared.faults.SharedFault.TheVariants.{Inner}
use Rattle.ipam_shared.specs.Deeds.{TellsChanges, TellsRoutes}
use Rattle.ipam_shared.specs.PassValue.{PassValue}
use Rattle.ipam_shared.specs.Turning.{HadTurn, answer_of}
use Rattle.ipam_shared.proofs.Answering.{refusal}
use Rattle.ipam_shared.proofs.Turning.{had-left}

module _ {D E : Type 0} (tells sure : Tells D) (old new : PassValue) where
  told-routes : (answer : Option (Result (ℕ × Vec Route) E)) → IfSome answer (λ given. HadTurn tells sure (λ before after. TellsRoutes tells before given) old [] new)
      → IfOk (answer_of answer) (λ told. AreRoutes new.base new.seen told.0 told.1.items)
  told-routes None h = tt
  told-routes (Some (Ok told)) h = h.done.deed new.base new.seen h.done.fed
  told-routes (Some (Err fault)) h = tt

  pub routes-routes : (answer : Option (Result (ℕ × Vec Route) E)) (result : Result (ℕ × Vec Route) (SharedFault E)) → result ≡ answer_of answer
      → IfSome answer (λ given. HadTurn tells sure (λ before after. TellsRoutes tells before given) old [] new)
      → IfOk result (λ told. AreRoutes new.base new.seen told.0 told.1.items)
  routes-routes answer result is turned = subst (λ r. IfOk r (λ told. AreRoutes new.base new.seen told.0 told.1.items)) (sym is) (told-routes answer turned)

module _ {D : Type 0} (tells sure : Tells D) (revision : ℕ) (old new : PassValue) where
  told-changes : (answer : Option (Result (ℕ × Vec Change) SinceFault)) → IfSome answer (λ given. HadTurn tells sure (λ before after. TellsChanges tells before revision given) old [] new)
      → IfOk (answer_of answer) (λ told. AreChanges new.base new.seen revision told.0 told.1.items)
  told-changes None h = tt
  told-changes (Some (Ok told)) h = h.done.deed.changes new.base new.seen h.done.fed
  told-changes (Some (Err fault)) h = tt

module _ {D : Type 0} (tells sure : Tells D) (revision : ℕ) (old new : PassValue) (answer : Option (Result (ℕ × Vec Change) SinceFault)) (result : Result (ℕ × Vec Change) (SharedFault SinceFault))
    (is : result ≡ answer_of answer) (spent : IsNone answer ↔ (old.left ≡ 0))
    (turned : IfSome answer (λ given. HadTurn tells sure (λ before after. TellsChanges tells before revision given) old [] new)) where
  pub since-changes : IfOk result (λ told. AreChanges new.base new.seen revision told.0 told.1.items)
  since-changes = subst (λ r. IfOk r (λ told. AreChanges new.base new.seen revision told.0 told.1.items)) (sym is) (told-changes tells sure revision old new answer turned)

  pub since-compacted : (floor : ℕ) → ((result ≡ Err (Inner (Compacted floor))) ↔ (0 < old.left × IsCompacted new.base new.seen revision floor))
  since-compacted floor = subst (λ r. (r ≡ Err (Inner (Compacted floor))) ↔ (0 < old.left × IsCompacted new.base new.seen revision floor)) (sym is)
      (refusal answer (Compacted floor) old.left (IsCompacted new.base new.seen revision floor) spent
      (IfSome_then answer turned (λ given h. (had-left h, h.done.deed.compacted new.base new.seen floor h.done.fed))))

  pub since-ahead : (counter : ℕ) → ((result ≡ Err (Inner (Ahead counter))) ↔ (0 < old.left × IsAhead new.base new.seen revision counter))
  since-ahead counter = subst (λ r. (r ≡ Err (Inner (Ahead counter))) ↔ (0 < old.left × IsAhead new.base new.seen revision counter)) (sym is)
      (refusal answer (Ahead counter) old.left (IsAhead new.base new.seen revision counter) spent
      (IfSome_then answer turned (λ given h. (had-left h, h.done.deed.ahead new.base new.seen counter h.done.fed))))
