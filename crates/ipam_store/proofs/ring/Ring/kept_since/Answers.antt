use Rattle.std.proofs.Common.{◌≡◌, List, ◌≤◌, ◌∙◌, ap, reverse, subst, sym}
use Rattle.ipam_records.specs.declared.call.Write.{Write}
use Rattle.ipam_records.specs.Datastore.{Datastore}
use Rattle.ipam_store.specs.declared.change.Change.{Change}
use Rattle.ipam_store.specs.Route.{routes_in}
use Rattle.ipam_store.specs.Change.{Leads}
use Rattle.ipam_store.specs.Feed.{changes_since, routes_at, store_after_writes}
use Rattle.ipam_store.specs.FeedShape.{RingValue}
use Rattle.ipam_store.specs.FeedKeeping.{ring_in}
use Rattle.ipam_store.specs.Follows.{Follows}
use Rattle.ipam_store.proofs.Histories.{leads_since}
use Rattle.ipam_store.proofs.Pushes.{changes_told}
use Rattle.ipam_store.proofs.ring.Ring.kept_since.Goals as goal

exact : (c : goal.After-reverse) (base : Datastore) (writes : List Write) → Follows c.args.self.now base writes → c.reverse.new.self.items ≡ changes_since base writes c.args.revision
exact c base writes follows =
    let ring : RingValue = ring_in c.self.inside in
    let floor : ring.floor ≤ c.args.revision = subst (λ (v : RingValue). v.floor ≤ c.args.revision) (sym c.self.view_is) c.requires in
    c.reverse.ensures.items
    ∙ (ap reverse c.in_ok-found.ensures
    ∙ changes_told ring base writes c.args.revision (subst (λ (v : RingValue). Follows v base writes) (sym c.self.view_is) follows) floor)

pub returns : goal.returns
returns c = record {
  exact = exact c;
  leads = λ base writes follows.
      subst (λ (cs : List Change). Leads (routes_at base writes c.args.revision) cs (routes_in (store_after_writes base writes))) (sym (exact c base writes follows))
      (leads_since base follows.ascending writes follows.next c.args.revision);
}
