-- What each request calls, by the trail that led there.
use Rattle.std.proofs.Common.{ℕ, List, [], ◌∷◌, refl}
use Rattle.std.specs.Prelude.{Contains}
use Rattle.ipam_addr.specs.Shape.{CidrValue}
use Rattle.ipam_records.specs.declared.call.Call.{Call}
use Rattle.ipam_records.specs.declared.call.Call.TheVariants.{List as ListAll}
use Rattle.ipam_records.specs.declared.key.Kind.TheVariants as kind
use Rattle.ipam_records.specs.Datastore.{Datastore, reply_of}
use Rattle.ipam_records.specs.Label.{CallLabel}
use Rattle.ipam_records.specs.Word.{Ends}
use Rattle.ipam_model.specs.declared.answer.Collected.{Collected}
use Rattle.ipam_model.specs.declared.part.Left.{Left}
use Rattle.ipam_model.specs.declared.part.Outcome.{Outcome}
use Rattle.ipam_model.specs.declared.part.Outcome.TheVariants.{Went, Stops}
use Rattle.ipam_model.specs.declared.request.CollectRequest.{CollectRequest}
use Rattle.ipam_model.specs.declared.request.Request.{Request}
use Rattle.ipam_model.specs.declared.request.Request.TheVariants.{Del, Collect}
use Rattle.ipam_model.specs.Counting.{freeing_all, free}
use Rattle.ipam_model.specs.Reads.{rows_said}
use Rattle.ipam_model.specs.Remove.{Leak, collect_stops, collect_word, del_blocks, free_leaks, freeing_owner, item_of, leaks, suspects, with_item}
use Rattle.ipam_model.specs.Step.{Part, StopAnswers, all_left, answer_of, onward, as_word}
use Rattle.ipam_laws.proofs.Acting.{Act, Counts, ForCollect, ForDel, Frees, HasListed, OfCollect, OfDel, Reads}
use Rattle.ipam_laws.proofs.ActParts.{Any, IsRead, free-acts}
use Rattle.ipam_laws.proofs.Acts.{Acts, Acts-bound, Same, Since, since-since}
use Rattle.ipam_laws.proofs.Members.{in-here, in-there}
use Rattle.ipam_laws.proofs.Trails.{Did, Got, Trail}

pub reads-acts : (request : Request) (trail : Trail) (store : Datastore) (label : CallLabel) (asked : Call) → IsRead asked → Act request trail store label asked
reads-acts request trail store label asked h = Reads h

-- a part that answers
pub settles : {A : Type 0} → (request : Request) (answers : StopAnswers A) (part : Part A) (trail : Trail) → Acts (Act request) Any trail part → Acts (Act request) Any trail (as_word answers part)
settles request answers part trail h = Acts-bound (Act request) Any Any (λ outcome. Ends (answer_of answers outcome)) part trail h (λ longer a since any. tt)

-- ---- DEL

pub del-blocks : (id : List ℕ) (moment : ℕ) (list : List CidrValue) (left : Left) (trail : Trail) → Acts (Act (Del id)) Any trail (del_blocks id moment list left)
unfolding del_blocks
del-blocks id moment [] left trail = tt
del-blocks id moment (cidr ∷ rest) left trail =
    Acts-bound (Act (Del id)) Any Any (onward (λ now amount. del_blocks id moment rest now)) (free (freeing_all id cidr) left) trail
    (free-acts (Act (Del id)) (reads-acts (Del id)) (freeing_all id cidr) left trail (record {
      counts = λ longer store label asked is. Counts id is (ForDel refl);
      frees = λ longer since store b revision amount same current count. Frees (freeing_all id cidr) b revision amount refl current same count (OfDel id cidr refl refl);
    }))
    (λ longer outcome since any. ends longer outcome (λ now. del-blocks id moment rest now longer))
  where
    ends : (longer : Trail) (outcome : Outcome ℕ) → ((now : Left) → Acts (Act (Del id)) Any longer (del_blocks id moment rest now)) → Acts (Act (Del id)) Any longer (onward (λ now amount. del_blocks id moment rest now) outcome)
    ends longer (Went now amount) h = h now
    ends longer (Stops now why) h = tt

-- ---- a collection

-- the leaks that were found, by two lists
record IsFound (collect : CollectRequest) (all : List Leak) (origin : Trail) : Type 0 where
  listed : (leak : Leak) → Contains all leak → (trail : Trail) → Since origin trail → HasListed collect leak trail

free-leaks : (collect : CollectRequest) (all : List Leak) (origin : Trail) → IsFound collect all origin → (done : Collected) (list : List Leak) → ((leak : Leak) → Contains list leak → Contains all leak) → (left : Left) (trail : Trail) → Since origin trail → Acts (Act (Collect collect)) Any trail (free_leaks done list left)
unfolding free_leaks
free-leaks collect all origin found done [] every left trail since = tt
free-leaks collect all origin found done (leak ∷ rest) every left trail since =
    let request = Collect collect in
    Acts-bound (Act request) Any Any (onward (λ now amount. free_leaks (with_item done (item_of leak amount)) rest now)) (free (freeing_owner leak.owner leak.block) left) trail
    (free-acts (Act request) (reads-acts request) (freeing_owner leak.owner leak.block) left trail (record {
      counts = λ longer store label asked is. Counts leak.owner.handle is (ForCollect collect refl);
      frees = λ longer further store b revision amount same current count.
          Frees (freeing_owner leak.owner leak.block) b revision amount refl current same count
          (OfCollect collect leak refl (found.listed leak (every leak (in-here leak rest)) longer (since-since origin trail longer since further)) refl);
    }))
    (λ longer outcome further any. ends longer outcome (λ now amount. free-leaks collect all origin found (with_item done (item_of leak amount)) rest (λ one there. every one (in-there one leak rest there)) now longer (since-since origin trail longer since further)))
  where
    ends : (longer : Trail) (outcome : Outcome ℕ) → ((now : Left) (amount : ℕ) → Acts (Act (Collect collect)) Any longer (free_leaks (with_item done (item_of leak amount)) rest now))
        → Acts (Act (Collect collect)) Any longer (onward (λ now amount. free_leaks (with_item done (item_of leak amount)) rest now) outcome)
    ends longer (Went now amount) h = h now amount
    ends longer (Stops now why) h = tt

pub collect-acts : (collect : CollectRequest) → Acts (Act (Collect collect)) Any [] (collect_word collect)
collect-acts collect = λ b1 first a1. (
  Reads refl,
  λ fed_at time live b2 second a2. (
    Reads refl,
    let all = leaks (suspects collect (rows_said (reply_of first (ListAll kind.Block)))) live (rows_said (reply_of second (ListAll kind.Block))) in
        let three : Trail = Did b2 second (ListAll kind.Block) ∷ Got fed_at time live ∷ Did b1 first (ListAll kind.Block) ∷ [] in
        settles (Collect collect) collect_stops (free_leaks (record { b1 = b1; b2 = b2; items = [] }) all all_left) three
        (free-leaks collect all three
        (record {
          listed = λ leak there longer since. record {
            b1 = b1;
            b2 = b2;
            fed_at = fed_at;
            time = time;
            live = live;
            first = first;
            second = second;
            since = since;
            is_leak = there;
          };
        })
        (record { b1 = b1; b2 = b2; items = [] }) all (λ leak there. there) all_left three Same),
  ),
)
