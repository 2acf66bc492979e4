-- All that holds of every lawful history, at once.
use Rattle.std.proofs.Common.{◌≡◌, List, [], ◌∷◌, drop, Some, refl, sym, subst}
use Rattle.ipam_model.specs.declared.answer.Answer.{Answer}
use Rattle.ipam_model.specs.declared.entry.Entry.{Entry}
use Rattle.ipam_model.specs.declared.request.Request.{Request}
use Rattle.ipam_model.specs.declared.request.Request.TheVariants.{Add, AddThis, Admin, Check, Collect, Del, Probe, Release}
use Rattle.ipam_model.specs.AnswerLaw.{AnswersLaw, IsRightAnswer}
use Rattle.ipam_model.specs.Answered.{Answered, history_of}
use Rattle.ipam_model.specs.BoundLaw.{whole_collect, whole_del}
use Rattle.ipam_model.specs.Consistent.{IsConsistent}
use Rattle.ipam_model.specs.History.{Base, Lawful, cluster_at, store_at}
use Rattle.ipam_model.specs.Moments.{request_in}
use Rattle.ipam_laws.specs.Right.{IsBounded, IsEntryRight, IsKept, IsRightAt, RightLaw}
use Rattle.ipam_laws.proofs.BlockHistory.{blocks_stay, stamps}
use Rattle.ipam_laws.proofs.ClaimsHistory.{claims_law}
use Rattle.ipam_laws.proofs.ExcessHistory.{causes_law}
use Rattle.ipam_laws.proofs.Fates.{faults}
use Rattle.ipam_laws.proofs.LabelHistory.{labels_law}
use Rattle.ipam_laws.proofs.LabelLaws.{credits_law, points_law}
use Rattle.ipam_laws.proofs.NoReturn.{no_return}
use Rattle.ipam_laws.proofs.OneRecord.{drop-lawful, one_record}
use Rattle.ipam_laws.proofs.OwnersHistory.{owners_law}
use Rattle.ipam_laws.proofs.OwnersOrder.{owners_order}
use Rattle.ipam_laws.proofs.QueueHistory.{given_again_late, none_comes_ahead}
use Rattle.ipam_laws.proofs.RightHistory.{add_answers, change_answers, check_answers, collect_answers, del_answers, release_answers, this_answers, whole_probe}
use Rattle.ipam_laws.proofs.SlotsHistory.{consistent_law}
use Rattle.ipam_laws.proofs.SpanBound.{requests_are_bounded}
use Rattle.ipam_laws.proofs.SpanCalls.{collect_calls, del_calls}
use Rattle.ipam_laws.proofs.StoreSteps.{replies}
use Rattle.ipam_laws.proofs.WritesHistory.{writes_law}

-- ---- answers

answered-right : (a : Answered) → IsConsistent a.base.store → Lawful a.base (history_of a) → (request : Request) → a.request ≡ request → (told : Answer) → request_in (cluster_at a.base a.earlier) a.call.slot ≡ Some a.request → a.call.answer ≡ Some told → IsRightAnswer a told
answered-right a c h (Add add) is told requested given = add_answers add a c h is told requested given
answered-right a c h (AddThis add address) is told requested given = this_answers add address a c h is told requested given
answered-right a c h (Del id) is told requested given = del_answers id a c h is told requested given
answered-right a c h (Check id addresses) is told requested given = check_answers a id addresses c h is told requested given
answered-right a c h (Release node cidr) is told requested given = release_answers node cidr a c h is told requested given
answered-right a c h (Collect request) is told requested given = collect_answers request a c h is told requested given
answered-right a c h (Admin setting) is told requested given = change_answers setting a c h is told requested given
answered-right a c h (Probe request) is told requested given = whole_probe request a c h is told requested given

pub answers_law : AnswersLaw
answers_law a c h told requested given = answered-right a c h a.request refl told requested given

-- ---- moments and entries

moment-right : (base : Base) (history : List Entry) → IsConsistent base.store → Lawful base history → IsRightAt base history
moment-right base history c h =
    let here = consistent_law base history c h in
    let points = points_law base history c.sound c.agrees h in
    record {
      consistent = here;
      owners_in_order = owners_order (store_at base history) here;
      credits = credits_law base history c.sound c.covered h;
      causes = causes_law base history c.sound c.covered h;
      points = points.0;
      kept = points.1;
      labels = λ slot running runs. labels_law base history slot running c.sound h runs;
    }

entry-right : (base : Base) (history : List Entry) (new : Entry) → IsConsistent base.store → Lawful base (new ∷ history) → IsEntryRight base history new
entry-right base history new c h = record {
  owners = owners_law base history new c h;
  writes = writes_law base history new c.sound h;
  claims = claims_law base history new c.sound h;
  call = λ call is.
      let there = subst (λ (e : Entry). Lawful base (e ∷ history)) is h in
      record {
        reply = replies base history call there;
        answer = λ request told requested given.
            answered-right (record { base = base; earlier = history; call = call; request = request }) c there request refl told requested given;
        fault = faults (record { base = base; earlier = history; call = call; request = Del [] }) there;
      };
}

bounded : (base : Base) (history : List Entry) → Lawful base history → IsBounded base history
bounded base history h = record {
  request = λ earlier later slot request count is most none.
      requests_are_bounded base earlier later slot request count (subst (λ (l : List Entry). Lawful base l) (sym is) h) most none;
  del = λ del same is there. del_calls del (subst (λ (b : Base). Lawful b (whole_del del)) (sym same) (subst (λ (l : List Entry). Lawful base l) (sym is) h)) there;
  collect = λ collect same is there. collect_calls collect (subst (λ (b : Base). Lawful b (whole_collect collect)) (sym same) (subst (λ (l : List Entry). Lawful base l) (sym is) h)) there;
}

kept : (base : Base) (history : List Entry) → IsConsistent base.store → Lawful base history → IsKept base history
kept base history c h = record {
  one_record = one_record base history c.sound h;
  blocks_stay = blocks_stay base history c.sound h;
  stamps = stamps base history c.sound h;
  no_return = no_return base history c h;
  none_comes_ahead = none_comes_ahead base history c.sound h;
  given_again_late = given_again_late base history c.sound h;
}

pub right_law : RightLaw
right_law base history c h = record {
  lawful = h;
  at_moments = λ many. moment-right base (drop many history) c (drop-lawful base many history h);
  entries = λ many new earlier is. entry-right base earlier new c (subst (λ (l : List Entry). Lawful base l) is (drop-lawful base many history h));
  bounded = bounded base history h;
  kept = kept base history c h;
}
