-- What an ADD without an address gives is right.
use Rattle.std.proofs.Common.{◌≡◌, ℕ, ◌<◌, inl, inr, List, [], ◌∷◌, Some, sym, subst}
use Rattle.ipam_addr.specs.declared.address.Family.{Family}
use Rattle.ipam_records.specs.declared.call.Call.TheVariants.{List as ListAll}
use Rattle.ipam_records.specs.declared.key.Key.TheVariants as key
use Rattle.ipam_records.specs.declared.key.Kind.TheVariants as kind
use Rattle.ipam_records.specs.declared.record.Record.TheVariants as record_of
use Rattle.ipam_records.specs.Datastore.{Datastore, row_of}
use Rattle.ipam_model.specs.declared.answer.Given.{Given}
use Rattle.ipam_model.specs.declared.choice.Choice.TheVariants.{Use, Borrow}
use Rattle.ipam_model.specs.declared.request.AddRequest.{AddRequest}
use Rattle.ipam_model.specs.AddLaw.{AreGivenRight, IsGivenRight, IsRecordedAt, scan_of}
use Rattle.ipam_model.specs.Answered.{Answered, history_of, span_of}
use Rattle.ipam_model.specs.Assigning.{target_in}
use Rattle.ipam_model.specs.Consistent.{IsConsistent}
use Rattle.ipam_model.specs.History.{Lawful, now}
use Rattle.ipam_laws.proofs.AddRounds.{AreGivenBy, IsGivenBy}
use Rattle.ipam_laws.proofs.FamilyHistory.{chosen-span}
use Rattle.ipam_laws.proofs.OwnersHistory.{part-of}
use Rattle.ipam_laws.proofs.Recorded.{assigned-later, quietly-since, recorded}
use Rattle.ipam_laws.proofs.Trails.{IsTrail, Trail}

one-right : (a : Answered) (request : AddRequest) (family : Family) (given : Given) (trail : Trail) → IsConsistent a.base.store → Lawful a.base (history_of a) → IsTrail (span_of a) (now (span_of a)) trail → IsGivenBy request trail family given → IsGivenRight a request family given
unfolding IsTrail
one-right a request family given trail c h is g =
    let span = span_of a in
    let (until, at) = part-of span g.at trail (now span) g.since is in
    let there = subst (λ (t : Trail). IsTrail span until t) g.assigns.is at in
    let (upto, five) = part-of span g.five g.assigns.between g.done.moment (quietly-since g.five g.assigns.between g.assigns.quiet) there.2 in
    let head = subst (λ (t : Trail). IsTrail span upto t) g.listed five in
    let wrote = recorded span request.attributes (target_in g.found g.ordinal) g.done g.five g.at until c h at g.assigns in
    let later = assigned-later span request.attributes (target_in g.found g.ordinal) g.done given.b g.blocks (ListAll kind.Block) g.rest g.five g.at until at g.listed g.assigns in
    record {
      cidr = g.cidr;
      ordinal = g.ordinal;
      chosen = elim g.chosen [
        | inl own ↦ inl (chosen-span span request (scan_of family given) (Use g.cidr g.ordinal) trail (now span) is own)
        | inr other ↦ inr (chosen-span span request (scan_of family given) (Borrow g.cidr g.ordinal) trail (now span) is other)
      ];
      is_address = g.is_address;
      read = g.found;
      was_listed = subst (λ (s : Datastore). row_of (key.Block g.cidr) s.rows ≡ Some (g.found.0, record_of.Block g.found.1)) (sym head.0.before_it) g.was;
      later = subst (λ (m : ℕ). given.b < m) (sym g.at_w) later;
      recorded = subst (λ (m : ℕ). IsRecordedAt span m (record { attributes = request.attributes; read = g.found; ordinal = g.ordinal })) (sym g.at_w) wrote;
    }

pub all-right : (a : Answered) (request : AddRequest) (families : List Family) (given : List Given) (trail : Trail) → IsConsistent a.base.store → Lawful a.base (history_of a) → IsTrail (span_of a) (now (span_of a)) trail → AreGivenBy request trail families given → AreGivenRight a request families given
unfolding AreGivenBy
all-right a request [] [] trail c h is k = tt
all-right a request (family ∷ families) (given ∷ more) trail c h is k = (one-right a request family given trail c h is k.0, all-right a request families more trail c h is k.1)
all-right a request [] (given ∷ more) trail c h is k = k
all-right a request (family ∷ families) [] trail c h is k = k
