-- What a call is replied and leaves is what the function of the records says.
use Rattle.std.proofs.Common.{◌≡◌, Some, ap, subst}
use Rattle.ipam_records.specs.Datastore.{Datastore}
use Rattle.ipam_model.specs.declared.request.Request.{Request}
use Rattle.ipam_model.specs.declared.request.Request.TheVariants.{Add, AddThis, Del, Check, Release, Collect, Admin, Probe}
use Rattle.ipam_model.specs.Alone.{alone_over}
use Rattle.ipam_model.specs.Consistent.{IsConsistent}
use Rattle.ipam_model.specs.History.{Base}
use Rattle.ipam_model.specs.Plain.{HasSpareFor, PlainResult, plain, plain_check, records}
use Rattle.ipam_laws.proofs.AloneLooks.{check_alone}
use Rattle.ipam_laws.proofs.OpenedHistory.{opened_law}
use Rattle.ipam_plain.specs.AloneLaws.{ComesToPlain}
use Rattle.ipam_plain.proofs.Whole.{all_alone}
use Rattle.ipam_shared.specs.Kept.{opened}
use Rattle.ipam_shared.specs.Rows.{texts_loaded}
use Rattle.ipam_command.specs.ByRecords.{ByRecordsLaw}
use Rattle.ipam_command.proofs.SoundRequests.{IsSoundOrCheck, asked_sound}
use Rattle.ipam_command.proofs.Spared.{replied}
use Rattle.ipam_command.proofs.ToldAlone.{told_plain}

alone : (base : Base) (asked : Request) (result : PlainResult) → IsConsistent base.store → IsSoundOrCheck asked → HasSpareFor base.store asked → plain asked base.store.rows ≡ Some result → ComesToPlain base asked result
alone base (Add request) result consistent sound spare is = all_alone base (Add request) result consistent sound spare is
alone base (AddThis request address) result consistent sound spare is = all_alone base (AddThis request address) result consistent sound spare is
alone base (Del id) result consistent sound spare is = all_alone base (Del id) result consistent sound spare is
alone base (Check id addresses) result consistent sound spare is =
    let comes : (plain_check id addresses base.store.rows, base.store.rows) ≡ result = cc is in
    let says = check_alone base id addresses in
    subst (λ (r : PlainResult). ComesToPlain base (Check id addresses) r) comes (says.0, ap (λ (store : Datastore). records store.rows) says.1)
alone base (Release node cidr) result consistent sound spare is = all_alone base (Release node cidr) result consistent sound spare is
alone base (Collect request) result consistent sound spare is = all_alone base (Collect request) result consistent sound spare is
alone base (Admin change) result consistent sound spare is = all_alone base (Admin change) result consistent sound spare is
alone base (Probe request) result consistent sound spare is = all_alone base (Probe request) result consistent sound spare is

pub by_records : ByRecordsLaw
by_records env stdin look asked version old new reply store result is begins comes opens spare says =
    let r = replied env stdin look asked version old new reply store is begins opens comes in
    let consistent = opened_law (texts_loaded old) store opens in
    let both = alone (opened store) asked result consistent (asked_sound env stdin look asked version is begins) spare says in
    record {
      is_told = r.is_told;
      answer = told_plain asked (alone_over (opened store) asked).0 result.0 r.is_told both.0 r.answer;
      text = r.text;
      left = (alone_over (opened store) asked).1;
      same_records = both.1;
      rows = r.rows;
    }
