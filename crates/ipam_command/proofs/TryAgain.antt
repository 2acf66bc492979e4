-- No call is told to try again later.
use Rattle.std.proofs.Common.{◌≡◌, ◌≢◌, ℕ, List, Option, Some, None, Ok, refl, sym, ap, ◌∙◌}
use Rattle.ipam_model.specs.declared.answer.Answer.{Answer}
use Rattle.ipam_model.specs.declared.answer.Answer.TheVariants as answer
use Rattle.ipam_model.specs.declared.request.Request.{Request}
use Rattle.ipam_model.specs.declared.request.Request.TheVariants.{Add, AddThis, Del, Check, Release, Collect, Admin, Probe}
use Rattle.ipam_model.specs.Alone.{alone_over}
use Rattle.ipam_laws.proofs.AloneAgain.{alone_again}
use Rattle.ipam_laws.proofs.AloneLooks.{check_alone}
use Rattle.ipam_laws.proofs.OpenedHistory.{opened_law}
use Rattle.ipam_model.specs.Opened.{OpensAs, Texts}
use Rattle.ipam_model.specs.Plain.{PlainAnswer, plain_of}
use Rattle.ipam_records.specs.Datastore.{Datastore}
use Rattle.cni_types.specs.declared.calls.Look.{Look}
use Rattle.cni_types.specs.declared.version.Version.{Version}
use Rattle.cni_types.specs.Looking.{look_reading}
use Rattle.cni_types.specs.Reading.{Pair}
use Rattle.cni_asks.specs.declared.asks.Ask.TheVariants.{Begin}
use Rattle.ipam_shared.specs.Kept.{opened}
use Rattle.ipam_addr.specs.Shape.{AddrValue}
use Rattle.cni_asks.specs.Replying.{failure_of, reply_to_add, reply_to_this, reply_to_del, reply_to_check}
use Rattle.cni_asks.specs.GcReplying.{gc_reply_of, status_reply_of}
use Rattle.ipam_command.specs.Replies.{begun_by, reply_to}
use Rattle.ipam_command.specs.Alone.{CallNeverAgainLaw, NoTryAgainLaw, SaysTryAgain}
use Rattle.ipam_command.proofs.SoundRequests.{IsSoundOrCheck, asked_sound}

abbrev IsAgain : Answer → Type 0
IsAgain found = (lost claims : ℕ) × (found ≡ answer.Again lost claims)

failure-again : (found : Answer) → SaysTryAgain (failure_of found) → IsAgain found
failure-again (answer.Again lost claims) h = (lost, claims, refl)
failure-again other h = absurd h

add-again : (found : Answer) → SaysTryAgain (reply_to_add found) → IsAgain found
add-again (answer.Added given) h = absurd h
add-again other h = failure-again other h

this-again : (address : AddrValue) (found : Answer) → SaysTryAgain (reply_to_this address found) → IsAgain found
this-again address (answer.AddedThis given) h = absurd h
this-again address (answer.NotInPool moment) h = absurd h
this-again address other h = failure-again other h

del-again : (found : Answer) → SaysTryAgain (reply_to_del found) → IsAgain found
del-again (answer.Deleted moment) h = absurd h
del-again other h = failure-again other h

check-again : (found : Answer) → SaysTryAgain (reply_to_check found) → IsAgain found
check-again answer.Checked h = absurd h
check-again other h = failure-again other h

gc-again : (found : Answer) → SaysTryAgain (gc_reply_of found) → IsAgain found
gc-again (answer.Collected collected) h = absurd h
gc-again other h = failure-again other h

status-again : (found : Answer) → SaysTryAgain (status_reply_of found) → IsAgain found
status-again (answer.Ready scans) h = absurd h
status-again (answer.Exhausted scan) h = absurd h
status-again (answer.NoPool name moment) h = absurd h
status-again other h = failure-again other h

told-again : (asked : Request) (found : Answer) → SaysTryAgain (reply_to asked found) → IsAgain found
told-again (Add request) found h = add-again found h
told-again (AddThis request address) found h = this-again address found h
told-again (Del id) found h = del-again found h
told-again (Check id addresses) found h = check-again found h
told-again (Release node cidr) found h = absurd h
told-again (Collect request) found h = gc-again found h
told-again (Admin change) found h = absurd h
told-again (Probe request) found h = status-again found h

pub no_try_again : NoTryAgainLaw
no_try_again texts store asked opens sound h =
    let (lost, claims, is) = told-again asked (alone_over (opened store) asked).0 h in
    alone_again (opened store) asked lost claims (opened_law texts store opens) sound is

-- ---- a call as it is read

-- a CHECK makes no write, so it is answered what the records say, over whatever addresses
check-never : (store : Datastore) (id : List ℕ) (addresses : List AddrValue) (lost claims : ℕ) → (alone_over (opened store) (Check id addresses)).0 ≢ answer.Again lost claims
check-never store id addresses lost claims is =
    let plain = (check_alone (opened store) id addresses).0 in
    let none : ◌≡◌ {A = Option PlainAnswer} None (Some _) = sym (ap plain_of is) ∙ plain in
    absurd (cc none)

never : (texts : Texts) (store : Datastore) (asked : Request) (lost claims : ℕ) → OpensAs texts store → IsSoundOrCheck asked → (alone_over (opened store) asked).0 ≢ answer.Again lost claims
never texts store (Check id addresses) lost claims opens sound = check-never store id addresses lost claims
never texts store (Add request) lost claims opens sound = alone_again (opened store) (Add request) lost claims (opened_law texts store opens) sound
never texts store (AddThis request address) lost claims opens sound = alone_again (opened store) (AddThis request address) lost claims (opened_law texts store opens) sound
never texts store (Del id) lost claims opens sound = alone_again (opened store) (Del id) lost claims (opened_law texts store opens) sound
never texts store (Release node cidr) lost claims opens sound = alone_again (opened store) (Release node cidr) lost claims (opened_law texts store opens) sound
never texts store (Collect request) lost claims opens sound = alone_again (opened store) (Collect request) lost claims (opened_law texts store opens) sound
never texts store (Admin change) lost claims opens sound = alone_again (opened store) (Admin change) lost claims (opened_law texts store opens) sound
never texts store (Probe request) lost claims opens sound = alone_again (opened store) (Probe request) lost claims (opened_law texts store opens) sound

pub call_never_again : CallNeverAgainLaw
call_never_again env stdin look asked version texts store is begins opens h =
    let (lost, claims, again) = told-again asked (alone_over (opened store) asked).0 h in
    never texts store asked lost claims opens (asked_sound env stdin look asked version is begins) again
