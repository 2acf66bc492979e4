-- What a call begins, and what it is replied.
use Rattle.std.specs.Prelude.{◌≡◌, ℕ, ◌++◌, List, codes, decimal, Option, Some, IfSome, Ok, Err, Bool, true, IsTrue}
use Rattle.ipam_keeper.specs.Keeping.{IsTold}
use Rattle.ipam_records.specs.declared.call.Row.{Row as RowText}
use Rattle.ipam_records.specs.Datastore.{Datastore}
use Rattle.ipam_model.specs.declared.answer.Answer.{Answer}
use Rattle.ipam_model.specs.declared.request.Request.{Request}
use Rattle.ipam_model.specs.declared.request.Request.TheVariants as request
use Rattle.ipam_model.specs.Alone.{alone_over}
use Rattle.ipam_model.specs.Opened.{IsRefusedBy, OpensAs}
use Rattle.ipam_shared.specs.Kept.{opened}
use Rattle.ipam_shared.specs.Rows.{AreTextsOf, texts_loaded}
use Rattle.ipam_shared.specs.Courses.{IsAnswerCourse}
use Rattle.cni_types.specs.declared.calls.Look.{Look}
use Rattle.cni_types.specs.declared.calls.Look.TheVariants.{Version, Add, Del, Check, Gc, Status}
use Rattle.cni_types.specs.declared.code.Code.TheVariants.{BadDatastore}
use Rattle.cni_types.specs.declared.error.CniError.{CniError}
use Rattle.cni_types.specs.declared.version.Version as versions
use Rattle.cni_types.specs.Looking.{look_reading}
use Rattle.cni_types.specs.Reading.{Pair}
use Rattle.cni_types.specs.Texts.{error_text, versions_text}
use Rattle.cni_asks.specs.declared.asks.Ask.{Ask}
use Rattle.cni_asks.specs.declared.asks.Ask.TheVariants.{Tell, Begin}
use Rattle.cni_asks.specs.declared.replies.CniReply.{CniReply}
use Rattle.cni_asks.specs.Asking.{add_of, wanting}
use Rattle.cni_asks.specs.Replying.{is_of_container, cni_reply_of, told}
use Rattle.cni_asks.specs.GcAsking.{collect_of, probe_of}
use Rattle.cni_asks.specs.GcReplying.{gc_reply_of, status_reply_of}

-- ---- what a call begins

-- its request with its version, or for VERSION a text at once
abbrev pub begun_by : Look → Ask
begun_by (Version version) = Tell (versions_text version)
begun_by (Add add) = Begin (wanting add.address (add_of add)) add.version
begun_by (Del del) = Begin (request.Del del.handle) del.version
begun_by (Check check) = Begin (request.Check check.handle check.addresses) check.version
begun_by (Gc gc) = Begin (request.Collect (collect_of gc)) gc.version
begun_by (Status status) = Begin (request.Probe (probe_of status)) status.version

-- the requests that calls begin
abbrev pub is_of_call : Request → Bool
is_of_call (request.Collect asked) = true
is_of_call (request.Probe asked) = true
is_of_call other = is_of_container other

abbrev pub IsOfCall : Request → Type 0
IsOfCall asked = IsTrue (is_of_call asked)

-- ---- what it is replied

-- which reply an answer to the request becomes
abbrev pub reply_to : Request → Answer → Option CniReply
reply_to (request.Collect asked) found = gc_reply_of found
reply_to (request.Probe asked) found = status_reply_of found
reply_to asked found = cni_reply_of asked found

-- the rule that rows break, and the key that breaks it
unfoldable pub bad_details : (number : ℕ) → (about : List ℕ) → List ℕ
bad_details number about = codes "OR" ++ (decimal number ++ (codes " " ++ about))

abbrev pub bad_rows : versions.Version → (number : ℕ) → (about : List ℕ) → CniError
bad_rows version number about = record { version = version; code = BadDatastore; details = bad_details number about }

-- the status and the text of a reply
abbrev pub StatusAndText : Type 0
StatusAndText = ℕ × List ℕ

-- ---- what it comes to

-- What a request is replied, and what becomes of the rows that a keeper tells: rows that break a rule
-- stay, and over others the request runs by itself, by a lawful history of its own.
pub data RequestComesTo (asked : Request) (version : versions.Version) (old new : Option (List RowText)) : StatusAndText → Type 0 where
  BadRows : (loaded : List RowText) (number : ℕ) (about : List ℕ)
      → IsTold old loaded → IsRefusedBy (texts_loaded loaded) number about → new ≡ old
      → RequestComesTo asked version old new (1, error_text (bad_rows version number about))
  Answered : (loaded : List RowText) (store : Datastore) (reply : CniReply)
      → IsTold old loaded → OpensAs (texts_loaded loaded) store
      → reply_to asked (alone_over (opened store) asked).0 ≡ Some reply
      → IfSome new (λ after. AreTextsOf after (alone_over (opened store) asked).1)
      → IsAnswerCourse (opened store) asked (alone_over (opened store) asked).0 (alone_over (opened store) asked).1
      → RequestComesTo asked version old new (told version reply)

-- What a call is replied: a refusal and VERSION leave the rows, and else it is what its request comes to.
pub data ComesTo (env : List Pair) (stdin : List ℕ) (old new : Option (List RowText)) : StatusAndText → Type 0 where
  Refused : (error : CniError) → look_reading env stdin ≡ Err error → new ≡ old
      → ComesTo env stdin old new (1, error_text error)
  AtOnce : (look : Look) (text : List ℕ) → look_reading env stdin ≡ Ok look → begun_by look ≡ Tell text → new ≡ old
      → ComesTo env stdin old new (0, text)
  Asked : (look : Look) (asked : Request) (version : versions.Version) (reply : StatusAndText)
      → look_reading env stdin ≡ Ok look → begun_by look ≡ Begin asked version
      → RequestComesTo asked version old new reply
      → ComesTo env stdin old new reply
