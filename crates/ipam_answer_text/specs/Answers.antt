-- The JSON of each answer. The members of an object stand by the bytes of their names.
use Rattle.std.specs.Prelude.{ℕ, List, [], ◌∷◌, codes, map}
use Rattle.serde_json.specs.Data.{Data, boolean, string}
use Rattle.serde_json.specs.Written.{compact_text}
use Rattle.ipam_json.specs.Built.{object_of, array_of, tagged, whole_data}
use Rattle.ipam_addr.specs.declared.address.Family.{Family}
use Rattle.ipam_addr.specs.declared.address.Family.TheVariants.{V4, V6}
use Rattle.ipam_addr.specs.Shape.{AddrValue, CidrValue}
use Rattle.ipam_addr.specs.Text.{cidr_text_of}
use Rattle.ipam_model.specs.declared.answer.Given.{Given}
use Rattle.ipam_model.specs.declared.answer.GivenThis.{GivenThis}
use Rattle.ipam_model.specs.declared.answer.Scan.{Scan}
use Rattle.ipam_model.specs.declared.answer.Item.{Item}
use Rattle.ipam_model.specs.declared.answer.Collected.{Collected as Collection}
use Rattle.ipam_model.specs.declared.answer.Answer.{Answer}
use Rattle.ipam_model.specs.declared.answer.Answer.TheVariants.{Added, AddedThis, Exhausted, NoPool, NotInPool, Taken, NotAffine, Deleted, Checked, NotRecorded, Released, NoAffinity, Collected, Done, Refused, Again, Full, CountFull, Spent, Fault, Ready}
use Rattle.ipam_request_text.specs.Parts.{address_data}

abbrev pub family_number : Family → ℕ
family_number V4 = 4
family_number V6 = 6

unfoldable pub scan_data : Scan → Data
scan_data s =
    object_of ((codes "b", whole_data s.b)
    ∷ (codes "c", whole_data s.c)
    ∷ (codes "f", whole_data s.f)
    ∷ (codes "family", whole_data (family_number s.family))
    ∷ (codes "p", whole_data s.p)
    ∷ (codes "r", whole_data s.r) ∷ [])

unfoldable pub given_data : Given → Data
given_data g =
    object_of ((codes "address", address_data g.address)
    ∷ (codes "b", whole_data g.b)
    ∷ (codes "c", whole_data g.c)
    ∷ (codes "f", whole_data g.f)
    ∷ (codes "p", whole_data g.p)
    ∷ (codes "r", whole_data g.r)
    ∷ (codes "w", whole_data g.w) ∷ [])

unfoldable pub given_this_data : GivenThis → Data
given_this_data g =
    object_of ((codes "address", address_data g.address)
    ∷ (codes "b", whole_data g.b)
    ∷ (codes "c", whole_data g.c)
    ∷ (codes "p", whole_data g.p)
    ∷ (codes "w", whole_data g.w) ∷ [])

unfoldable pub item_data : Item → Data
item_data i =
    object_of ((codes "address", address_data i.address)
    ∷ (codes "freed", boolean i.freed)
    ∷ (codes "handle", string i.handle)
    ∷ (codes "stamp", whole_data i.stamp) ∷ [])

-- the object of this name that holds one number
abbrev pub moment_data : (name member : List ℕ) → ℕ → Data
moment_data name member moment = tagged name (tagged member (whole_data moment))

abbrev pub no_pool_data : List ℕ → ℕ → Data
no_pool_data name moment =
    tagged (codes "noPool")
    (object_of ((codes "name", string name) ∷ (codes "p", whole_data moment) ∷ []))

abbrev pub taken_data : List ℕ → ℕ → Data
taken_data holder moment =
    tagged (codes "taken")
    (object_of ((codes "b", whole_data moment) ∷ (codes "holder", string holder) ∷ []))

abbrev pub not_affine_data : CidrValue → ℕ → Data
not_affine_data cidr moment =
    tagged (codes "notAffine")
    (object_of ((codes "b", whole_data moment) ∷ (codes "cidr", string (cidr_text_of cidr)) ∷ []))

abbrev pub not_recorded_data : AddrValue → ℕ → Data
not_recorded_data address moment =
    tagged (codes "notRecorded")
    (object_of ((codes "address", address_data address) ∷ (codes "moment", whole_data moment) ∷ []))

abbrev pub collected_data : Collection → Data
collected_data c =
    tagged (codes "collected")
    (object_of ((codes "b1", whole_data c.b1)
    ∷ (codes "b2", whole_data c.b2)
    ∷ (codes "items", array_of (map item_data c.items)) ∷ []))

abbrev pub refused_data : ℕ → List ℕ → Data
refused_data refusal name =
    tagged (codes "refused")
    (object_of ((codes "name", string name) ∷ (codes "number", whole_data refusal) ∷ []))

abbrev pub again_data : (lost claims : ℕ) → Data
again_data lost claims =
    tagged (codes "again")
    (object_of ((codes "claims", whole_data claims) ∷ (codes "lost", whole_data lost) ∷ []))

abbrev pub answer_data : Answer → Data
answer_data (Added givens) = tagged (codes "added") (array_of (map given_data givens))
answer_data (AddedThis given) = tagged (codes "addedThis") (given_this_data given)
answer_data (Exhausted scan) = tagged (codes "exhausted") (scan_data scan)
answer_data (NoPool name moment) = no_pool_data name moment
answer_data (NotInPool moment) = moment_data (codes "notInPool") (codes "p") moment
answer_data (Taken holder moment) = taken_data holder moment
answer_data (NotAffine cidr moment) = not_affine_data cidr moment
answer_data (Deleted moment) = moment_data (codes "deleted") (codes "k") moment
answer_data Checked = string (codes "checked")
answer_data (NotRecorded address moment) = not_recorded_data address moment
answer_data Released = string (codes "released")
answer_data (NoAffinity moment) = moment_data (codes "noAffinity") (codes "moment") moment
answer_data (Collected collection) = collected_data collection
answer_data (Done revision) = moment_data (codes "done") (codes "revision") revision
answer_data (Refused refusal name) = refused_data refusal name
answer_data (Again lost claims) = again_data lost claims
answer_data Full = string (codes "full")
answer_data (CountFull moment) = moment_data (codes "countFull") (codes "moment") moment
answer_data Spent = string (codes "spent")
answer_data Fault = string (codes "fault")
answer_data (Ready scans) = tagged (codes "ready") (array_of (map scan_data scans))

-- the text of an answer
unfoldable pub answer_text : Answer → List ℕ
answer_text answer = compact_text (answer_data answer)
