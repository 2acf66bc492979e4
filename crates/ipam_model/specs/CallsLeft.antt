-- The most calls that are left of a request: a number that falls at each call without an answer.
use Rattle.std.specs.Prelude.{◌≡◌, ℕ, ◌+◌, ◌-◌, ◌*◌, ◌<◌, ◌⊎◌, List, length, IsTrue, Some}
use Rattle.ipam_records.specs.declared.call.Call.{Call}
use Rattle.ipam_records.specs.Said.{Said}
use Rattle.ipam_records.specs.Word.{Word, Ends, Asks, Waits, next_call, waits, after_reply, after_feed}
use Rattle.ipam_model.specs.declared.answer.Answer.{Answer}
use Rattle.ipam_model.specs.declared.request.CollectRequest.{CollectRequest}
use Rattle.ipam_model.specs.declared.request.Request.{Request}
use Rattle.ipam_model.specs.declared.request.Request.TheVariants.{Add, AddThis, Del, Check, Release, Collect, Admin, Probe}
use Rattle.ipam_model.specs.Reads.{handle_said, rows_said}
use Rattle.ipam_model.specs.Remove.{suspects}
use Rattle.ipam_model.specs.Requests.{word_of}

-- at most so many calls come before the answer, or before a wait, after which the number is another
abbrev pub Falls : {A : Type 0} → Word A → ℕ → Type 0
Falls (Ends answer) count = Unit {0}
Falls (Asks label call next) count =
    (0 < count) × ((moment : ℕ) (said : Said) → Falls (next moment said) (count - 1))
Falls (Waits next) count = (live : List (List ℕ)) → (more : ℕ) × Falls (next live) more

-- a DEL that has not read its handle, which says how many blocks there are
pub record IsUnread (request : Request) (word : Word Answer) : Type 0 where
  pub id : List ℕ
  pub is_del : request ≡ Del id
  pub is_whole : word ≡ word_of request

-- so many calls are left at most of what is left of the request
pub record CallsLeft (request : Request) (word : Word Answer) (count : ℕ) : Type 0 where
  pub some_left : (call : Call) → next_call word ≡ Some call → 0 < count
  pub is_bound : IsUnread request word ⊎ Falls word count

-- with how many a request begins: a DEL with the read of its handle, and a collection with its first list
abbrev pub calls_at_first : Request → ℕ
calls_at_first (Add request) = 2000
calls_at_first (AddThis request address) = 2000
calls_at_first (Del id) = 1
calls_at_first (Check id addresses) = 1 + length addresses
calls_at_first (Release node cidr) = 400
calls_at_first (Collect request) = 1
calls_at_first (Admin request) = 200
calls_at_first (Probe request) = 10

pub record CallsLeftLaw : Type 0 where
  pub is_begun : (request : Request) → CallsLeft request (word_of request) (calls_at_first request)
  -- a call without an answer lowers the number, but for a DEL's first read
  pub is_called : (request : Request) (word : Word Answer) (count : ℕ) → CallsLeft request word count
      → (moment : ℕ) (said : Said) (call : Call) → next_call word ≡ Some call
      → (0 < count) × (IsUnread request word ⊎ CallsLeft request (after_reply word moment said) (count - 1))
  -- which sets it by the blocks of the handle
  pub is_read : (id : List ℕ) (moment : ℕ) (said : Said)
      → CallsLeft (Del id) (after_reply (word_of (Del id)) moment said) (199 + 4 * length (handle_said id said).counts)
  -- a second list of live handles sets it anew
  pub is_fed : (request : Request) (word : Word Answer) (count : ℕ) → CallsLeft request word count → IsTrue (waits word)
      → (live : List (List ℕ)) → (more : ℕ) × CallsLeft request (after_feed word live) more
  -- by what may leak of what was listed first
  pub is_fed_first : (request : CollectRequest) (moment : ℕ) (first : Said) (live : List (List ℕ))
      → CallsLeft (Collect request) (after_feed (after_reply (word_of (Collect request)) moment first) live)
      (199 + 4 * length (suspects request (rows_said first)))
