-- What is taken for a reply.
use Rattle.std.specs.Prelude.{◌≡◌, ℕ, List, ◌∷◌, ◌++◌, nat_le, codes, Bool, true, ◌&&◌, ◌||◌, bytes_eq, Option, Some, None}
use Rattle.std.specs.Str.{is_utf8}
use Rattle.serde_json.specs.Data.{Data, Members, no_members, member}
use Rattle.serde_json.specs.Find.{as_object}
use Rattle.serde_json.specs.Read.{read}
use Rattle.ipam_io.specs.declared.limits.TheConstants.{SESSION_LINE_BYTES}
use Rattle.ipam_io.specs.Feeds.{IsLine, IsTooLong}
use Rattle.ipam_json.specs.Members.{◌>>=◌, only_if, whole_at, text_at}
use Rattle.ipam_call.specs.declared.end.DaemonReply.{DaemonReply}

abbrev pub in_reply : List ℕ → Bool
in_reply name = bytes_eq name (codes "status") || bytes_eq name (codes "stdout")

-- no member is unknown
abbrev pub are_of_reply : Members → Bool
are_of_reply no_members = true
are_of_reply (member name d ms) = in_reply name && are_of_reply ms

-- the reply that the JSON is: a status of 0 or 1, a text, and no other member
unfoldable pub reply_in : Data → Option DaemonReply
reply_in d = do
  members ← as_object d
  known ← only_if (are_of_reply members) d
  whole ← whole_at (codes "status") known
  status ← only_if (nat_le whole 1) whole
  stdout ← text_at (codes "stdout") known
  Some (record { status = status; stdout = stdout })

-- the reply that the line is
unfoldable pub reply_of_line : List ℕ → Option DaemonReply
reply_of_line line = do
  text ← only_if (is_utf8 line) line
  d ← read text
  reply_in d

-- the bytes begin with a line that is this reply
pub record HasReply (bytes : List ℕ) (reply : DaemonReply) : Type 0 where
  pub line : List ℕ
  pub rest : List ℕ
  pub is_line : IsLine SESSION_LINE_BYTES line
  pub splits : bytes ≡ line ++ 10 ∷ rest
  pub reads : reply_of_line line ≡ Some reply

-- the bytes end before a line feed, have none where a line may have it, or begin with a line that is no reply
pub data HasNoReply (bytes : List ℕ) : Type 0 where
  ends : IsLine SESSION_LINE_BYTES bytes → HasNoReply bytes
  too_long : IsTooLong SESSION_LINE_BYTES bytes → HasNoReply bytes
  other : (line rest : List ℕ) → IsLine SESSION_LINE_BYTES line → bytes ≡ line ++ 10 ∷ rest → reply_of_line line ≡ None → HasNoReply bytes
