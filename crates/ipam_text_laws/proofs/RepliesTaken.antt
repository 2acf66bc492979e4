-- The reply to a call is taken as such.
use Rattle.std.proofs.Common.{◌≡◌, ℕ, ◌≤◌, ◌<◌, ◌^◌, List, [], ◌∷◌, codes, true, Some, IsUtf8, refl, arith, nat_le, nat_lt}
use Rattle.std.specs.Str.{is_utf8}
use Rattle.std.proofs.lemmas.Str.{is_utf8-from_IsUtf8}
use Rattle.std.proofs.lemmas.Bool.{le-leb}
use Rattle.serde_json.specs.Data.{number, unsigned, string}
use Rattle.serde_json.specs.Read.{read}
use Rattle.serde_json.specs.Written.{compact_text}
use Rattle.ipam_json.specs.Canonical.{IsCanonical, HasTexts}
use Rattle.ipam_json.proofs.Constructors.{IsCanonicalWithin-object, IsCanonicalWithin-string, IsCanonicalWithin-number}
use Rattle.ipam_json.proofs.ReadsBack.{read-compact_text}
use Rattle.ipam_json.proofs.Utf8Texts.{IsUtf8-compact_text}
use Rattle.json.proofs.Printed.Utf8.{IsUtf8-are_ascii}
use Rattle.ipam_call.specs.Replies.{reply_in, reply_of_line}
use Rattle.ipam_session.specs.Replies.{call_reply_data, call_text}

small : (status : ℕ) → status ≤ 1 → status < 2 ^ 64
small status h = omega arith

reply_canonical : (status : ℕ) (stdout : List ℕ) → status ≤ 1 → IsCanonical (call_reply_data status stdout)
unfolding call_reply_data
reply_canonical status stdout h =
    IsCanonicalWithin-object 0 _ ((codes "status", number (unsigned status)) ∷ (codes "stdout", string stdout) ∷ []) (omega arith) (refl, tt) (IsCanonicalWithin-number 0 status (small status h), (IsCanonicalWithin-string 0 stdout, tt))

reply_texts : (status : ℕ) (stdout : List ℕ) → IsUtf8 stdout → HasTexts (call_reply_data status stdout)
unfolding call_reply_data
reply_texts status stdout text =
    (IsUtf8-are_ascii (codes "status") refl, tt, (IsUtf8-are_ascii (codes "stdout") refl, text, tt))

reply_read : (status : ℕ) (stdout : List ℕ) → status ≤ 1 → reply_in (call_reply_data status stdout) ≡ Some (record { status = status; stdout = stdout })
unfolding call_reply_data reply_in
reply_read status stdout h = rw (le-leb status 1 h) refl

pub replied_taken : (status : ℕ) (stdout : List ℕ) → status ≤ 1 → IsUtf8 stdout → reply_of_line (call_text status stdout) ≡ Some (record { status = status; stdout = stdout })
unfolding reply_of_line call_text
replied_taken status stdout h text =
    let utf8 = is_utf8-from_IsUtf8 (compact_text (call_reply_data status stdout)) (IsUtf8-compact_text (call_reply_data status stdout) (reply_canonical status stdout h) (reply_texts status stdout text)) in
    rw (utf8, read-compact_text (call_reply_data status stdout) (reply_canonical status stdout h)) (reply_read status stdout h)
