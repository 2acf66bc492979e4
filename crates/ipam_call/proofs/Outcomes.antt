-- What comes of the line that was got.
use Rattle.std.proofs.Common.{◌≡◌, ℕ, List, [], ◌∷◌, ◌++◌, inl, Option, Some, arith, ◌≤◌, nat_le, codes, ap, unwrap_or, option_map}
use Rattle.std.specs.Prelude.{Result, Ok, Err}
use Rattle.std.specs.Str.{is_utf8}
use Rattle.std.proofs.lemmas.Bool.{leb-true}
use Rattle.std.proofs.lemmas.Option.{option_and_then_some, cond_some}
use Rattle.serde_json.specs.Data.{Data}
use Rattle.serde_json.specs.Find.{as_object}
use Rattle.serde_json.specs.Read.{read}
use Rattle.ipam_json.specs.Members.{only_if, whole_at, text_at}
use Rattle.ipam_io.specs.Counts.{Rose}
use Rattle.ipam_io.specs.Feeds.{IsLine}
use Rattle.ipam_io.specs.Lines.{IsAnswerTo, OnReadFault, OnNoReadFault}
use Rattle.ipam_io.specs.declared.lines.Got.{Got}
use Rattle.ipam_io.specs.declared.lines.Got.TheVariants.{Line, End, Cut}
use Rattle.ipam_io.specs.declared.lines.LinesFault.{LinesFault}
use Rattle.ipam_io.specs.declared.lines.LinesFault.TheVariants as lines
use Rattle.ipam_call.specs.declared.end.CallFault.TheVariants.{Read, Undecodable, Link, Reply, Memory}
use Rattle.ipam_call.specs.declared.end.DaemonReply.{DaemonReply}
use Rattle.ipam_call.specs.Calls.{CallOutcome, Received, LinkFaults, MayBeReceived, IsExchanged, IsReading, IsOutcomeOf}
use Rattle.ipam_io.specs.declared.limits.TheConstants.{SESSION_LINE_BYTES}
use Rattle.ipam_call.specs.Replies.{HasNoReply, ends, too_long, other, are_of_reply, reply_in, reply_of_line}

-- ---- the bytes

reading_received : (o : CallOutcome) (bytes line rest : List ℕ) → IsLine SESSION_LINE_BYTES line → bytes ≡ line ++ 10 ∷ rest → IsReading o (reply_of_line line) → Received o bytes
reading_received (Ok reply) bytes line rest is splits reads = record { line = line; rest = rest; is_line = is; splits = splits; reads = reads }
reading_received (Err Read) bytes line rest is splits reads = tt
reading_received (Err Undecodable) bytes line rest is splits reads = tt
reading_received (Err Link) bytes line rest is splits reads = tt
reading_received (Err Reply) bytes line rest is splits reads = other line rest is splits reads
reading_received (Err Memory) bytes line rest is splits reads = tt

none_received : (o : CallOutcome) (bytes : List ℕ) → HasNoReply bytes → o ≡ Err Reply → Received o bytes
none_received o bytes none e = rw e none

empty_is_line : (bytes : List ℕ) → bytes ≡ [] → IsLine SESSION_LINE_BYTES bytes
empty_is_line bytes e = rw e ((λ k d less. absurd (omega arith)), omega arith)

pub got_received : (got : Result Got LinesFault) (o : CallOutcome) (bytes : List ℕ) → IsOutcomeOf got o → IsAnswerTo SESSION_LINE_BYTES bytes got → Received o bytes
got_received (Ok (Line line)) o bytes is answer = reading_received o bytes line.items answer.1 answer.0 answer.2 is
got_received (Ok End) o bytes is answer = none_received o bytes (ends (empty_is_line bytes answer)) is
got_received (Ok Cut) o bytes is answer = none_received o bytes (ends answer.0) is
got_received (Err lines.TooLong) o bytes is answer = none_received o bytes (too_long answer) is
got_received (Err lines.Read) o bytes is answer = rw is tt
got_received (Err lines.Memory) o bytes is answer = rw is tt

-- ---- the counts

reading_counted : (o : CallOutcome) (found : Option DaemonReply) (reads reads' writes writes' : ℕ) → IsReading o found → reads' ≡ reads → writes' ≡ writes → LinkFaults o reads reads' writes writes'
reading_counted (Ok reply) found reads reads' writes writes' is e f = (e, f)
reading_counted (Err Read) found reads reads' writes writes' is e f = (e, f)
reading_counted (Err Undecodable) found reads reads' writes writes' is e f = (e, f)
reading_counted (Err Link) found reads reads' writes writes' is e f = absurd is
reading_counted (Err Reply) found reads reads' writes writes' is e f = (e, f)
reading_counted (Err Memory) found reads reads' writes writes' is e f = (e, f)

pub got_counted : (got : Result Got LinesFault) (o : CallOutcome) (reads reads' writes writes' : ℕ) → IsOutcomeOf got o → OnReadFault got (Rose reads reads') → OnNoReadFault got (reads' ≡ reads) → writes' ≡ writes → LinkFaults o reads reads' writes writes'
got_counted (Ok (Line line)) o reads reads' writes writes' is rose same f = reading_counted o (reply_of_line line.items) reads reads' writes writes' is same f
got_counted (Ok End) o reads reads' writes writes' is rose same f = rw is (same, f)
got_counted (Ok Cut) o reads reads' writes writes' is rose same f = rw is (same, f)
got_counted (Err lines.TooLong) o reads reads' writes writes' is rose same f = rw is (same, f)
got_counted (Err lines.Read) o reads reads' writes writes' is rose same f = rw is (inl (rose, f))
got_counted (Err lines.Memory) o reads reads' writes writes' is rose same f = rw is (same, f)

-- ---- the causes

reply_in_small : (d : Data) (reply : DaemonReply) → reply_in d ≡ Some reply → reply.status ≤ 1
unfolding reply_in
reply_in_small d reply e =
    option_and_then_some _ (as_object d) reply e (λ members is e1.
    option_and_then_some _ (only_if (are_of_reply members) d) reply e1 (λ known is1 e2.
    option_and_then_some _ (whole_at (codes "status") known) reply e2 (λ whole is2 e3.
    option_and_then_some _ (only_if (nat_le whole 1) whole) reply e3 (λ status is3 e4.
    option_and_then_some _ (text_at (codes "stdout") known) reply e4 (λ stdout is4 e5.
    let small = cond_some (nat_le whole 1) whole status is3 in
    let same : status ≡ reply.status = ap (λ o. unwrap_or (option_map (λ (r : DaemonReply). r.status) o) 0) e5 in
    let told : whole ≡ status = small.1 in
    let least : whole ≤ 1 = leb-true _ _ small.0 in
    rw (← same, ← told) least)))))

small : (line : List ℕ) (reply : DaemonReply) → reply_of_line line ≡ Some reply → reply.status ≤ 1
unfolding reply_of_line
small line reply e =
    option_and_then_some _ (only_if (is_utf8 line) line) reply e (λ text is e1.
    option_and_then_some _ (read text) reply e1 (λ d is1 e2. reply_in_small d reply e2))

reading_caused : (o : CallOutcome) (line : List ℕ) → IsReading o (reply_of_line line) → MayBeReceived o
reading_caused (Ok reply) line is = small line reply is
reading_caused (Err Read) line is = is
reading_caused (Err Undecodable) line is = is
reading_caused (Err Link) line is = tt
reading_caused (Err Reply) line is = tt
reading_caused (Err Memory) line is = tt

pub got_caused : (got : Result Got LinesFault) (o : CallOutcome) → IsOutcomeOf got o → MayBeReceived o
got_caused (Ok (Line line)) o is = reading_caused o line.items is
got_caused (Ok End) o is = rw is tt
got_caused (Ok Cut) o is = rw is tt
got_caused (Err lines.TooLong) o is = rw is tt
got_caused (Err lines.Read) o is = rw is tt
got_caused (Err lines.Memory) o is = rw is tt

pub exchanged : (o : CallOutcome) → MayBeReceived o → IsExchanged o
exchanged (Ok reply) h = h
exchanged (Err Read) h = h
exchanged (Err Undecodable) h = absurd h
exchanged (Err Link) h = tt
exchanged (Err Reply) h = tt
exchanged (Err Memory) h = tt
