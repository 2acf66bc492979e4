-- How a whole call goes, by what was read of standard input and how the exchange went.
use Rattle.std.proofs.Common.{◌≡◌, ℕ, ◌≤◌, List, [], ◌++◌, length, Option, Some, None, refl, sym, ap, subst, option_and_then}
use Rattle.std.specs.Prelude.{Ok, Err, IfSome}
use Rattle.std.specs.Io.KnownBytes.{prepend_known, IsAtEnd}
use Rattle.cni_types.specs.Looking.{input_text}
use Rattle.cni_types.specs.Reading.{Pair}
use Rattle.ipam_call.specs.declared.end.CallFault.TheVariants.{Read, Undecodable, Link, Reply, Memory}
use Rattle.ipam_call.specs.Calls.{CallOutcome, Sent, IsExchanged, HasStatus, ReadToEnd, SourceFaults}
use Rattle.ipam_call.specs.Requests.{line_for, sendable, cni_call_text}
use Rattle.cni_types.specs.declared.version.Version.{Version}
use Rattle.ipam_call.specs.Versions.{version_for}
use Rattle.ipam_call.proofs.Inputs.{input_text_whole, input_text_short}

line_whole : (env : List Pair) (input rest : List ℕ) → (length input ≤ 1048576 → rest ≡ []) → line_for env (input ++ rest) ≡ line_for env input
unfolding line_for
line_whole env input rest whole = ap (option_and_then (λ text. sendable (cni_call_text env text))) (input_text_whole input rest whole)

version_whole : (input rest : List ℕ) → (length input ≤ 1048576 → rest ≡ []) → version_for (input ++ rest) ≡ version_for input
unfolding version_for
version_whole input rest whole = rw (input_text_whole input rest whole) refl

-- what holds of what was read holds of all that the source had
of_whole : (P : List ℕ → Type 0) (old new : Option (List ℕ)) (input : List ℕ) → old ≡ prepend_known input new → (length input ≤ 1048576 → IsAtEnd new) → ((rest : List ℕ) → (length input ≤ 1048576 → rest ≡ []) → P (input ++ rest)) → IfSome old P
of_whole P old None input same whole holds = subst (λ o. IfSome o P) (sym same) tt
of_whole P old (Some rest) input same whole holds = subst (λ o. IfSome o P) (sym same) (holds rest whole)

pub sent_whole : (env : List Pair) (o : CallOutcome) (sent sent' : Option (List ℕ)) (old new : Option (List ℕ)) (input : List ℕ) → old ≡ prepend_known input new → (length input ≤ 1048576 → IsAtEnd new) → Sent o (line_for env input) sent sent' → IfSome old (λ bytes. Sent o (line_for env bytes) sent sent')
sent_whole env o sent sent' old new input same whole holds =
    of_whole (λ bytes. Sent o (line_for env bytes) sent sent') old new input same whole (λ rest none.
    subst (λ line. Sent o line sent sent') (sym (line_whole env input rest none)) holds)

pub told_whole : (P : Version → Type 0) (old new : Option (List ℕ)) (input : List ℕ) → old ≡ prepend_known input new → (length input ≤ 1048576 → IsAtEnd new) → P (version_for input) → IfSome old (λ bytes. P (version_for bytes))
told_whole P old new input same whole holds =
    of_whole (λ bytes. P (version_for bytes)) old new input same whole (λ rest none.
    subst P (sym (version_whole input rest none)) holds)

line_short : (env : List Pair) (input line : List ℕ) → line_for env input ≡ Some line → length input ≤ 1048576
unfolding line_for
line_short env input line e = go (input_text input) refl e
  where
    go : (o : Option (List ℕ)) → input_text input ≡ o → option_and_then (λ text. sendable (cni_call_text env text)) o ≡ Some line → length input ≤ 1048576
    go (Some text) is e' = input_text_short input text is
    go None is e' = absurd cc

-- a line was sent only once standard input was read to its end
pub read_to_end : (env : List Pair) (o : CallOutcome) (sent sent' left : Option (List ℕ)) (input : List ℕ) → Sent o (line_for env input) sent sent' → (length input ≤ 1048576 → IsAtEnd left) → ReadToEnd o left
read_to_end env (Ok reply) sent sent' left input h whole = whole (line_short env input h.0 h.1)
read_to_end env (Err Read) sent sent' left input h whole = tt
read_to_end env (Err Undecodable) sent sent' left input h whole = tt
read_to_end env (Err Link) sent sent' left input h whole = whole (line_short env input h.0 h.1)
read_to_end env (Err Reply) sent sent' left input h whole = whole (line_short env input h.0 h.1)
read_to_end env (Err Memory) sent sent' left input h whole = tt

pub source_kept : (o : CallOutcome) (faults faults' : ℕ) → IsExchanged o → faults' ≡ faults → SourceFaults o faults faults'
source_kept (Ok reply) faults faults' h e = e
source_kept (Err Read) faults faults' h e = absurd h
source_kept (Err Undecodable) faults faults' h e = e
source_kept (Err Link) faults faults' h e = e
source_kept (Err Reply) faults faults' h e = e
source_kept (Err Memory) faults faults' h e = e

pub status_told : (o : CallOutcome) → IsExchanged o → HasStatus o
status_told (Ok reply) h = h
status_told (Err fault) h = tt
