-- Lists of live handles are read back.
use Rattle.std.proofs.Common.{◌≡◌, ℕ, List, [], ◌∷◌, ◌++◌, map, true, Option, Some, None, refl, ap, ◌∙◌, arith, append_assoc, append-nil, option_and_then, IfSome, sym}
use Rattle.std.specs.List.{AllByRecursion}
use Rattle.serde_json.specs.Data.{Data, string, Items, no_items, item}
use Rattle.serde_json.specs.Find.{as_str, as_array}
use Rattle.serde_json.specs.Read.{read}
use Rattle.serde_json.specs.View.{items_of}
use Rattle.ipam_addr.specs.Names.{is_handle_text}
use Rattle.ipam_json.specs.Canonical.{IsCanonical, IsCanonicalWithin}
use Rattle.ipam_json.proofs.ReadsBack.{read-compact_text}
use Rattle.ipam_json.proofs.Constructors.{IsCanonicalWithin-array, IsCanonicalWithin-string}
use Rattle.ipam_json.specs.Members.{◌>>=◌, only_if}
use Rattle.ipam_record_text.specs.Blocks.{id_of}
use Rattle.ipam_record_text.proofs.Parts.{id_of-is}
use Rattle.ipam_records.specs.Sound.{IsHandleId}
use Rattle.ipam_request_text.specs.Parts.{texts_data}
use Rattle.ipam_request_text.specs.Requests.{live_text}
use Rattle.ipam_request_text.specs.Live.{live_id_in, ids_after, live_in, live_reading}

push-all : (xs : List (List ℕ)) (x : List ℕ) → AllByRecursion IsHandleId xs → IsHandleId x → AllByRecursion IsHandleId (xs ++ x ∷ [])
push-all [] x h k = (k, tt)
push-all (y ∷ xs) x h k = (h.0, push-all xs x h.1 k)

id_in-is : (d : Data) (id : List ℕ) → live_id_in d ≡ Some id → IsHandleId id
unfolding live_id_in
id_in-is d id e = go (as_str d) e
  where
    go : (o : Option (List ℕ)) → option_and_then id_of o ≡ Some id → IsHandleId id
    go (Some text) e' = id_of-is text id e'
    go None e' = cc

ids_after-is : (there : List (List ℕ)) (ds : Items) (ids : List (List ℕ)) → ids_after there ds ≡ Some ids → AllByRecursion IsHandleId there → AllByRecursion IsHandleId ids
ids_after-is there no_items ids e h = let same : there ≡ ids = cc in rw (← same) h
ids_after-is there (item d ds) ids e h =
    next (live_id_in d) refl e (λ c k e'. ids_after-is (there ++ c ∷ []) ds ids e' k)
  where
    next : (found : Option (List ℕ)) → live_id_in d ≡ found → (found >>= λ c. ids_after (there ++ c ∷ []) ds) ≡ Some ids → ((c : List ℕ) → AllByRecursion IsHandleId (there ++ c ∷ []) → ids_after (there ++ c ∷ []) ds ≡ Some ids → AllByRecursion IsHandleId ids) → AllByRecursion IsHandleId ids
    next (Some c) is e' more = more c (push-all there c h (id_in-is d c is)) e'
    next None is e' more = cc

live_in-is : (d : Data) (live : List (List ℕ)) → live_in d ≡ Some live → AllByRecursion IsHandleId live
unfolding live_in
live_in-is d live e = go (as_array d) e
  where
    go : (o : Option Items) → (o >>= λ items. ids_after [] items) ≡ Some live → AllByRecursion IsHandleId live
    go (Some items) e' = ids_after-is [] items live e' tt
    go None e' = cc

pub live_in_sound : (d : Data) (found : Option (List (List ℕ))) → found ≡ live_in d → IfSome found (AllByRecursion IsHandleId)
live_in_sound d None e = tt
live_in_sound d (Some live) e = live_in-is d live (sym e)

pub live_reading-is : (text : List ℕ) (live : List (List ℕ)) → live_reading text ≡ Some live → AllByRecursion IsHandleId live
unfolding live_reading
live_reading-is text live e = go (read text) e
  where
    go : (o : Option Data) → (o >>= λ d. live_in d) ≡ Some live → AllByRecursion IsHandleId live
    go (Some d) e' = live_in-is d live e'
    go None e' = cc

id_in-id : (id : List ℕ) → IsHandleId id → live_id_in (string id) ≡ Some id
unfolding live_id_in id_of
id_in-id id h = let is : is_handle_text id ≡ true = h in rw is refl

ids_after-texts : (there live : List (List ℕ)) → AllByRecursion IsHandleId live → ids_after there (items_of (map string live)) ≡ Some (there ++ live)
ids_after-texts there [] h = rw (append-nil there) refl
ids_after-texts there (id ∷ live) h =
    ap (λ o. o >>= λ c. ids_after (there ++ c ∷ []) (items_of (map string live))) (id_in-id id h.0)
    ∙ ids_after-texts (there ++ id ∷ []) live h.1
    ∙ ap Some (append_assoc there (id ∷ []) live)

texts_canonical : (live : List (List ℕ)) → AllByRecursion (IsCanonicalWithin 0) (map string live)
texts_canonical [] = tt
texts_canonical (t ∷ live) = (IsCanonicalWithin-string 0 t, texts_canonical live)

texts_data-IsCanonical : (live : List (List ℕ)) → IsCanonical (texts_data live)
texts_data-IsCanonical live = IsCanonicalWithin-array 0 _ (map string live) (omega arith) (texts_canonical live)

live_in-texts : (live : List (List ℕ)) → AllByRecursion IsHandleId live → live_in (texts_data live) ≡ Some live
unfolding live_in
live_in-texts live h = ids_after-texts [] live h

pub live_reads_back : (live : List (List ℕ)) → AllByRecursion IsHandleId live → live_reading (live_text live) ≡ Some live
unfolding live_reading live_text
live_reads_back live h =
    ap (λ o. o >>= λ d. live_in d) (read-compact_text (texts_data live) (texts_data-IsCanonical live)) ∙ live_in-texts live h
