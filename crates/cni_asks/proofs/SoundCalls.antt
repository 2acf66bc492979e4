-- What good calls ask is sound: the limits of calls are those of requests.
use Rattle.std.proofs.Common.{◌≡◌, ◌⊎◌, inl, inr, ◌||◌, ◌+◌, ◌<◌, ◌≤◌, IsTrue, ℕ, List, length, take, slice_index_or, subst, sym, [], ◌∷◌, Bool, true, false, Result, Ok, Err, is_ok, refl}
use Rattle.std.specs.List.{All}
use Rattle.std.proofs.lemmas.List.Elements.{All-weaker, All-append, All-cons, All-nil}
use Rattle.std.proofs.lemmas.List.{take_all}
use Rattle.std.proofs.Math.Seq.{take-suc}
use native.Mathlib.Numerals.{unary_clauses}
use Rattle.ipam_addr.specs.Width.{IsAddress}
use Rattle.ipam_addr.specs.declared.cidrs.AddrFault.{AddrFault}
use Rattle.ipam_addr.specs.Names.{is_name_text}
use Rattle.ipam_addr.specs.Shape.{AddrValue, CidrValue}
use Rattle.ipam_addr.specs.Text.{cidr_reading}
use Rattle.ipam_records.specs.Sound.{IsPair}
use Rattle.ipam_model.specs.SoundRequest as request
use Rattle.cni_types.specs.declared.calls.CniAdd.{CniAdd}
use Rattle.cni_types.specs.Sound as call
use Rattle.cni_types.specs.Reading.{Pair}
use Rattle.cni_asks.specs.Asking.{add_of}

label_sound : (label : Pair) → call.IsLabel label → request.IsLabel label
label_sound label h = record { key_some = h.key_some; key_small = h.key_small; key_bytes = h.key_bytes; value_small = h.value_small }

pub labels_sound : (labels : List Pair) → call.AreLabels labels → request.AreLabels labels
labels_sound labels h = record { few = h.few; each = All-weaker call.IsLabel request.IsLabel label_sound labels h.each; ascending = h.ascending }

read_cidr : (read : Result CidrValue AddrFault) → IsTrue (is_ok read) → (cidr : CidrValue) × (read ≡ Ok cidr)
read_cidr (Ok cidr) h = (cidr, refl)
read_cidr (Err fault) h = absurd (cc h)

name_or_cidr : (text : List ℕ) (is_name : Bool) → IsTrue (is_name || is_ok (cidr_reading text)) → IsTrue is_name ⊎ ((cidr : CidrValue) × (cidr_reading text ≡ Ok cidr))
name_or_cidr text true h = inl refl
name_or_cidr text false h = inr (read_cidr (cidr_reading text) h)

pool_sound : (text : List ℕ) → call.IsPoolName text → request.IsPoolName text
pool_sound text h = name_or_cidr text (is_name_text text) h

pub pools_sound : (names : List (List ℕ)) → call.ArePoolNames names → request.ArePoolNames names
pools_sound names h = record { few = h.few; each = All-weaker call.IsPoolName request.IsPoolName pool_sound names h.each }

pair_sound : (pair : Pair) → call.IsPair pair → IsPair pair
pair_sound pair h = record { key_some = h.key_some; key_small = h.key_small; value_small = h.value_small }

pub add_sound : (add : CniAdd) → call.IsSoundAdd add → request.IsSoundAdd (add_of add)
add_sound add h = record {
  node = h.node;
  attributes = record {
    id = h.handle;
    few = h.secondary.few;
    pairs = All-weaker call.IsPair IsPair pair_sound add.secondary h.secondary.each;
    ascending = h.secondary.ascending;
  };
  labels = labels_sound add.labels h.labels;
  pools4 = pools_sound add.pools4 h.pools4;
  pools6 = pools_sound add.pools6 h.pools6;
}

-- ---- addresses, one by one

pub one_more : (addresses : List AddrValue) (count : ℕ) (address : AddrValue) → address ≡ slice_index_or addresses count address → count < length addresses
    → IsAddress address → All IsAddress (take count addresses) → All IsAddress (take (count + 1) addresses)
one_more addresses count address same below good before =
    simp unary_clauses (subst (All IsAddress) (sym (take-suc addresses count address below))
    (All-append IsAddress (take count addresses) (slice_index_or addresses count address ∷ []) before
    (All-cons IsAddress (slice_index_or addresses count address) [] (subst IsAddress same good) (All-nil IsAddress))))

pub all_of_them : (addresses : List AddrValue) (count : ℕ) → length addresses ≤ count → All IsAddress (take count addresses) → All IsAddress addresses
all_of_them addresses count h good = subst (All IsAddress) (take_all count addresses h) good
