-- The names that are made are sound.
use Rattle.std.proofs.Common.{◌≡◌, ℕ, ◌+◌, ◌<◌, ◌≤◌, ◌^◌, Bool, false, List, [], ◌∷◌, ◌++◌, length, arith, add-one, refl, true, zero, suc, le-leb, lit≤}
use Rattle.std.specs.Prelude.{decimal, ◌&&◌, nat_le, ◌%◌, ◌==◌, if◌then◌else◌}
use Rattle.std.specs.List.{list_all, All}
use Rattle.std.specs.List.Sorted.{IsStrictlySortedBy}
use Rattle.std.specs.Str.Parse.{AllDigits}
use Rattle.std.proofs.lemmas.Fmt.{decimal_is_IsNumeral, length-decimal-le}
use Rattle.std.proofs.lemmas.Str.Parse.{digit_at}
use Rattle.std.proofs.lemmas.Bool.Decides.{nat_tests}
use Rattle.std.proofs.lemmas.Grind.{common_steps}
use Rattle.std.proofs.lemmas.List.Elements.{All-append, All-nil}
use Rattle.ipam_addr.specs.Names.{is_name_byte}
use Rattle.ipam_records.specs.Sound.{IsHandleId, IsName}
use Rattle.ipam_block.specs.Sound.{IsPair}
use Rattle.ipam_model.specs.declared.request.Request.TheVariants.{Del}
use Rattle.ipam_model.specs.SoundRequest.{IsLabel, IsPoolName, IsSoundRequest}
use Rattle.ipam_command.specs.Counted.{IsNoCollection}
use Rattle.ipam_command.specs.Draws.{draw}
use Rattle.ipam_command.specs.Requests.{generated_add, generated_handle, node_of, live_below, even_handle, request_of}

digit-named : (d : ℕ) → 48 ≤ d → d ≤ 57 → is_name_byte d ≡ true
digit-named d low high = grind (arith, nat_tests)

both : (a b : Bool) → a ≡ true → b ≡ true → (a && b) ≡ true
both a b e f = rw (e, f)

digits-named : (ds : List ℕ) → AllDigits 10 ds → list_all is_name_byte ds ≡ true
digits-named [] h = refl
digits-named (d ∷ ds) h =
    let at = digit_at (d ∷ ds) 0 h (omega arith) in
    both (is_name_byte d) (list_all is_name_byte ds) (digit-named d at.0 at.1) (digits-named ds h.1)

pub sound_handle : (n : ℕ) → n < 2 ^ 64 → IsHandleId (generated_handle n)
sound_handle n small =
    let h = decimal_is_IsNumeral n small in
    let named = digits-named (decimal n) h.0.1 in
    let short : length (decimal n) ≤ 20 = length-decimal-le 20 n (omega arith) (omega arith) small in
    both (nat_le (suc (suc (suc (length (decimal n))))) 507) (list_all is_name_byte (decimal n)) (le-leb (suc (suc (suc (length (decimal n))))) 507 (omega arith)) named

pub sound_node : (n : ℕ) → n < 4 → IsName (node_of n)
sound_node n small =
    let fits : n < 2 ^ 64 = omega arith in
    let h = decimal_is_IsNumeral n fits in
    let named = digits-named (decimal n) h.0.1 in
    let short : length (decimal n) ≤ 20 = length-decimal-le 20 n (omega arith) (omega arith) fits in
    both (nat_le (suc (length (decimal n))) 253) (list_all is_name_byte (decimal n)) (le-leb (suc (length (decimal n))) 253 (omega arith)) named

pub live-more : (n : ℕ) → live_below (n + 1) ≡ live_below n ++ even_handle n
unfolding live_below
live-more n = rw add-one

pub live-none : live_below 0 ≡ []
unfolding live_below
live-none = refl

none-sound : All IsHandleId []
none-sound = All-nil IsHandleId

one-sound : (id : List ℕ) → IsHandleId id → All IsHandleId (id ∷ [])
one-sound id h = grind (arith, common_steps)

even-sound : (n : ℕ) → n < 2 ^ 64 → (b : Bool) → All IsHandleId (if b then generated_handle n ∷ [] else [])
even-sound n small true = one-sound (generated_handle n) (sound_handle n small)
even-sound n small false = none-sound

pub sound_live : (n : ℕ) → n < 2 ^ 64 → All IsHandleId (live_below n)
unfolding live_below
sound_live zero small = none-sound
sound_live (suc n) small =
    let fits : n < 2 ^ 64 = omega arith in
    All-append IsHandleId (live_below n) (even_handle n) (sound_live n fits) (even-sound n fits (n % 2 == 0))

pub ruleset live_lemmas = (live-more, live-none, sound_live)

-- ---- the requests

nothing-each : {X : Type 0} (P : X → Type 0) → All P []
nothing-each P = All-nil P

pub sound-add : (handle node : ℕ) → handle < 2 ^ 64 → node < 4 → IsSoundRequest (generated_add handle node)
unfolding generated_add IsStrictlySortedBy
sound-add handle node small few = (
  record {
    node = sound_node node few;
    attributes = record { id = sound_handle handle small; few = lit≤ tt; pairs = nothing-each IsPair; ascending = tt };
    labels = record { few = lit≤ tt; each = nothing-each IsLabel; ascending = tt };
    pools4 = record { few = lit≤ tt; each = nothing-each IsPoolName };
    pools6 = record { few = lit≤ tt; each = nothing-each IsPoolName };
  },
  refl,
)

pub plain-request : (number x : ℕ) → IsNoCollection (request_of number x)
unfolding request_of generated_add
plain-request number x = by (number % 4 == 3)
  where
    by : (b : Bool) → IsNoCollection (if b then Del (generated_handle (draw number x)) else generated_add number (draw 4 x))
    by true = tt
    by false = tt
