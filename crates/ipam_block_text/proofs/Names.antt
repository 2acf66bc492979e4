-- The texts in a block that have a form of their own.
use Rattle.std.proofs.Common.{◌≡◌, ◌∙◌, ℕ, ◌^◌, List, drop, Option, Some, None, option_map, Bool, true, false, Result, Ok, Err, cond, refl, sym, ap, Bor, subst}
use Rattle.std.specs.Prelude.{codes, is_ok, nat_lt}
use Rattle.std.specs.Str.Parse.{digits_value, ParsesUnsigned}
use Rattle.std.specs.Str.{IsCharBoundary}
use Rattle.std.specs.Str.Pattern.{FindsTextPrefix, StripsPrefix}
use Rattle.std.specs.Option.{MatchOption, is_some}
use Rattle.std.specs.Result.{result_ok}
use Rattle.std.proofs.lemmas.Str.Pattern.{starts_text}
use Rattle.ipam_json.specs.Path.{is_index}
use Rattle.ipam_json.proofs.PathLemmas.{index_parsed}
use Rattle.ipam_block_text.specs.Reading.{after_host, is_number_name}

pub host_stripped : (text : List ℕ) (r : Option (Bor (List ℕ))) → MatchOption r (FindsTextPrefix (codes "host:") text None) (λ x. StripsPrefix (FindsTextPrefix (codes "host:")) text x.now) → option_map (λ t. t.now) r ≡ after_host text
unfolding after_host
host_stripped text None h =
    let test = starts_text false (codes "host:") text h in
    ap (λ b. cond b (Some (drop 5 text)) None) test
host_stripped text (Some x) h =
    let P : ℕ → Type 0 = λ k. IsCharBoundary text k in
    let test = starts_text true (codes "host:") text (h.0, h.1, subst P (sym h.1.0) h.1.2) in
    ap Some (h.2 ∙ ap (λ k. drop k text) h.1.0) ∙ ap (λ b. cond b (Some (drop 5 text)) None) test

ok_there : {E : Type 0} (r : Result ℕ E) → is_ok r ≡ is_some (result_ok r)
ok_there (Ok n) = refl
ok_there (Err e) = refl

value_there : (b : Bool) (n : ℕ) → is_some (cond b (Some n) None) ≡ b
value_there true n = refl
value_there false n = refl

pub number_name : {E : Type 0} (name : List ℕ) (r : Result ℕ E) → is_index name ≡ true → ParsesUnsigned 64 10 name r → is_ok r ≡ is_number_name name
unfolding is_number_name
number_name name r index h =
    ok_there r ∙ ap is_some (index_parsed 64 name r index h) ∙ value_there (nat_lt (digits_value 10 name) (2 ^ 64)) (digits_value 10 name) ∙ rw index refl
