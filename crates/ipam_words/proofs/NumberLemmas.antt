-- A number is read as the definition says.
use Rattle.std.proofs.Common.{◌≡◌, ℕ, List, Result, true}
use Rattle.std.specs.Result.{result_ok}
use Rattle.std.specs.Str.Parse.{ParsesUnsigned}
use Rattle.ipam_json.specs.Path.{is_index}
use Rattle.ipam_json.proofs.PathLemmas.{index_parsed}
use Rattle.ipam_words.specs.Words.{small_number_of}

pub parsed : {E : Type 0} (word : List ℕ) (r : Result ℕ E) → is_index word ≡ true → ParsesUnsigned 32 10 word r → result_ok r ≡ small_number_of word
parsed word r index h = rw index (index_parsed 32 word r index h)
