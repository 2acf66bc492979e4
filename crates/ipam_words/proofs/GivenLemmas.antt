-- Words of which one is no text.
use Rattle.std.proofs.Common.{◌≡◌, ℕ, List, [], ◌∷◌, Option, Some, None, refl, sym, subst}
use Rattle.ipam_words.specs.Daemon.{daemon_asked}
use Rattle.ipam_words.specs.Words.{word_named}
use Rattle.ipam_words.specs.Given.{NameNothing}
use Rattle.ipam_words.specs.Upkeep.{upkeep_asked}

no-daemon : (named : Option (List ℕ)) → daemon_asked ((239 ∷ 191 ∷ 189 ∷ []) ∷ []) named ≡ None
unfolding word_named
no-daemon None = refl
no-daemon (Some address) = refl

no-upkeep : (named : Option (List ℕ)) → upkeep_asked ((239 ∷ 191 ∷ 189 ∷ []) ∷ []) named ≡ None
unfolding word_named
no-upkeep None = refl
no-upkeep (Some address) = refl

is-none : NameNothing ((239 ∷ 191 ∷ 189 ∷ []) ∷ [])
unfolding word_named
is-none = record { command = refl; daemon = no-daemon; upkeep = no-upkeep; help = refl }

pub no_text : (words : List (List ℕ)) → words ≡ (239 ∷ 191 ∷ 189 ∷ []) ∷ [] → NameNothing words
no_text words are = subst (λ (w : List (List ℕ)). NameNothing w) (sym are) is-none
