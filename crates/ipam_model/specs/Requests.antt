-- The word of each request.
use Rattle.ipam_records.specs.Word.{Word, Ends, bound}
use Rattle.ipam_model.specs.declared.answer.Answer.{Answer}
use Rattle.ipam_model.specs.declared.request.Request.{Request}
use Rattle.ipam_model.specs.declared.request.Request.TheVariants.{Add, AddThis, Del, Check, Release, Collect, Admin, Probe}
use Rattle.ipam_model.specs.Add.{add_word}
use Rattle.ipam_model.specs.AddThis.{add_this_word}
use Rattle.ipam_model.specs.Admin.{admin_word}
use Rattle.ipam_model.specs.Affinities.{release as release_word}
use Rattle.ipam_model.specs.Look.{check_word, probe_word}
use Rattle.ipam_model.specs.Remove.{del_word, collect_word}
use Rattle.ipam_model.specs.Told.{of_add, of_add_this, of_del, of_check, of_release, of_collect, of_admin, of_probe}

-- the request changes a pool, a reservation or the configuration
abbrev pub IsChange : Request → Type 0
IsChange (Admin one) = Unit {0}
IsChange _ = ⊥

-- the word with its answers told so
abbrev pub told_as : {A : Type 0} → (A → Answer) → Word A → Word Answer
told_as of_one word = bound word (λ one. Ends (of_one one))

-- What the request does, call by call.
unfoldable pub word_of : Request → Word Answer
word_of (Add request) = told_as of_add (add_word request)
word_of (AddThis request address) = told_as of_add_this (add_this_word request address)
word_of (Del id) = told_as of_del (del_word id)
word_of (Check id addresses) = told_as of_check (check_word id addresses)
word_of (Release node cidr) = told_as of_release (release_word node cidr)
word_of (Collect request) = told_as of_collect (collect_word request)
word_of (Admin request) = told_as of_admin (admin_word request)
word_of (Probe request) = told_as of_probe (probe_word request)
