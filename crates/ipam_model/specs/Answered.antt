-- Where a request has answered.
use Rattle.std.specs.Prelude.{ℕ, List, ◌∷◌}
use Rattle.ipam_model.specs.declared.entry.Called.{Called}
use Rattle.ipam_model.specs.declared.entry.Entry.{Entry}
use Rattle.ipam_model.specs.declared.entry.Entry.TheVariants as entry
use Rattle.ipam_model.specs.declared.request.Request.{Request}
use Rattle.ipam_model.specs.History.{Base, RequestSpan, moment_of, since_begin}
use Rattle.ipam_model.specs.Tries.{calls_of}

-- the request, its call that answers, and the history before that
pub record Answered : Type 0 where
  pub base : Base
  pub earlier : List Entry
  pub call : Called
  pub request : Request

abbrev pub history_of : Answered → List Entry
history_of a = entry.Called a.call ∷ a.earlier

-- the moment of the call that answers
abbrev pub now_of : Answered → ℕ
now_of a = moment_of a.base a.earlier

-- all that the request did, with the call that answers
abbrev pub span_of : Answered → RequestSpan
span_of a = record { base = a.base; history = history_of a; slot = a.call.slot }

-- the request's own calls before the one that answers
abbrev pub earlier_calls : Answered → List Called
earlier_calls a = calls_of a.call.slot (since_begin a.call.slot a.earlier)
