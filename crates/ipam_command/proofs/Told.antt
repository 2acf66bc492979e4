-- How a request's answer is told.
use Rattle.std.proofs.Common.{◌≡◌, ◌≢◌, ◌⊎◌, inl, inr, Option, Some, None, option_map, Result, Ok, Err, refl, sym, ap, ◌∙◌, subst}
use Rattle.std.specs.Prelude.{IfOk, OnErr}
use Rattle.ipam_model.specs.declared.answer.Answer.{Answer}
use Rattle.ipam_model.specs.declared.answer.Answer.TheVariants.{Fault}
use Rattle.ipam_model.specs.declared.request.Request.{Request}
use Rattle.cni_types.specs.declared.version.Version.{Version}
use Rattle.cni_asks.specs.declared.replies.CniReply.{CniReply}
use Rattle.cni_asks.specs.Replying.{told}
use Rattle.ipam_command.specs.declared.cni_end.CniEnd.{CniEnd}
use Rattle.ipam_command.specs.declared.cni_end.CniEnd.TheVariants.{Told, Failed}
use Rattle.ipam_command.specs.declared.cni_end.CniFault.TheVariants.{Read, Undecodable, Keeper, Memory}
use Rattle.ipam_command.specs.Calls.{AnswerEnds, AnswerTold, NoMemory, OnWant, end_of}
use Rattle.ipam_command.specs.Replies.{StatusAndText, reply_to}

pub answer_told : {E : Type 0} (asked : Request) (found : Answer) (version : Version) (reply : Result StatusAndText E) (end : CniEnd) → found ≢ Fault → IfOk reply (λ r. option_map (told version) (reply_to asked found) ≡ Some r) → end ≡ end_of version reply → AnswerEnds asked found version end
answer_told asked found version (Err none) end not is e = subst (λ (x : CniEnd). AnswerEnds asked found version x) (sym e) (NoMemory not)
answer_told asked found version (Ok r) end not is e = go (reply_to asked found) refl is
  where
    go : (o : Option CniReply) → reply_to asked found ≡ o → option_map (told version) o ≡ Some r → AnswerEnds asked found version end
    go (Some reply) has same =
        let same' : told version reply ≡ r = cc in
        let ends : end ≡ Told (told version reply).0 (told version reply).1 = e ∙ ap (λ (x : StatusAndText). Told x.0 x.1) (sym same') in
        subst (λ (x : CniEnd). AnswerEnds asked found version x) (sym ends) (AnswerTold reply not has)
    go None has same = absurd cc

-- ---- want of memory

-- an end has it only where its reply has
pub end_wants : {E : Type 0} (wants : Type 0) (version : Version) (reply : Result StatusAndText E) (end : CniEnd) → OnErr reply wants → end ≡ end_of version reply → OnWant end wants
end_wants wants version (Ok reply) end found is = subst (λ (x : CniEnd). OnWant x wants) (sym is) tt
end_wants wants version (Err none) end found is = subst (λ (x : CniEnd). OnWant x wants) (sym is) found

pub on_want : (p q : Type 0) (end : CniEnd) → (p → q) → OnWant end p → OnWant end q
on_want p q (Told status text) then found = tt
on_want p q (Failed version Read) then found = tt
on_want p q (Failed version Undecodable) then found = tt
on_want p q (Failed version Keeper) then found = tt
on_want p q (Failed version Memory) then found = then found

-- rows that were not opened: their opening found none, or their text did
pub unopened_wants : (unopened opening stepping telling : Type 0) (end : CniEnd) → (unopened → opening) → OnWant end (unopened ⊎ telling) → OnWant end (opening ⊎ stepping ⊎ telling)
unopened_wants unopened opening stepping telling end why found = on_want (unopened ⊎ telling) (opening ⊎ stepping ⊎ telling) end then found
  where
    then : unopened ⊎ telling → opening ⊎ stepping ⊎ telling
    then (inl is) = inl (why is)
    then (inr none) = inr (inr none)
