use Rattle.std.proofs.Common.{◌≡◌, List, ℕ, Option, Some, IfOk, sym, ap, ◌∙◌, subst}
use Rattle.ipam_addr.specs.Shape.{AddrValue}
use Rattle.ipam_collect.specs.declared.collect.Grace.{Grace}
use Rattle.ipam_model.specs.declared.answer.Answer.{Answer}
use Rattle.ipam_model.specs.Affinities.{release}
use Rattle.ipam_model.specs.Look.{check_word}
use Rattle.ipam_model.specs.Remove.{del_word}
use Rattle.ipam_model.specs.Requests.{word_of}
use Rattle.ipam_model.specs.Told.{of_add, of_add_this, of_del, of_check, of_release, of_collect, of_admin, of_probe}
use Rattle.ipam_records.specs.Word.{Word}
use Rattle.ipam_cluster.specs.Running.{telling, running_rest, running_grace, grace_of}
use Rattle.ipam_cluster.proofs.running.Running.of.Goals as goal

pub returns-in_ok-new-in-Add-clause-word : goal.returns-in_ok-new-in-Add-clause-word
unfolding word_of telling running_rest
returns-in_ok-new-in-Add-clause-word c =
    ap (telling of_add) c.in_ok-new-in-Add.ensures ∙ ap word_of (sym c.in-Add.is)

pub returns-in_ok-new-in-Add-clause-grace : goal.returns-in_ok-new-in-Add-clause-grace
unfolding running_grace
returns-in_ok-new-in-Add-clause-grace c = ap grace_of (sym c.in-Add.is)

pub returns-in_ok-new-in-AddThis-clause-word : goal.returns-in_ok-new-in-AddThis-clause-word
unfolding word_of telling running_rest
returns-in_ok-new-in-AddThis-clause-word c =
    ap (telling of_add_this) c.in_ok-new-in-AddThis.ensures ∙ ap word_of (sym c.in-AddThis.is)

pub returns-in_ok-new-in-AddThis-clause-grace : goal.returns-in_ok-new-in-AddThis-clause-grace
unfolding running_grace
returns-in_ok-new-in-AddThis-clause-grace c = ap grace_of (sym c.in-AddThis.is)

pub returns-in_ok-new-in-Del-clause-word : goal.returns-in_ok-new-in-Del-clause-word
unfolding word_of telling running_rest
returns-in_ok-new-in-Del-clause-word c =
    ap (telling of_del) c.in_ok-new-in-Del.ensures ∙ ap (λ (id : List ℕ). telling of_del (del_word id)) c.as_str.ensures ∙ ap word_of (sym c.in-Del.is)

pub returns-in_ok-new-in-Del-clause-grace : goal.returns-in_ok-new-in-Del-clause-grace
unfolding running_grace
returns-in_ok-new-in-Del-clause-grace c = ap grace_of (sym c.in-Del.is)

pub returns-in_ok-new-in-Check-clause-word : goal.returns-in_ok-new-in-Check-clause-word
unfolding word_of telling running_rest
returns-in_ok-new-in-Check-clause-word c =
    ap (telling of_check) c.in_ok-new-in-Check.ensures
    ∙ ap (λ (id : List ℕ). telling of_check (check_word id c.as_slice.result.now)) c.as_str-in-Check.ensures
    ∙ ap (λ (addresses : List AddrValue). telling of_check (check_word c.in-Check.id addresses)) c.as_slice.ensures
    ∙ ap word_of (sym c.in-Check.is)

pub returns-in_ok-new-in-Check-clause-grace : goal.returns-in_ok-new-in-Check-clause-grace
unfolding running_grace
returns-in_ok-new-in-Check-clause-grace c = ap grace_of (sym c.in-Check.is)

pub returns-in_ok-new-in-Collect-clause-word : goal.returns-in_ok-new-in-Collect-clause-word
unfolding word_of telling running_rest
returns-in_ok-new-in-Collect-clause-word c =
    ap (telling of_collect) c.in_ok-new-in-Collect.ensures.word ∙ ap word_of (sym c.in-Collect.is)

pub returns-in_ok-new-in-Collect-clause-grace : goal.returns-in_ok-new-in-Collect-clause-grace
unfolding running_grace
returns-in_ok-new-in-Collect-clause-grace c =
    ap Some c.in_ok-new-in-Collect.ensures.grace ∙ ap grace_of (sym c.in-Collect.is)

pub returns-in_ok-new-in-Admin-clause-word : goal.returns-in_ok-new-in-Admin-clause-word
unfolding word_of telling running_rest
returns-in_ok-new-in-Admin-clause-word c =
    ap (telling of_admin) c.in_ok-new-in-Admin.ensures ∙ ap word_of (sym c.in-Admin.is)

pub returns-in_ok-new-in-Admin-clause-grace : goal.returns-in_ok-new-in-Admin-clause-grace
unfolding running_grace
returns-in_ok-new-in-Admin-clause-grace c = ap grace_of (sym c.in-Admin.is)

pub returns-in_ok-new-in-Probe-clause-word : goal.returns-in_ok-new-in-Probe-clause-word
unfolding word_of telling running_rest
returns-in_ok-new-in-Probe-clause-word c =
    ap (telling of_probe) c.in_ok-new-in-Probe.ensures ∙ ap word_of (sym c.in-Probe.is)

pub returns-in_ok-new-in-Probe-clause-grace : goal.returns-in_ok-new-in-Probe-clause-grace
unfolding running_grace
returns-in_ok-new-in-Probe-clause-grace c = ap grace_of (sym c.in-Probe.is)

pub returns-in-Release-clause-word : goal.returns-in-Release-clause-word
unfolding word_of telling running_rest
returns-in-Release-clause-word c =
    subst (λ (w : Word Answer). IfOk c.release_of.result (λ p. running_rest p ≡ w))
    (ap (λ (node : List ℕ). telling of_release (release node c.in-Release.cidr)) c.as_str-in-Release.ensures ∙ ap word_of (sym c.in-Release.is)) c.release_of.ensures.word

pub returns-in-Release-clause-grace : goal.returns-in-Release-clause-grace
unfolding running_grace
returns-in-Release-clause-grace c =
    subst (λ (g : Option Grace). IfOk c.release_of.result (λ p. running_grace p ≡ g)) (ap grace_of (sym c.in-Release.is)) c.release_of.ensures.grace
