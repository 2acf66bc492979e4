use Rattle.std.proofs.Common.{Some, refl, ap, rules, subst}
use Rattle.ipam_words.specs.declared.command.Command.{Command}
use Rattle.ipam_words.specs.Words.{Cni, Play, Apply, Get, Help, IsSound, Routes, Release, Gen, Show, Version, asked_by}
use Rattle.ipam_views.specs.Shown.{shown_text}
use Rattle.ipam_words.specs.Views.{seen_by}
use Rattle.ipam_commands.specs.Texts.{routes_text}
use Rattle.ipam_show.specs.Rows.{rows_text}
use Rattle.ipam_command.proofs.Writing.{so_far_right}
use Rattle.ipam_command.proofs.CallLemmas.{call_by_records, leaves_spared, never_says_try_again, tells_of_add}
use Rattle.ipam_command.proofs.DoLemmas.{apply-ends, asked, does-gen, does-play, does-tell, written-right}
use Rattle.ipam_command.proofs.running.run.Goals as goal

pub release-requires : goal.release-requires
release-requires g c = subst (λ (x : Command). IsSound (asked_by x)) c.in-Release.is c.requires

pub returns-in-Play-clause-does : goal.returns-in-Play-clause-does
returns-in-Play-clause-does g c =
    asked _ c.args.env.now _ (Some Play) _ _ _ (ap (λ (x : Command). Some (asked_by x)) c.in-Play.is)
    (does-play _ _ c.play.result _ c.code_of_play.ensures
    (record {
      written = written-right _ _ _ _ c.play.ensures.written;
      so_far = λ is. so_far_right _ _ _ _ (c.play.ensures.so_far is);
      at_end = c.play.ensures.read;
      read_fault = c.play.ensures.read_fault;
      no_read_fault = c.play.ensures.no_read_fault;
      write_fault = c.play.ensures.write_fault;
      no_write_fault = c.play.ensures.no_write_fault;
    })
    (record { rows = refl; keeper_faults = refl }))

pub returns-in-Gen-clause-does : goal.returns-in-Gen-clause-does
returns-in-Gen-clause-does g c =
    asked _ c.args.env.now _ (Some (Gen c.in-Gen.count)) _ _ _ (ap (λ (x : Command). Some (asked_by x)) c.in-Gen.is)
    (does-gen c.in-Gen.count _ _ c.generate.result _ c.code_of_gen.ensures c.generate.ensures.written c.generate.ensures.faults
    (record { left = refl; read_faults = refl }) (record { rows = refl; keeper_faults = refl }))

pub returns-in-Get-clause-does : goal.returns-in-Get-clause-does
returns-in-Get-clause-does g c =
    asked _ c.args.env.now _ (Some (Get c.in-Get.kind)) _ _ _ (ap (λ (x : Command). Some (asked_by x)) c.in-Get.is)
    (does-tell (λ rows store. rows_text c.in-Get.kind rows) _ _ c.get.result _ (search rules) c.get.ensures.told
    (record { left = refl; read_faults = refl }) c.get.ensures.same_rows)

pub returns-in-Show-clause-does : goal.returns-in-Show-clause-does
returns-in-Show-clause-does g c =
    asked _ c.args.env.now _ (Some (Show (seen_by c.in-Show.view))) _ _ _ (ap (λ (x : Command). Some (asked_by x)) c.in-Show.is)
    (does-tell (λ rows store. shown_text (seen_by c.in-Show.view) store) _ _ c.show.result _ (search rules) c.show.ensures.told
    (record { left = refl; read_faults = refl }) c.show.ensures.same_rows)

pub returns-in-Routes-clause-does : goal.returns-in-Routes-clause-does
returns-in-Routes-clause-does g c =
    asked _ c.args.env.now _ (Some (Routes c.in-Routes.node.now)) _ _ _ (ap (λ (x : Command). Some (asked_by x)) c.in-Routes.is)
    (does-tell (λ rows store. routes_text c.in-Routes.node.now store) _ _ c.routes.result _ (search rules) c.routes.ensures.told
    (record { left = refl; read_faults = refl }) c.routes.ensures.same_rows)

pub returns-in-Release-clause-does : goal.returns-in-Release-clause-does
returns-in-Release-clause-does g c =
    asked _ c.args.env.now _ (Some (Release c.in-Release.node.now c.in-Release.block)) _ _ _ (ap (λ (x : Command). Some (asked_by x)) c.in-Release.is)
    (record {
      came = c.release.ensures.released.0;
      ending = c.release.result;
      has_status = search rules;
      ends = c.release.ensures.released.1;
      writes = c.release.ensures.released.2;
      source = record { left = refl; read_faults = refl };
    })

pub returns-in-Cni-clause-does : goal.returns-in-Cni-clause-does
returns-in-Cni-clause-does g c =
    asked _ c.args.env.now _ (Some Cni) _ _ _ (ap (λ (x : Command). Some (asked_by x)) c.in-Cni.is)
    (record {
      ending = c.cni.ensures.called.0;
      went = c.cni.ensures.called.1;
      tells = c.cni.ensures.called.2;
      never_later = never_says_try_again _ c.args.env.now c.cni.ensures.called.0 _ _ _ c.cni.ensures.called.1 c.cni.ensures.called.2;
      by_records = call_by_records _ c.args.env.now c.cni.ensures.called.0 _ _ _ c.cni.ensures.called.1 c.cni.ensures.called.2;
      gc = leaves_spared _ c.args.env.now c.cni.ensures.called.0 _ _ _ c.cni.ensures.called.1 c.cni.ensures.called.2;
      status_of_add = tells_of_add _ c.args.env.now c.cni.ensures.called.0 _ _ _ c.cni.ensures.called.1 c.cni.ensures.called.2;
      at_end = c.cni.ensures.to_end;
      is_status = c.cni.ensures.status;
    })

pub returns-in-Apply-clause-does : goal.returns-in-Apply-clause-does
returns-in-Apply-clause-does g c =
    asked _ c.args.env.now _ (Some Apply) _ _ _ (ap (λ (x : Command). Some (asked_by x)) c.in-Apply.is)
    (record {
      ending = c.apply.result;
      has_status = search rules;
      ends = apply-ends (λ same. record { rows = search rules; keeper_faults = search rules }) c.apply.ensures.applied;
      at_end = c.apply.ensures.whole;
    })

pub returns-in-Help-clause-does : goal.returns-in-Help-clause-does
returns-in-Help-clause-does g c =
    asked _ c.args.env.now _ (Some Help) _ _ _ (ap (λ (x : Command). Some (asked_by x)) c.in-Help.is)
    (record { said = c.say.ensures.said; source = record { left = refl; read_faults = refl }; keeper = record { rows = refl; keeper_faults = refl } })

pub returns-in-Version-clause-does : goal.returns-in-Version-clause-does
returns-in-Version-clause-does g c =
    asked _ c.args.env.now _ (Some Version) _ _ _ (ap (λ (x : Command). Some (asked_by x)) c.in-Version.is)
    (record { said = c.say-in-Version.ensures.said; source = record { left = refl; read_faults = refl }; keeper = record { rows = refl; keeper_faults = refl } })
