-- What is left of a change at each of its stages.
use Rattle.ipam_records.specs.Label.{idle}
use Rattle.ipam_records.specs.Said.{Said}
use Rattle.ipam_records.specs.Word.{Word, Ends, Asks}
use Rattle.ipam_model.specs.declared.outcome.AdminAnswer.{AdminAnswer}
use Rattle.ipam_model.specs.declared.outcome.AdminAnswer.TheVariants.{Done}
use Rattle.ipam_model.specs.declared.part.Left.{Left}
use Rattle.ipam_model.specs.declared.request.Admin.{Admin}
use Rattle.ipam_model.specs.Admin.{admin_once, admin_stops}
use Rattle.ipam_model.specs.Step.{Part, goes as went, on_write, as_word}
use Rattle.ipam_parts.specs.Raising.{put_at}
use Rattle.ipam_parts.specs.Tries.{again_of}
use Rattle.ipam_release.specs.declared.admin.Stage.{Stage}
use Rattle.ipam_release.specs.declared.admin.Stage.TheVariants.{Reads, Writes}
use Rattle.ipam_release.specs.declared.admin.Goes.{Goes}
use Rattle.ipam_release.specs.declared.admin.Goes.TheVariants as goes
use Rattle.ipam_release.specs.declared.admin.AdminProc.{AdminProc}
use Rattle.ipam_release.specs.declared.admin.AdminTurned.{AdminTurned}

-- what follows a lost race
abbrev pub admin_again : Admin → Left → Part AdminAnswer
admin_again request left = again_of (admin_once request) left

-- what follows the write
abbrev pub admin_written_at : Admin → Left → Said → Part AdminAnswer
admin_written_at request left reply = on_write reply left (λ revision. went left (Done revision)) (admin_again request left)

abbrev pub admin_part_at : Admin → Left → Stage → Part AdminAnswer
admin_part_at request left Reads = admin_once request (admin_again request left) left
admin_part_at request left (Writes w) =
    Asks idle (put_at w.revision w.new) (λ moment reply. admin_written_at request left reply)

abbrev pub admin_at : Admin → Left → Stage → Word AdminAnswer
admin_at request left stage = as_word admin_stops (admin_part_at request left stage)

abbrev pub admin_rest : AdminProc → Word AdminAnswer
admin_rest p = admin_at p.request p.left p.stage

-- what is left once the change goes there
abbrev pub admin_goes : AdminProc → Goes → Word AdminAnswer
admin_goes p (goes.To stage) = admin_at p.request p.left stage
admin_goes p (goes.Again left) = admin_at p.request left Reads
admin_goes p (goes.Answers answer) = Ends answer

abbrev pub admin_leaves : AdminProc → AdminTurned → Word AdminAnswer
admin_leaves p turned = admin_goes p turned.goes
