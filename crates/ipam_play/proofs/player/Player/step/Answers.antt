use Rattle.std.proofs.Common.{◌∙◌, ap, refl, sym, subst}
use Rattle.std.proofs.lemmas.Result.{err_from_is_err_and}
use Rattle.ipam_play.specs.Player.{IsStandingStage}
use Rattle.ipam_play.specs.Script.{events_of}
use Rattle.ipam_play.specs.Times.{StandsTimed}
use Rattle.ipam_play.proofs.LineKinds.{some_events}
use Rattle.ipam_play.proofs.Steps.{counter_line, counter_told, line_begins, line_plays, line_refused, line_stays, never_both, row_line, still_stood}
use Rattle.ipam_play.proofs.player.Player.step.Goals as goal

pub returns-in_err-cluster-in_default : goal.returns-in_err-cluster-in_default
returns-in_err-cluster-in_default c =
    let p = err_from_is_err_and c.from_residual.result c.from_residual.ensures.1 in
    let (events, is) = some_events c.args.line.now c.in_default.not-Row c.in_default.not-Counter in
    record {
      standing = tt;
      gathered = rw (p.1, p.2) (line_refused c.args.self.now _ c.in-Gathering.gathering c.in-Gathering.is (sym c.in-Gathering.is) c.in_err-cluster-in_default.field-0.0 c.args.line.now events is
          c.in_err-cluster-in_default.ensures.cause c.in_err-cluster-in_default.ensures.kept);
      played = λ base store past h. absurd (never_both c.args.self.now c.in-Gathering.gathering base store past c.in-Gathering.is h);
      playing = λ base store past h. absurd (never_both c.args.self.now c.in-Gathering.gathering base store past c.in-Gathering.is h);
      counter = λ counter is. absurd (c.in_default.not-Counter counter is);
    }

pub returns-in-Row-clause-gathered : goal.returns-in-Row-clause-gathered
returns-in-Row-clause-gathered c =
    rw c.in-Row.is (row_line c.args.self.now _ c.in-Gathering.gathering c.add.new.self c.in-Gathering.is refl refl c.in-Row.row c.add.result
    c.add.ensures.again c.add.ensures.added c.add.ensures.unchanged c.add.ensures.told)

pub returns-in-Counter-clause-gathered : goal.returns-in-Counter-clause-gathered
returns-in-Counter-clause-gathered c =
    rw c.in-Counter.is (counter_line c.args.self.now _ c.in-Gathering.gathering c.set_counter.new.self c.in-Gathering.is refl refl c.in-Counter.counter c.set_counter.result
    c.set_counter.ensures.again c.set_counter.ensures.set)

pub returns-in-Counter-clause-counter : goal.returns-in-Counter-clause-counter
returns-in-Counter-clause-counter c = λ counter is. counter_told c.set_counter.result c.set_counter.ensures.told

pub returns-in_ok-cluster-in_default : goal.returns-in_ok-cluster-in_default
returns-in_ok-cluster-in_default c =
    let (events, is) = some_events c.args.line.now c.in_default.not-Row c.in_default.not-Counter in
    record {
      standing = c.in_ok-cluster-in_default.ensures.standing;
      gathered = line_begins c.args.self.now _ c.in-Gathering.gathering c.in_ok-cluster-in_default.cluster c.in-Gathering.is refl c.args.line.now events is
          c.in_ok-cluster-in_default.ensures.begun;
      played = λ base store past h. absurd (never_both c.args.self.now c.in-Gathering.gathering base store past c.in-Gathering.is h);
      playing = λ base store past h. absurd (never_both c.args.self.now c.in-Gathering.gathering base store past c.in-Gathering.is h);
      counter = λ counter is. absurd (c.in_default.not-Counter counter is);
    }

pub returns-in-Playing-clause-counter : goal.returns-in-Playing-clause-counter
returns-in-Playing-clause-counter c = λ counter is memory. absurd (cc (sym (c.play_line.ensures.of_base (ap events_of is)) ∙ memory))

pub returns-in-Playing-clause-standing : goal.returns-in-Playing-clause-standing
returns-in-Playing-clause-standing c =
    let was : StandsTimed c.in-Playing.cluster = subst IsStandingStage c.in-Playing.is c.requires.standing in
    (still_stood c.play_line.result _ _ _ _ _ c.play_line.ensures.events c.play_line.ensures.kept was.0, c.play_line.ensures.timed)

pub returns-in-Playing-clause-played : goal.returns-in-Playing-clause-played
returns-in-Playing-clause-played c =
    line_plays c.args.self.now _ c.in-Playing.cluster c.play_line.new.cluster c.in-Playing.is refl c.play_line.result _ c.play_line.ensures.events c.play_line.ensures.of_base c.play_line.ensures.journal

pub returns-in-Playing-clause-playing : goal.returns-in-Playing-clause-playing
returns-in-Playing-clause-playing c =
    line_stays c.args.self.now _ c.in-Playing.cluster c.play_line.new.cluster c.in-Playing.is refl c.play_line.result _ c.play_line.ensures.events c.play_line.ensures.kept c.play_line.ensures.journal
