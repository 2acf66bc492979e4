use Rattle.std.proofs.Common.{◌∙◌, [], ◌∷◌, ℕ, List, Some, ap, sym}
use Rattle.ipam_model.specs.Course.{Feed}
use Rattle.ipam_play.specs.Script.{events_of}
use Rattle.ipam_play.proofs.LineKinds.{events_come, has_events}
use Rattle.ipam_play.proofs.playing.play_line.Goals as goal

pub returns-in-Begin : goal.returns-in-Begin
returns-in-Begin c =
    let is = ap events_of c.in-Begin.is in
    record {
      timed = c.begin.ensures.timed;
      events = events_come _ _ _ _ _ _ _ is c.begin.ensures.comes;
      of_base = has_events _ _ is;
      kept = has_events _ _ is;
      journal = has_events _ _ is;
    }

pub returns-in-Turn : goal.returns-in-Turn
returns-in-Turn c =
    let is = ap events_of c.in-Turn.is in
    record {
      timed = c.turns.ensures.timed;
      events = events_come _ _ _ _ _ _ _ is c.turns.ensures.comes;
      of_base = has_events _ _ is;
      kept = has_events _ _ is;
      journal = has_events _ _ is;
    }

pub returns-in-Fail : goal.returns-in-Fail
returns-in-Fail c =
    let is = ap events_of c.in-Fail.is in
    record {
      timed = c.turn.ensures.timed;
      events = events_come _ _ _ _ _ _ _ is c.turn.ensures.comes;
      of_base = has_events _ _ is;
      kept = has_events _ _ is;
      journal = has_events _ _ is;
    }

pub returns-in-Lose : goal.returns-in-Lose
returns-in-Lose c =
    let is = ap events_of c.in-Lose.is in
    record {
      timed = c.turn-in-Lose.ensures.timed;
      events = events_come _ _ _ _ _ _ _ is c.turn-in-Lose.ensures.comes;
      of_base = has_events _ _ is;
      kept = has_events _ _ is;
      journal = has_events _ _ is;
    }

pub returns-in-Feed : goal.returns-in-Feed
returns-in-Feed c =
    let is = ap events_of c.in-Feed.is ∙ ap (λ (live : List (List ℕ)). Some (Feed c.in-Feed.slot c.in-Feed.at live ∷ [])) (sym c.as_slice.ensures) in
    record {
      timed = c.feed.ensures.timed;
      events = events_come _ _ _ _ _ _ _ is c.feed.ensures.comes;
      of_base = has_events _ _ is;
      kept = has_events _ _ is;
      journal = has_events _ _ is;
    }

pub returns-in-Stop : goal.returns-in-Stop
returns-in-Stop c =
    let is = ap events_of c.in-Stop.is in
    record {
      timed = c.stop.ensures.timed;
      events = events_come _ _ _ _ _ _ _ is c.stop.ensures.comes;
      of_base = has_events _ _ is;
      kept = has_events _ _ is;
      journal = has_events _ _ is;
    }

pub returns-in-Restart : goal.returns-in-Restart
returns-in-Restart c =
    let is = ap events_of c.in-Restart.is in
    record {
      timed = c.restart.ensures.timed;
      events = events_come _ _ _ _ _ _ _ is c.restart.ensures.comes;
      of_base = has_events _ _ is;
      kept = has_events _ _ is;
      journal = has_events _ _ is;
    }
