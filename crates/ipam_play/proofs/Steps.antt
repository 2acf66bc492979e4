-- What a line does to a player, wherever it stands.
use Rattle.std.proofs.Common.{◌≡◌, ◌≢◌, ℕ, Bool, true, false, cond, List, [], ◌++◌, ◌⊎◌, inl, inr, Option, Some, None, refl, sym, ap, ◌∙◌, subst}
use Rattle.std.specs.Prelude.{◌↔◌, Result, Ok, Err, IfSome, IfErr, OnOk, OnErr, is_some}
use Rattle.ipam_records.specs.declared.call.Row.{Row}
use Rattle.ipam_records.specs.Datastore.{Datastore}
use Rattle.ipam_model.specs.declared.entry.Entry.{Entry}
use Rattle.ipam_model.specs.Course.{Event}
use Rattle.ipam_cluster.specs.declared.cluster.Cluster.{Cluster}
use Rattle.ipam_cluster.specs.Cluster.{StandsFor, Stood}
use Rattle.ipam_answer_text.specs.declared.line.Line.{Line}
use Rattle.ipam_answer_text.specs.declared.line.Line.TheVariants as line
use Rattle.ipam_play.specs.declared.cluster.OpenCluster.{OpenCluster}
use Rattle.ipam_play.specs.declared.fault.PlayFault.{PlayFault}
use Rattle.ipam_play.specs.declared.fault.PlayFault.TheVariants as fault
use Rattle.ipam_play.specs.declared.gathering.Gathering.{Gathering}
use Rattle.ipam_play.specs.declared.player.Player.{Player}
use Rattle.ipam_play.specs.declared.player.Stage.TheVariants as stage
use Rattle.ipam_play.specs.Events.{ComesOf, Keeps, onto}
use Rattle.ipam_play.specs.Gathering.{Gathers}
use Rattle.ipam_play.specs.Played.{base_of}
use Rattle.ipam_play.specs.Player.{IsBegun, IsBegunWith, IsCauseAtFirst, IsFinished, IsGathering, IsGatheredLine, IsBaseOpened, IsPlayedLine, IsPlaying, journal_of}
use Rattle.ipam_play.specs.Script.{Again, Gathered, OfBase, events_of, rows_have_key, place_of, with_counter, with_base_row}
use Rattle.ipam_play.proofs.LineKinds.{place-events}
use Rattle.ipam_play.proofs.Players.{base_keeps, first_keeps, line_happened, line_keeps}

-- ---- what stands

-- after what came of a line the cluster stands for some history
pub still_stood : {T : Type 0} (result : Result T PlayFault) (old new : Cluster) (before after : List Entry) (events : Option (List Event)) → IfSome events (ComesOf result old new before after)
    → (events ≡ None → Keeps old new) → Stood old → Stood new
still_stood result old new before after None comes keeps (base, (history, h)) = (base, (history, keeps refl base history h))
still_stood (Ok done) old new before after (Some events) comes keeps (base, (history, h)) = (base, (onto comes.made history, comes.plays.stands base history h))
still_stood (Err told) old new before after (Some events) comes keeps (base, (history, h)) = (base, (onto comes.made history, comes.plays.stands base history h))

pub comes_of : {T : Type 0} (result : Result T PlayFault) (old new : Cluster) (before after : List Entry) (asked : Line) (events : List Event) → events_of asked ≡ Some events
    → IfSome (events_of asked) (ComesOf result old new before after) → ComesOf result old new before after events
comes_of result old new before after asked events is comes = subst (λ (o : Option (List Event)). IfSome o (ComesOf result old new before after)) is comes

-- ---- a line while the base is gathered

pub gathers_there : (player : Player) (gathering : Gathering) (base : Gathered) → player.stage ≡ stage.Gathering gathering → IsGathering player base → Gathers gathering base
gathers_there player gathering base is h =
    let same : h.gathering ≡ gathering = cc (sym h.is ∙ is) in
    subst (λ (g : Gathering). Gathers g base) same h.gathers

pub never_both : (player : Player) (gathering : Gathering) (base : Gathered) (store : Datastore) (past : List Entry) → player.stage ≡ stage.Gathering gathering → IsPlaying player base store past → ⊥
never_both player gathering base store past is h = cc (sym h.is ∙ is)

pub never_gathering : (player : Player) (opened : OpenCluster) (base : Gathered) → player.stage ≡ stage.Playing opened → IsGathering player base → ⊥
never_gathering player opened base is h = cc (sym h.is ∙ is)

gathers_on : (new : Player) (n : Gathering) (base : Gathered) → new.stage ≡ stage.Gathering n → journal_of new ≡ [] → Gathers n base → IsGathering new base
gathers_on new n base is none gathers = record { gathering = n; is = is; gathers = gathers; nothing = none }

row-by : {T : Type 0} (new : Player) (n : Gathering) (base longer : Gathered) (b : Bool) (r : Result T PlayFault) → new.stage ≡ stage.Gathering n → journal_of new ≡ []
    → (r ≡ Err fault.Base) ↔ (b ≡ true) → OnOk r (Gathers n longer) → OnErr r (Gathers n base) → IfErr r (λ why. (why ≡ fault.Base) ⊎ (why ≡ fault.Memory))
    → IsGatheredLine r new base (cond b Again (OfBase longer))
row-by new n base longer true (Ok done) is none again added kept why = absurd (cc (again.1 refl))
row-by new n base longer false (Ok done) is none again added kept why = gathers_on new n longer is none added
row-by new n base longer true (Err told) is none again added kept why = (gathers_on new n base is none kept, cc (again.1 refl))
row-by new n base longer false (Err told) is none again added kept (inl is_base) = absurd (cc (again.0 (ap Err is_base)))
row-by new n base longer false (Err told) is none again added kept (inr is_memory) = (gathers_on new n base is none kept, is_memory)

counter-by : {T : Type 0} (new : Player) (n : Gathering) (base longer : Gathered) (b : Bool) (r : Result T PlayFault) → new.stage ≡ stage.Gathering n → journal_of new ≡ []
    → OnErr r (b ≡ true × r ≡ Err fault.Base × Gathers n base) → OnOk r (b ≡ false × Gathers n longer) → IsGatheredLine r new base (cond b Again (OfBase longer))
counter-by new n base longer true (Ok done) is none again set = absurd (cc set.0)
counter-by new n base longer false (Ok done) is none again set = gathers_on new n longer is none set.1
counter-by new n base longer true (Err told) is none again set = (gathers_on new n base is none again.2, cc again.1)
counter-by new n base longer false (Err told) is none again set = absurd (cc again.0)

module _ (old new : Player) (g n : Gathering) (was : old.stage ≡ stage.Gathering g) (is : new.stage ≡ stage.Gathering n) (same : journal_of new ≡ journal_of old) where
  pub row_line : {T : Type 0} (row : Row) (r : Result T PlayFault) → ((gathered : Gathered) → Gathers g gathered → (r ≡ Err fault.Base) ↔ (rows_have_key row.key gathered.rows ≡ true))
      → ((gathered : Gathered) → Gathers g gathered → OnOk r (Gathers n (with_base_row row gathered))) → ((gathered : Gathered) → Gathers g gathered → OnErr r (Gathers n gathered))
      → IfErr r (λ why. (why ≡ fault.Base) ⊎ (why ≡ fault.Memory))
      → (base : Gathered) → IsGathering old base → IsGatheredLine r new base (place_of base (line.Row row))
  row_line row r again added kept why base h =
      let gathers = gathers_there old g base was h in
      row-by new n base (with_base_row row base) (rows_have_key row.key base.rows) r is (same ∙ h.nothing) (again base gathers) (added base gathers) (kept base gathers) why

  pub counter_line : {T : Type 0} (counter : ℕ) (r : Result T PlayFault) → ((gathered : Gathered) → Gathers g gathered → OnErr r (is_some gathered.counter ≡ true × r ≡ Err fault.Base × Gathers n gathered))
      → ((gathered : Gathered) → Gathers g gathered → OnOk r (is_some gathered.counter ≡ false × Gathers n (with_counter counter gathered)))
      → (base : Gathered) → IsGathering old base → IsGatheredLine r new base (place_of base (line.Counter counter))
  counter_line counter r again set base h =
      let gathers = gathers_there old g base was h in
      counter-by new n base (with_counter counter base) (is_some base.counter) r is (same ∙ h.nothing) (again base gathers) (set base gathers)

-- a counter takes no memory
pub counter_told : {T : Type 0} (r : Result T PlayFault) → IfErr r (λ why. why ≡ fault.Base) → r ≢ Err fault.Memory
counter_told (Ok done) is told = cc told
counter_told (Err why) is told =
    let memory : why ≡ fault.Memory = cc told in
    cc (sym is ∙ memory)

-- ---- the base is opened

opens-as : (new : Player) (o : OpenCluster) (base : Gathered) (store : Datastore) (made : List Entry) → new.stage ≡ stage.Playing o → IsBaseOpened base store → StandsFor o.cluster (base_of store) (onto made [])
    → journal_of new ≡ made → IsPlaying new base store []
opens-as new o base store made is opened stands same = record {
  open_cluster = o;
  is = is;
  opened = opened;
  stands = subst (λ (l : List Entry). StandsFor o.cluster (base_of store) (onto l [])) (sym same) stands;
}

module _ (old new : Player) (g : Gathering) (o : OpenCluster) (was : old.stage ≡ stage.Gathering g) (is : new.stage ≡ stage.Playing o) where
  pub line_begins : (asked : Line) (events : List Event) → events_of asked ≡ Some events
      → ((base : Gathered) (events : List Event) → Gathers g base → events_of asked ≡ Some events → IsBegunWith o (journal_of old) (journal_of new) base events)
      → (base : Gathered) → IsGathering old base → IsGatheredLine {T = Unit {0}} (Ok tt) new base (place_of base asked)
  line_begins asked events with_events begun base h =
      let b = begun base events (gathers_there old g base was h) with_events in
      let same : journal_of new ≡ b.made = b.added ∙ ap (λ (l : List Entry). l ++ b.made) h.nothing in
      let begins : IsBegun new base events = record {
        store = b.store;
        playing = opens-as new o base b.store b.made is b.opened b.stands same;
        made_by = b.made_by ∙ ap (λ (l : List Entry). record { entries = l; refused = None }) (sym same);
      } in
      rw (place-events base asked events with_events) begins

  pub finishes : (base : Gathered) → ((base : Gathered) → Gathers g base → (store : Datastore) × IsBaseOpened base store × StandsFor o.cluster (base_of store) [])
      → journal_of new ≡ journal_of old → IsGathering old base → IsFinished {T = Unit {0}} (Ok tt) new base
  finishes base opens same h =
      let (store, opened, stands) = opens base (gathers_there old g base was h) in
      (store, opens-as new o base store [] is opened stands (same ∙ h.nothing))

-- nothing changed
gathering_still : (old new : Player) (base : Gathered) → new.stage ≡ old.stage → journal_of new ≡ journal_of old → IsGathering old base → IsGathering new base
gathering_still old new base same same_journal h = record { gathering = h.gathering; is = same ∙ h.is; gathers = h.gathers; nothing = same_journal ∙ h.nothing }

module _ (old new : Player) (g : Gathering) (was : old.stage ≡ stage.Gathering g) (same : new.stage ≡ old.stage) where
  pub line_refused : (told : PlayFault) (asked : Line) (events : List Event) → events_of asked ≡ Some events
      → ((base : Gathered) (events : List Event) → Gathers g base → events_of asked ≡ Some events → IsCauseAtFirst base events told)
      → ((base : Gathered) → Gathers g base → journal_of new ≡ journal_of old)
      → (base : Gathered) → IsGathering old base → IsGatheredLine {T = Unit {0}} (Err told) new base (place_of base asked)
  line_refused told asked events with_events cause kept base h =
      let gathers = gathers_there old g base was h in
      rw (place-events base asked events with_events) (gathering_still old new base same (kept base gathers) h, cause base events gathers with_events)

-- ---- lines after the base

module _ (old new : Player) (o n : OpenCluster) (was : old.stage ≡ stage.Playing o) (is : new.stage ≡ stage.Playing n) where
  pub line_plays : {T : Type 0} (result : Result T PlayFault) (events : Option (List Event)) → IfSome events (ComesOf result o.cluster n.cluster (journal_of old) (journal_of new))
      → (events ≡ None → result ≡ Err fault.Base) → (events ≡ None → journal_of new ≡ journal_of old)
      → (base : Gathered) (store : Datastore) (past : List Entry) → IsPlaying old base store past → IsPlayedLine result old new store past events
  line_plays result None comes told same base store past h = record { is_told = told refl; same_journal = same refl }
  line_plays result (Some events) comes told same base store past h = line_happened old new o n was is result base store past events h comes

  pub line_stays : {T : Type 0} (result : Result T PlayFault) (events : Option (List Event)) → IfSome events (ComesOf result o.cluster n.cluster (journal_of old) (journal_of new))
      → (events ≡ None → Keeps o.cluster n.cluster) → (events ≡ None → journal_of new ≡ journal_of old)
      → (base : Gathered) (store : Datastore) (past : List Entry) → IsPlaying old base store past → IsPlaying new base store past
  line_stays result None comes keeps same base store past h = base_keeps old new o n was is base store past h (keeps refl) (same refl)
  line_stays result (Some events) comes keeps same base store past h = line_keeps old new o n was is result base store past events h comes

-- ---- the first line after the base

module _ (base : Gathered) (store : Datastore) (o n : OpenCluster) (before after : List Entry) (opened : IsBaseOpened base store) (stands : StandsFor o.cluster (base_of store) []) where
  pub first_kept : {T : Type 0} (result : Result T PlayFault) (asked : Line) → IfSome (events_of asked) (ComesOf result o.cluster n.cluster before after)
      → (events_of asked ≡ None → after ≡ before) → OnErr result (after ≡ before)
  first_kept (Ok done) asked comes same = tt
  first_kept {T} (Err told) asked comes same = by (events_of asked) refl comes
    where
      by : (events : Option (List Event)) → events_of asked ≡ events → IfSome events (ComesOf {T = T} (Err told) o.cluster n.cluster before after) → after ≡ before
      by None e c = same e
      by (Some events) e c = first_keeps base store o n before after opened stands {T = T} (Err told) asked events e c
