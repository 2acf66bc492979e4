-- What is played is a right history.
use Rattle.std.proofs.Common.{◌≡◌, ◌≢◌, ℕ, List, [], ◌∷◌, length, refl, sym, ◌∙◌, subst}
use Rattle.std.specs.Prelude.{◌++◌, reverse, Contains}
use Rattle.std.proofs.Math.Seq.{drop-append_seam}
use Rattle.std.proofs.lemmas.List.{reverse-append}
use Rattle.std.proofs.lemmas.List.Sorted.{Contains-permutation, IsPermutation-sym}
use Rattle.ipam_records.specs.declared.call.Row.{Row as RowText}
use Rattle.ipam_records.specs.Datastore.{Datastore}
use Rattle.ipam_model.specs.declared.entry.Entry.{Entry}
use Rattle.ipam_model.specs.History.{Base, Lawful}
use Rattle.ipam_model.specs.Opened.{Texts}
use Rattle.ipam_laws.proofs.EventHistory.{courses_are_lawful}
use Rattle.ipam_laws.proofs.OneRecord.{drop-lawful}
use Rattle.ipam_laws.proofs.OpenedHistory.{opened_law}
use Rattle.ipam_laws.proofs.Openings.{opens_as_one}
use Rattle.ipam_laws.proofs.RightWhole.{right_law}
use Rattle.ipam_play.specs.Played.{AreTextsOfBase, Ending, IsPlayed, RefusedAtOnce, BaseRefused, Happened, base_of, course_of, events_in}
use Rattle.ipam_play.specs.Player.{IsBaseOpened}
use Rattle.ipam_play.specs.Script.{Gathered, Script}
use Rattle.ipam_command.specs.Headline.{IsRightOf, PlayedRightLaw, script_in}
use Rattle.ipam_command.proofs.SoundScripts.{script_asks_sound}

-- ---- a base opens as one datastore

in-other : (base : Gathered) (one other : Texts) → AreTextsOfBase one base → AreTextsOfBase other base → (row : RowText) → Contains one.rows row → Contains other.rows row
in-other base one other a b row h =
    Contains-permutation base.rows other.rows row b.same_rows
    (Contains-permutation one.rows base.rows row (IsPermutation-sym base.rows one.rows a.same_rows) h)

same-opened : (base : Gathered) (one other : Datastore) → IsBaseOpened base one → IsBaseOpened base other → one ≡ other
same-opened base one other a b = opens_as_one a.texts one other a.opens (record {
  may_be_opened = a.opens.may_be_opened;
  sound = b.opens.sound;
  counter = b.opens.counter ∙ b.are_texts.counter ∙ sym a.are_texts.counter;
  all_read = λ row found h reads. b.opens.all_read row found (in-other base a.texts b.texts a.are_texts b.are_texts row h) reads;
  nothing_else = λ revision found h.
      let (row, there, same, reads) = b.opens.nothing_else revision found h in
      (row, in-other base b.texts a.texts b.are_texts a.are_texts row there, same, reads);
})

-- ---- lawful histories of a script

-- the entries are lawful over whatever the base opens as, and there are none without one
pub record IsLawfulOf (script : Script) (entries : List Entry) : Type 0 where
  pub lawful : (store : Datastore) → IsBaseOpened script.base store → Lawful (base_of store) (reverse entries)
  pub opened : entries ≢ [] → (store : Datastore) × IsBaseOpened script.base store

nothing-lawful : (script : Script) → IsLawfulOf script []
unfolding Lawful
nothing-lawful script = record { lawful = λ store opened. tt; opened = λ some. absurd (some refl) }

happened-lawful : (bytes : List ℕ) (store : Datastore) → IsBaseOpened (script_in bytes).base store → IsLawfulOf (script_in bytes) (course_of (script_in bytes) store).entries
happened-lawful bytes store opens =
    let lawful = courses_are_lawful (base_of store) (events_in (script_in bytes).steps) (script_asks_sound bytes) in
    record {
      lawful = λ other opened.
          subst (λ (s : Datastore). Lawful (base_of s) (reverse (course_of (script_in bytes) store).entries))
          (same-opened (script_in bytes).base store other opens opened) lawful;
      opened = λ some. (store, opens);
    }

pub played_lawful : (bytes : List ℕ) (entries : List Entry) (ending : Ending) → IsPlayed (script_in bytes) entries ending → IsLawfulOf (script_in bytes) entries
played_lawful bytes entries ending (RefusedAtOnce number why none stops) = nothing-lawful (script_in bytes)
played_lawful bytes entries ending (BaseRefused texts rule about opens are refused) = nothing-lawful (script_in bytes)
played_lawful bytes entries ending (Happened texts store opens_base are opens) =
    happened-lawful bytes store (record { texts = texts; are_texts = are; opens = opens })

front-lawful : (base : Base) (done more : List Entry) → Lawful base (reverse (done ++ more)) → Lawful base (reverse done)
front-lawful base done more h =
    let behind : Lawful base (reverse more ++ reverse done) = subst (λ (l : List Entry). Lawful base l) (reverse-append done more) h in
    subst (λ (l : List Entry). Lawful base l) (drop-append_seam (reverse more) (reverse done))
    (drop-lawful base (length (reverse more)) (reverse more ++ reverse done) behind)

front-some : (done more : List Entry) → done ≢ [] → done ++ more ≢ []
front-some [] more some e = some refl
front-some (new ∷ rest) more some e = absurd cc

-- so are the entries of a front part
pub front_lawful : (script : Script) (done more : List Entry) → IsLawfulOf script (done ++ more) → IsLawfulOf script done
front_lawful script done more h = record {
  lawful = λ store opened. front-lawful (base_of store) done more (h.lawful store opened);
  opened = λ some. h.opened (front-some done more some);
}

-- ---- and right ones

pub lawful_right : (script : Script) (entries : List Entry) → IsLawfulOf script entries → IsRightOf script entries
lawful_right script entries h = record {
  right = λ store opened.
      right_law (base_of store) (reverse entries) (opened_law opened.texts store opened.opens) (h.lawful store opened);
  opened = h.opened;
}

pub nothing_right : (script : Script) → IsRightOf script []
nothing_right script = lawful_right script [] (nothing-lawful script)

pub played_right : PlayedRightLaw
played_right bytes entries ending played = lawful_right (script_in bytes) entries (played_lawful bytes entries ending played)
