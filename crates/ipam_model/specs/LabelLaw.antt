-- What the labels of a word say is what the calls before have made.
use Rattle.std.specs.Prelude.{◌≡◌, ◌≢◌, ◌↔◌, ℕ, List, Some}
use Rattle.ipam_records.specs.Label.{Credit, CallLabel, Nowhere, Point}
use Rattle.ipam_records.specs.Sound.{IsDatastore}
use Rattle.ipam_records.specs.Word.{label_of}
use Rattle.ipam_model.specs.declared.entry.Entry.{Entry}
use Rattle.ipam_model.specs.Cluster.{RunningRequest}
use Rattle.ipam_model.specs.Credits.{HasCredit}
use Rattle.ipam_model.specs.History.{Base, Lawful, RequestSpan, cluster_at}
use Rattle.ipam_model.specs.Points.{StandsAt}

-- the label has exactly the credit, and exactly the point, that the calls have made
pub record IsLabelOf (span : RequestSpan) (label : CallLabel) : Type 0 where
  pub credit : (credit : Credit) → (label.credit ≡ Some credit) ↔ HasCredit span credit
  pub point : (point : Point) → point ≢ Nowhere → (label.point ≡ point) ↔ StandsAt span point

abbrev pub LabelsLaw : Type 0
LabelsLaw =
    (base : Base) (history : List Entry) (slot : ℕ) (running : RunningRequest)
    → IsDatastore base.store → Lawful base history → (cluster_at base history).slots slot ≡ Some running
    → IsLabelOf (record { base = base; history = history; slot = slot }) (label_of running.word)
