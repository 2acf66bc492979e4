-- What an operator is shown.
use Rattle.std.specs.Prelude.{ℕ, List}
use Rattle.ipam_addr.specs.Shape.{AddrValue, CidrValue}
use Rattle.ipam_words.specs.declared.view.Choice.{Choice}
use Rattle.ipam_words.specs.declared.view.Choice.TheVariants as choice
use Rattle.ipam_words.specs.declared.view.Form.{Form}
use Rattle.ipam_words.specs.declared.view.View.{View}
use Rattle.ipam_words.specs.declared.view.View.TheVariants as view

-- which of the addresses in use are shown, as `Choice` has it, with the name itself in place of a loan
pub data AskedChoice : Type 0 where
  All : AskedChoice
  Within : CidrValue → AskedChoice
  OfNode : List ℕ → AskedChoice
  OfHandle : List ℕ → AskedChoice
  Borrowed : AskedChoice
  BorrowedBy : List ℕ → AskedChoice

abbrev pub chosen_by : Choice → AskedChoice
chosen_by choice.All = All
chosen_by (choice.Within cidr) = Within cidr
chosen_by (choice.OfNode node) = OfNode node.now
chosen_by (choice.OfHandle handle) = OfHandle handle.now
chosen_by choice.Borrowed = Borrowed
chosen_by (choice.BorrowedBy node) = BorrowedBy node.now

-- what is shown, as `View` has it, with the name itself in place of a loan
pub data AskedView : Type 0 where
  Pools : AskedView
  Json : AskedView
  Blocks : AskedView
  Address : AddrValue → AskedView
  Node : List ℕ → Form → AskedView
  Handle : List ℕ → Form → AskedView
  Config : Form → AskedView
  Metrics : AskedView
  Addresses : AskedChoice → Form → AskedView

abbrev pub seen_by : View → AskedView
seen_by view.Pools = Pools
seen_by view.Json = Json
seen_by view.Blocks = Blocks
seen_by (view.Address address) = Address address
seen_by (view.Node node form) = Node node.now form
seen_by (view.Handle handle form) = Handle handle.now form
seen_by (view.Config form) = Config form
seen_by view.Metrics = Metrics
seen_by (view.Addresses chosen form) = Addresses (chosen_by chosen) form
