-- What is sent begins what the environment would begin.
use Rattle.std.proofs.Common.{◌≡◌, ℕ, List, ap}
use Rattle.cni_types.specs.Reading.{Pair}
use Rattle.ipam_session.specs.Calls.{begun_at, call_begun}
use Rattle.ipam_text_laws.specs.Sent.{pairs_sent}
use Rattle.ipam_text_laws.proofs.Looks.{look_same}
use Rattle.ipam_text_laws.proofs.Variables.{args_same, command_same, container_same, interface_same, namespace_same}

pub sent_begins : (env : List Pair) (input : List ℕ) → call_begun (pairs_sent env) input ≡ call_begun env input
unfolding call_begun
sent_begins env input = ap begun_at (look_same (pairs_sent env) env (command_same env) (container_same env) (namespace_same env) (interface_same env) (args_same env) input)
