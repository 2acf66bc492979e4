-- What is unfolded to compute a choice or a run.
use Rattle.std.specs.Prelude.{⊤}
use Rattle.std.specs.Net.Reader.{read_number, read_octet, read_ipv4, read_segment, read_segments, read_ipv6}
use Rattle.ipam_addr.specs.Text.{address_of, prefix_of, cidr_reading}
use Rattle.ipam_model.specs.Choice.{first_found, first_slot, best_of_ranks, pick_of}
use Rattle.ipam_model.specs.Step.{tries, rounds}
use Rattle.ipam_model.specs.Affinities.{claim}
use Rattle.ipam_model.specs.Add.{add_each}
use Rattle.ipam_model.specs.Remove.{del_blocks, free_leaks}
use Rattle.ipam_model.specs.Look.{check_each, probe_each}
use Rattle.ipam_model.specs.Requests.{word_of}
use Rattle.ipam_model.specs.Cluster.{after}
use Rattle.ipam_model.specs.Course.{after_all, course}
use Rattle.ipam_plain.specs.Setting.{turns}

unfoldable pub choice_computed : ⊤
unfolding first_found first_slot best_of_ranks pick_of
choice_computed = tt

-- a name that is compared with a CIDR
unfoldable pub names_read : ⊤
unfolding read_number read_octet read_ipv4 read_segment read_segments read_ipv6 address_of prefix_of cidr_reading
names_read = tt

unfoldable pub runs_computed : ⊤
unfolding choice_computed tries rounds claim add_each del_blocks free_leaks check_each probe_each word_of after after_all course turns
runs_computed = tt
