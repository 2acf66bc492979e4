use Rattle.ipam_request_text.proofs.Lives.{live_reading-is, live_reads_back}
use Rattle.ipam_request_text.proofs.laws.live_lists_are_read_back.Goals as goal

pub returns : goal.returns
returns c = record {
  sound = live_reading-is;
  back = live_reads_back;
}
