use Rattle.ipam_request_text.proofs.ReadBack.{read_sound, request_reads_back}
use Rattle.ipam_request_text.proofs.laws.requests_are_read_back.Goals as goal

pub returns : goal.returns
returns c = record {
  sound = read_sound;
  back = request_reads_back;
}
