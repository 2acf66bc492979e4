use Rattle.ipam_laws.proofs.AloneHistory.{alone_histories}
use Rattle.ipam_laws.proofs.courses.a_request_alone_comes_to_what_its_word_does.Goals as goal

pub returns : goal.returns
returns c = alone_histories
