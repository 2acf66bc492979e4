use mir.Syntax.{ty_bool}
use denote.Exit.{no}
use denote.Param.{arg}
use denote.Param.Send.{param_send, arg_send}
use Rattle.ipamd.proofs.Sent.{file_store, file_store_send}
use Rattle.ipamd.proofs.serving.serve_opened.Goals as goal

pub serve_stored-requires-send-S : goal.serve_stored-requires-send-S
serve_stored-requires-send-S g c κs within = record {
  owned = file_store_send.owned;
  leaving = (param_send 1 (arg ty_bool no file_store) (arg_send ty_bool no file_store file_store_send)).leaving;
}
