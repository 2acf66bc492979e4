use Rattle.ipam_laws.proofs.OpenedHistory.{opened_law}
use Rattle.ipam_commands.proofs.showing.ShowingTellsRows.text.Goals as goal

pub shown_text-requires : goal.shown_text-requires
shown_text-requires c = (opened_law _ c.args.loaded.now.store.store c.requires).few_blocks
