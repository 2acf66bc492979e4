use Rattle.ipam_serve.proofs.looks.UsageLookLook.look.Goals as goal

pub pools_usage-requires : goal.pools_usage-requires
pools_usage-requires c = record { few = c.requires.consistent.few_blocks }
