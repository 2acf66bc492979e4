use Rattle.ipam_opening.proofs.load.load_reading.Goals as goal

pub load_row-requires-clause-sound : goal.load_row-requires-clause-sound
load_row-requires-clause-sound c = c.requires.sound c.in-Ok.found c.in-Ok.is

pub load_row-requires-clause-room : goal.load_row-requires-clause-room
load_row-requires-clause-room c = c.requires.room c.in-Ok.found c.in-Ok.is
