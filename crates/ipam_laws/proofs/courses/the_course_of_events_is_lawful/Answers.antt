use Rattle.ipam_laws.proofs.EventHistory.{courses_are_lawful}
use Rattle.ipam_laws.proofs.courses.the_course_of_events_is_lawful.Goals as goal

pub returns : goal.returns
returns c = courses_are_lawful
