use Rattle.ipam_laws.proofs.EventHistory.{histories_are_courses}
use Rattle.ipam_laws.proofs.courses.a_lawful_history_is_the_course_of_its_events.Goals as goal

pub returns : goal.returns
returns c = histories_are_courses
