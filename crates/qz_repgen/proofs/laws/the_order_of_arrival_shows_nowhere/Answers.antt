use Rattle.qz_repgen.proofs.JournalClasses.{class_list}
use Rattle.qz_repgen.proofs.laws.the_order_of_arrival_shows_nowhere.Goals as goal

pub returns : goal.returns
returns _ b seed journals all classes lawful hold are is = class_list b lawful seed journals hold all are classes is
