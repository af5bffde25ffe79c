use Rattle.cx_layout.proofs.Placing.{same_steps}
use Rattle.cx_layout.proofs.Shapes.{one_list}
use Rattle.cx_layout.proofs.Onward.{found_leads}
use Rattle.cx_layout.proofs.laws.places_and_steps_tell_each_other.Goals as goal

pub returns-clause-one_place : goal.returns-clause-one_place
returns-clause-one_place c = same_steps

pub returns-clause-one_way : goal.returns-clause-one_way
returns-clause-one_way c f ss us at w = one_list f at w ss us

pub returns-clause-found : goal.returns-clause-found
returns-clause-found c = found_leads
