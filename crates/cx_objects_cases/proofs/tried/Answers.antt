use Rattle.cx_objects_cases.proofs.tried.Goals as goal

pub run-requires : goal.run-requires
run-requires g c = c.requires c.in_ok-sample.sample.types
