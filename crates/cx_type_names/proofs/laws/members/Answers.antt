use Rattle.cx_type_names.specs.Names.{names_in}
use Rattle.cx_type_names.proofs.Listed.{name-listed, standard-named}
use Rattle.cx_type_names.proofs.Sets.{contains-texts}
use Rattle.cx_type_names.proofs.laws.members.Goals as goal

pub returns-clause-test : goal.returns-clause-test
returns-clause-test c = λ tokens text. contains-texts (names_in tokens) text

pub returns-clause-standard : goal.returns-clause-standard
returns-clause-standard c = λ tokens text. standard-named text tokens

pub returns-clause-listed : goal.returns-clause-listed
returns-clause-listed c = λ tokens text. name-listed text tokens
