use Rattle.cx_scopes.proofs.Agreement.{member-agrees}
use Rattle.cx_scopes.proofs.Membered.{member-origin}
use Rattle.cx_scopes.proofs.Reached.{found-global, found-innermost, reached-spaces, spaces-led, spaces-reached}
use Rattle.cx_scopes.proofs.laws.lookups_in_other_words.Goals as goal

pub returns : goal.returns
returns c = record { innermost = found-innermost; global = found-global; member = member-origin; members_agree = member-agrees; class_spaces_reached = spaces-reached; reached_spaces = reached-spaces; type_spaces = spaces-led }
