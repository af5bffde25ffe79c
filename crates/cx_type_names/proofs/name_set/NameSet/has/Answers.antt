use Rattle.std.proofs.Common.{ℕ, List, ◌∙◌, ap}
use Rattle.std.specs.FinSet.{contains}
use Rattle.std.specs.List.{list_any}
use Rattle.std.specs.Str.{bytes_eq}
use Rattle.cx_type_names.proofs.Sets.{has-text}
use Rattle.cx_type_names.proofs.name_set.NameSet.has.Goals as goal

pub returns : goal.returns
returns c =
    c.contains.ensures ∙ ap (λ (bytes : List ℕ). list_any (λ key. bytes_eq bytes key.items) c.self.inside.names.keys) c.as_slice.ensures
    ∙ has-text c.self.inside.names.keys c.args.name.now
    ∙ ap (λ names. contains names c.args.name.now) c.self.view_is
