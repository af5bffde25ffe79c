-- What the tokens ahead tell: whether variables come next or a function, a class or what one declares of it, and which member.
use Rattle.std.specs.Prelude.{Bool, not, ◌&&◌, ◌||◌, List, []}
use Rattle.cx_syntax.specs.declared.class.Class.TheVariants as k
use Rattle.cx_syntax.specs.declared.lexeme.Lexeme.{Lexeme}
use Rattle.cx_grammar.specs.Exact.{Outcome, done, stop}
use Rattle.cx_grammar.specs.Reading.{sees, sees_two}
use Rattle.cx_grammar.specs.Reads.{tail_of}
use Rattle.cx_grammar.specs.Sets.{of}
use Rattle.cx_syntax.specs.Classes.{class_at, is}
use Rattle.cx_syntax.specs.Ahead.{qtype_ahead}
use Rattle.cx_syntax.specs.Sets.{is_type, is_id}
use Rattle.cx_syntax_decls.specs.Sets.{is_key, is_final, begins_params, begins_qualified, leads_typed, begins_class_end, begins_class_body}

-- what is left behind what was read
abbrev pub rest_of : {A : Type 0} → Outcome Lexeme A → List Lexeme
rest_of (done v rest) = rest
rest_of (stop rule left) = []

-- ---- variables or a function ([dcl.decl], [dcl.fct])

-- Behind modifiers a type comes next, and no name that is declared: what only a type begins with, or a type's name.
abbrev pub named_next : List Lexeme → Bool
named_next ts = sees (of class_at leads_typed) ts || qtype_ahead ts

-- Behind a name and `(` only parameters can stand there, and no arguments: what only they begin with, or a type's name.
abbrev pub params_ahead : List Lexeme → Bool
params_ahead ts = sees (of class_at begins_params) ts || qtype_ahead ts

-- from a declared name on: a function, by what stands behind the name
abbrev pub function_behind : List Lexeme → Bool
function_behind ts = sees (is k.ColonColon) ts || (sees (is k.OpenParen) ts && params_ahead (tail_of ts))

-- a function comes next, behind `*` and `&`
abbrev pub function_ahead : List Lexeme → Bool
function_ahead ts = sees (of class_at begins_qualified) ts || (sees (of class_at is_id) ts && function_behind (tail_of ts))

-- a name and `(` come next
abbrev pub parens_ahead : List Lexeme → Bool
parens_ahead ts = sees_two (of class_at is_id) (is k.OpenParen) ts

-- ---- a class, or what is declared with its name ([class.pre])

-- behind a key and a TYPE: the end of a class
abbrev pub class_behind : List Lexeme → Bool
class_behind ts = sees (of class_at begins_class_end) ts || sees_two (of class_at is_final) (of class_at begins_class_body) ts

-- a class comes next: behind the key attributes, or a TYPE and the end of a class
abbrev pub class_ahead : List Lexeme → Bool
class_ahead ts = sees (of class_at is_key) ts && (sees (is k.OpenBracket) (tail_of ts) || (sees (of class_at is_type) (tail_of ts) && class_behind (tail_of (tail_of ts))))

-- ---- a member initializer ([class.base.init])

-- an ID that no `::` follows
abbrev pub id_alone : List Lexeme → Bool
id_alone ts = sees (of class_at is_id) ts && not (sees (is k.ColonColon) (tail_of ts))

-- ---- which member, behind attributes and modifiers ([class.ctor], [class.dtor])

abbrev pub dtor_ahead : List Lexeme → Bool
dtor_ahead ts = sees (is k.Tilde) ts

abbrev pub ctor_ahead : List Lexeme → Bool
ctor_ahead ts = sees_two (of class_at is_type) (is k.OpenParen) ts
